-- How IEEE 754 (lib.Ieee) compares two numbers, in their signs and ordinals, once over its formats: finite numbers by their magnitudes, which grow with the
-- ordinals, and the infinities as the last ordinal that is no not-a-number.
use mathlib.Core.Path.{◌≡◌, refl, sym, ap, ap₂, ◌∙◌}
use mathlib.Core.Logic.{◌⊎◌, inl, inr}
use mathlib.Core.Bool.{Bool, true, false, not, ◌&&◌, ◌||◌, beq, cond, or-false}
use Prim.Native.Nat.{ℕ, suc, ◌+◌, ◌-◌, ◌*◌, ◌/◌, ◌%◌, ◌^◌, ◌≤◌, ◌<◌}
use native.Mathlib.Nat.{mul_assoc, mul_comm, mul_right_comm, zero-mul, mul-pos, mul-lt-mul_of_pos_right, lt_of_mul-lt-mul_right, mod-lt, div-lt_iff_lt-mul, le-div_iff_mul-le, div-add-mod', mod-mod_of_dvd, dvd-mul_right}
use native.Mathlib.Omega.{arith}
use borrow.Author.Tests.{lt-ltb, le-ltb, eq-eqb, ne_eqb}
use lib.Dec.{leb, ltb, eqb}
use lib.Pow.{pow_pos}
use lib.Ieee.{Float, nan, inf, fin, Format, prec, low, up, down, hid, ones, top, below, level, lt, eq, of_bits}
use lib.Ieee.Exact.{HasValue}
use lib.Ieee.Fits.{down_pos}
use Rattle.bins.specs.Tolerance.{magnitude}
use Rattle.bins.proofs.Law.Number.{le_or_lt}
use Rattle.bins.proofs.Law.Ieee.{finite_value, special_value}
use Rattle.summary.proofs.Law.Magnitude.{increasing, reflects, of_zero}

-- ---- two pairs of sizes that are in the same order compare alike

-- R x y: x stands for y. It keeps the order both ways, and 0 stands for 0.
module _ (R : ℕ → ℕ → Type 0) (none : R 0 0) (to : (u v a b : ℕ) → R u a → R v b → u < v → a < b) (fro : (u v a b : ℕ) → R u a → R v b → a < b → u < v) where
  no_less : (u v a b : ℕ) → R u a → R v b → b ≤ a → v ≤ u
  no_less u v a b p q h = elim (le_or_lt v u) [ inl l ↦ l | inr l ↦ absurd (omega (arith, to u v a b p q l, h)) ]

  less_same : (u v a b : ℕ) → R u a → R v b → ltb u v ≡ ltb a b
  less_same u v a b p q = go (le_or_lt b a)
    where
      go : (b ≤ a) ⊎ (a < b) → ltb u v ≡ ltb a b
      go (inl l) = le-ltb u v (no_less u v a b p q l) ∙ sym (le-ltb a b l)
      go (inr l) = lt-ltb u v (fro u v a b p q l) ∙ sym (lt-ltb a b l)

  equal_same : (u v a b : ℕ) → R u a → R v b → eqb u v ≡ eqb a b
  equal_same u v a b p q = go (le_or_lt b a) (le_or_lt a b)
    where
      go : (b ≤ a) ⊎ (a < b) → (a ≤ b) ⊎ (b < a) → eqb u v ≡ eqb a b
      go (inr l) k = ne_eqb u v (λ e. omega (arith, e, fro u v a b p q l)) ∙ sym (ne_eqb a b (λ e. omega (arith, e, l)))
      go (inl l) (inr k) = ne_eqb u v (λ e. omega (arith, e, fro v u b a q p k)) ∙ sym (ne_eqb a b (λ e. omega (arith, e, k)))
      go (inl l) (inl k) = eq-eqb u v (omega (arith, no_less u v a b p q l, no_less v u b a q p k)) ∙ sym (eq-eqb a b (omega arith))

  sum_same : (u v a b : ℕ) → R u a → R v b → ltb 0 (u + v) ≡ ltb 0 (a + b)
  sum_same u v a b p q = go (le_or_lt a 0) (le_or_lt b 0)
    where
      go : (a ≤ 0) ⊎ (0 < a) → (b ≤ 0) ⊎ (0 < b) → ltb 0 (u + v) ≡ ltb 0 (a + b)
      go (inr l) k = lt-ltb 0 (u + v) (omega (arith, fro 0 u 0 a none p l)) ∙ sym (lt-ltb 0 (a + b) (omega arith))
      go (inl l) (inr k) = lt-ltb 0 (u + v) (omega (arith, fro 0 v 0 b none q k)) ∙ sym (lt-ltb 0 (a + b) (omega arith))
      go (inl l) (inl k) = le-ltb 0 (u + v) (omega (arith, no_less 0 u 0 a none p l, no_less 0 v 0 b none q k)) ∙ sym (le-ltb 0 (a + b) (omega arith))

  below_same : (s t : Bool) (u v a b : ℕ) → R u a → R v b → below s u t v ≡ below s a t b
  below_same false false u v a b p q = less_same u v a b p q
  below_same false true u v a b p q = refl
  below_same true false u v a b p q = sum_same u v a b p q
  below_same true true u v a b p q = less_same v u b a q p

  level_same : (s t : Bool) (u v a b : ℕ) → R u a → R v b → level s u t v ≡ level s a t b
  level_same s t u v a b p q = ap₂ (λ (x y : Bool). x && (beq s t || y)) (equal_same u v a b p q) (equal_same u 0 a 0 p none)

-- ---- two floats compare as the signs and sizes do

abbrev pub Compares : Float → Float → Bool → ℕ → Bool → ℕ → Type 0
Compares x y s a t b = (lt x y ≡ below s a t b) × (eq x y ≡ level s a t b)

-- fractions: x / k is y / c
module _ (c k : ℕ) (some_c : 0 < c) (someK : 0 < k) where
  abbrev Scaled : ℕ → ℕ → Type 0
  Scaled x y = x * c ≡ y * k

  scaled_to : (u v a b : ℕ) → Scaled u a → Scaled v b → u < v → a < b
  scaled_to u v a b p q l = lt_of_mul-lt-mul_right k (let h : u * c < v * c = mul-lt-mul_of_pos_right l some_c in omega (arith, h, p, q))

  scaled_fro : (u v a b : ℕ) → Scaled u a → Scaled v b → a < b → u < v
  scaled_fro u v a b p q l = lt_of_mul-lt-mul_right c (let h : a * k < b * k = mul-lt-mul_of_pos_right l someK in omega (arith, h, p, q))

  scaled_none : Scaled 0 0
  scaled_none = omega (arith, zero-mul c, zero-mul k)

  scaled_compare : (s t : Bool) (u v a b : ℕ) → Scaled u a → Scaled v b → (below s u t v ≡ below s a t b) × (level s u t v ≡ level s a t b)
  scaled_compare s t u v a b p q = (below_same Scaled scaled_none scaled_to scaled_fro s t u v a b p q, level_same Scaled scaled_none scaled_to scaled_fro s t u v a b p q)

-- two finite floats, whose sizes are a / c and b / c
values_compare : (c : ℕ) → 0 < c → (x y : Float) (s t : Bool) (a b : ℕ) → HasValue x s a c → HasValue y t b c → Compares x y s a t b
unfolding lt eq
values_compare c some nan y s t a b h k = absurd h
values_compare c some (inf r) y s t a b h k = absurd h
values_compare c some (fin r m e) nan s t a b h k = absurd k
values_compare c some (fin r m e) (inf z) s t a b h k = absurd k
values_compare c some (fin r m e) (fin z n d) s t a b h k =
    rw (h.0, k.0)
    (scaled_compare c (down e * down d) some (mul-pos (down_pos e) (down_pos d)) s t (m * up e * down d) (n * up d * down e) a b
    (mul_right_comm (m * up e) (down d) c ∙ ap (λ (i : ℕ). i * down d) h.1 ∙ mul_assoc a (down e) (down d))
    (mul_right_comm (n * up d) (down e) c ∙ ap (λ (i : ℕ). i * down e) k.1 ∙ mul_assoc b (down d) (down e) ∙ ap (λ (i : ℕ). b * i) (mul_comm (down d) (down e))))

-- the sizes may be ordinals where they are magnitudes
module _ (m : ℕ) where
  abbrev Sized : ℕ → ℕ → Type 0
  Sized x o = x ≡ magnitude m o

  sized_to : (u v a b : ℕ) → Sized u a → Sized v b → u < v → a < b
  sized_to u v a b p q l = reflects m a b (rw (p, q) at l)

  sized_fro : (u v a b : ℕ) → Sized u a → Sized v b → a < b → u < v
  sized_fro u v a b p q l = rw (p, q) (increasing m a b l)

  sized_below : (s t : Bool) (a b : ℕ) → below s (magnitude m a) t (magnitude m b) ≡ below s a t b
  sized_below s t a b = below_same Sized (sym (of_zero m)) sized_to sized_fro s t (magnitude m a) (magnitude m b) a b refl refl

  sized_level : (s t : Bool) (a b : ℕ) → level s (magnitude m a) t (magnitude m b) ≡ level s a t b
  sized_level s t a b = level_same Sized (sym (of_zero m)) sized_to sized_fro s t (magnitude m a) (magnitude m b) a b refl refl

-- ---- an infinity beside a finite number

inf_right : (x : Float) (s t : Bool) (v c a end : ℕ) → HasValue x s v c → a < end → Compares x (inf t) s a t end
unfolding lt eq
inf_right nan s t v c a end h l = absurd h
inf_right (inf r) s t v c a end h l = absurd h
inf_right (fin r m e) s t v c a end h l = (is s t, sym (ap (λ (b : Bool). b && (beq s t || eqb a 0)) (ne_eqb a end (λ z. omega (arith, z, l)))))
  where
    is : (s t : Bool) → not t ≡ below s a t end
    is false false = sym (lt-ltb a end l)
    is false true = refl
    is true false = sym (lt-ltb 0 (a + end) (omega arith))
    is true true = sym (le-ltb end a (omega arith))

inf_left : (y : Float) (s t : Bool) (v c b end : ℕ) → HasValue y t v c → b < end → Compares (inf s) y s end t b
unfolding lt eq
inf_left nan s t v c b end h l = absurd h
inf_left (inf r) s t v c b end h l = absurd h
inf_left (fin r m e) s t v c b end h l = (is s t, sym (ap (λ (x : Bool). x && (beq s t || eqb end 0)) (ne_eqb end b (λ z. omega (arith, z, l)))))
  where
    is : (s t : Bool) → s ≡ below s end t b
    is false false = sym (le-ltb end b (omega arith))
    is false true = refl
    is true false = sym (lt-ltb 0 (end + b) (omega arith))
    is true true = sym (lt-ltb b end l)

inf_both : (s t : Bool) (end : ℕ) → 0 < end → Compares (inf s) (inf t) s end t end
unfolding lt eq
inf_both s t end some = (is s t, sym (ap₂ (λ (x y : Bool). x && (beq s t || y)) (eq-eqb end end refl) (ne_eqb end 0 (λ z. omega (arith, z, some))) ∙ or-false (beq s t)))
  where
    is : (s t : Bool) → (s && not t) ≡ below s end t end
    is false false = sym (le-ltb end end (omega arith))
    is false true = refl
    is true false = sym (lt-ltb 0 (end + end) (omega arith))
    is true true = sym (le-ltb end end (omega arith))

-- ---- the patterns of a format

module _ (f : Format) where
  -- the ordinal of the infinities, and above 0 it is
  abbrev pub end_of : ℕ
  end_of = ones f * hid f

  end_some : 0 < end_of
  end_some = mul-pos (let h : 0 < ones f = omega arith in h) (pow_pos (prec f - 1))

  -- a float that is no not-a-number, with its sign and its ordinal
  abbrev pub Number : Float → Bool → ℕ → Type 0
  Number x s o = (HasValue x s (magnitude (prec f - 1) o) (2 ^ low f) × (o < end_of)) ⊎ ((x ≡ inf s) × (o ≡ end_of))

  pub numbers_compare : (x y : Float) (s t : Bool) (a b : ℕ) → Number x s a → Number y t b → Compares x y s a t b
  numbers_compare x y s t a b (inl h) (inl k) =
      let is = values_compare (2 ^ low f) (pow_pos (low f)) x y s t (magnitude (prec f - 1) a) (magnitude (prec f - 1) b) h.0 k.0 in
      (is.0 ∙ sized_below (prec f - 1) s t a b, is.1 ∙ sized_level (prec f - 1) s t a b)
  numbers_compare x y s t a b (inl h) (inr k) = rw (k.0, k.1) (inf_right x s t (magnitude (prec f - 1) a) (2 ^ low f) a end_of h.0 h.1)
  numbers_compare x y s t a b (inr h) (inl k) = rw (h.0, h.1) (inf_left y s t (magnitude (prec f - 1) b) (2 ^ low f) b end_of k.0 k.1)
  numbers_compare x y s t a b (inr h) (inr k) = rw (h.0, h.1, k.0, k.1) (inf_both s t end_of end_some)

  -- ---- a pattern below the end, at it, and behind it

  -- an ordinal by its field and its digits, which are those of the pattern
  apart : (b : ℕ) → b % top f ≡ b % top f / hid f * hid f + b % hid f
  apart b =
      sym (div-add-mod' (b % top f) (hid f))
      ∙ ap (λ (t : ℕ). b % top f / hid f * hid f + t) (mod-mod_of_dvd (hid f) b (dvd-mul_right (hid f) (suc (ones f))))

  -- from the end on the field is that of the infinities
  last_field : (b : ℕ) → end_of ≤ b % top f → b % top f / hid f ≡ ones f
  last_field b l =
      let under : b % top f / hid f < suc (ones f) =
      (div-lt_iff_lt-mul (pow_pos (prec f - 1))).1 (omega (arith, mod-lt b (mul-pos (pow_pos (prec f - 1)) (let h : 0 < suc (ones f) = omega arith in h)), mul_comm (hid f) (suc (ones f)))) in
      let over : ones f ≤ b % top f / hid f = (le-div_iff_mul-le (pow_pos (prec f - 1))).1 l in
      omega arith

  -- so its digits are what the ordinal has above the end
  last_digits : (b : ℕ) → end_of ≤ b % top f → b % top f ≡ end_of + b % hid f
  last_digits b l = apart b ∙ ap (λ (x : ℕ). x * hid f + b % hid f) (last_field b l)

  pub number_bits : (b : ℕ) → b % top f ≤ end_of → Number (of_bits f b) (leb (top f) b) (b % top f)
  number_bits b h = go (le_or_lt end_of (b % top f))
    where
      go : (end_of ≤ b % top f) ⊎ (b % top f < end_of) → Number (of_bits f b) (leb (top f) b) (b % top f)
      go (inr l) = inl (finite_value f b ((div-lt_iff_lt-mul (pow_pos (prec f - 1))).1 l), l)
      go (inl l) =
          inr (special_value f b (last_field b l) ∙ ap (λ (t : Bool). cond t (inf (leb (top f) b)) nan) (eq-eqb (b % hid f) 0 (omega (arith, last_digits b l))), omega arith)

  pub nan_bits_lem : (b : ℕ) → end_of < b % top f → of_bits f b ≡ nan
  nan_bits_lem b l =
      let m : end_of ≤ b % top f = omega arith in
      special_value f b (last_field b m) ∙ ap (λ (t : Bool). cond t (inf (leb (top f) b)) nan) (ne_eqb (b % hid f) 0 (λ z. omega (arith, z, l, last_digits b m)))
