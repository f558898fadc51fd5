-- Sums, differences and comparisons of floats by their values, and a sum with 2 ^ m - 1/2, from which the nearest whole number is read, once over the formats.
use Rattle.std.proofs.Common.{◌≡◌, ℕ, suc, ◌+◌, ◌-◌, ◌*◌, ◌/◌, ◌%◌, ◌^◌, ◌<◌, ◌≤◌, Bool, true, false, cond, not, T, eqb, ltb, leb, ◌⊎◌, sym, refl, ap, ◌∙◌, subst, ap₂, inl, inr, le_trans, le_of_eq, le_refl, lt_of_lt_of_le, lt_of_le_of_lt, le_of_lt, mul-le-mul_right, mod-lt, mod-eq_of_lt, mul_assoc, suc-mul, mul_comm, div-lt_iff_lt-mul, add-mul, lt_of_mul-lt-mul_right, mul-lt-mul_of_pos_right, mul-pos, one-mul, lt_of_not-le, div-add-mod', le-div_iff_mul-le, zero-mul, mul-one, mul_right_comm, not-le_of_lt, mul_left_comm, arith, lit<, lit≤, eqb→eq, ltb→lt, lt→ltb, leb→le, pow_pos, pow_mono, pow-add, shl_lt}
use Prim.Native.Nat.{compare, Ordering}
use native.Mathlib.Nat.{mul-sub, div-eq_of_lt-le, eq_of_mul-eq-mul_right, two-pow-succ}
use lib.Arith.{lt_of_le-ne}
use lib.Dec.{is_le, compare_is_eq, nleb→lt, eqb_refl, not_T}
use lib.Pow.{pow-lt}
use lib.Ieee.{Float, nan, inf, fin, Format, binary32, binary64, prec, emax, low, up, down, size, nearest as ieee-nearest, round, sum, add, sub, neg, lt, below, hid, ones, top, of_bits, to_bits, fits, is_nan, nan_bits}
use lib.Ieee.Bits.{is_true, is_false, nan_bits_is, of_bits-to_bits}
use lib.Ieee.Digits.{size-le}
use lib.Ieee.Fits.{down_pos, nearest-le}
use lib.Ieee.Back.{round_whole}
use lib.Ieee.Exact.{HasValue, round_exact}
use lib.Ieee.Nearest.{closest, closest_same, nearest-ge}
use lib.Ieee.Order.{transfer}
use lib.Ieee.Scale.{round_same, grid, overflow, round_val}
use Rattle.bins.specs.Tolerance.{magnitude, ordinal_of, nearest}
use Rattle.bins.proofs.Law.Number.{le_or_lt}
use Rattle.bins.proofs.Law.Nearest.{over, over_small, nearest_none, nearest_half, nearest_other}
use Rattle.bins.proofs.Law.Float.{led, no_nan, bits_of_value}
use Rattle.bins.proofs.Law.Tolerance.{size_from, shift_of, ordinal_shifted, magnitude_at, magnitude_mono, magnitude_le, magnitude_back, ordinal_most}
use Rattle.bins.proofs.Law.Ieee.{finite_value, ordinal_value, special_value}

-- ---- by values

add_cross : (x c a de y d b dd : ℕ) → x * c ≡ a * de → y * d ≡ b * dd → (x * dd + y * de) * (c * d) ≡ (a * d + b * c) * (de * dd)
add_cross x c a de y d b dd p q =
    let l : x * dd * (c * d) ≡ a * d * (de * dd) = simp (mul_assoc, mul_comm, mul_left_comm) (simp (mul_assoc, mul_comm) at (ap (λ (z : ℕ). z * (dd * d)) p)) in
    let r : y * de * (c * d) ≡ b * c * (de * dd) = simp (mul_assoc, mul_comm, mul_left_comm) (simp (mul_assoc, mul_comm, mul_left_comm) at (ap (λ (z : ℕ). z * (de * c)) q)) in
    add-mul (x * dd) (y * de) (c * d) ∙ ap₂ ◌+◌ l r ∙ sym (add-mul (a * d) (b * c) (de * dd))

pub add_values : (f : Format) (x y : Float) (a c b d : ℕ) → 0 < c → 0 < d → HasValue x false a c → HasValue y false b d → add f x y ≡ round f false (a * d + b * c) (c * d)
unfolding add sum
add_values f nan y a c b d C D h k = absurd h
add_values f (inf s) y a c b d C D h k = absurd h
add_values f (fin s m e) nan a c b d C D h k = absurd k
add_values f (fin s m e) (inf t) a c b d C D h k = absurd k
add_values f (fin s m e) (fin t n g) a c b d C D h k =
    ap₂ (λ (p q : Bool). sum f p (m * up e * down g) q (n * up g * down e) (down e * down g)) h.0 k.0
    ∙ round_same f false (m * up e * down g + n * up g * down e) (down e * down g) (a * d + b * c) (c * d) (mul-pos (down_pos e) (down_pos g)) (mul-pos C D)
    (add_cross (m * up e) c a (down e) (n * up g) d b (down g) h.1 k.1)

-- a difference of two numbers of c-ths
pub suwhole_iss : (f : Format) (x y : Float) (a b c : ℕ) → 0 < c → b ≤ a → HasValue x false a c → HasValue y false b c → sub f x y ≡ round f false (a - b) c
unfolding sub add neg sum
suwhole_iss f nan y a b c D l h k = absurd h
suwhole_iss f (inf s) y a b c D l h k = absurd h
suwhole_iss f (fin s m e) nan a b c D l h k = absurd k
suwhole_iss f (fin s m e) (inf t) a b c D l h k = absurd k
suwhole_iss f (fin s m e) (fin t n g) a b c D l h k =
    let C = down e * down g in
    let p = m * up e * down g in
    let q = n * up g * down e in
    let A : p * c ≡ a * C = mul_right_comm (m * up e) (down g) c ∙ ap (λ (z : ℕ). z * down g) h.1 ∙ mul_assoc a (down e) (down g) in
    let B : q * c ≡ b * C = mul_right_comm (n * up g) (down e) c ∙ ap (λ (z : ℕ). z * down e) k.1 ∙ mul_assoc b (down g) (down e) ∙ ap (λ (z : ℕ). b * z) (mul_comm (down g) (down e)) in
    let no : ltb p q ≡ false = is_false (ltb p q) (not_T (ltb p q) (λ (z : T (ltb p q)). not-le_of_lt (mul-lt-mul_of_pos_right (ltb→lt p q z) D) (le_trans (le_of_eq B) (le_trans (mul-le-mul_right C l) (le_of_eq (sym A)))))) in
    ap₂ (λ (u v : Bool). sum f u p (not v) q C) h.0 k.0
    ∙ ap (λ (z : Bool). cond z (round f true (q - p) C) (round f false (p - q) C)) no
    ∙ round_same f false (p - q) C (a - b) c (mul-pos (down_pos e) (down_pos g)) D
    (mul_comm (p - q) c ∙ mul-sub c p q ∙ ap₂ ◌-◌ (mul_comm c p ∙ A ∙ mul_comm a C) (mul_comm c q ∙ B ∙ mul_comm b C) ∙ sym (mul-sub C a b) ∙ mul_comm C (a - b))

-- the order of two values
pub lt_then : (x y : Float) (a c b d : ℕ) → 0 < c → 0 < d → HasValue x false a c → HasValue y false b d → T (lt x y) → a * d < b * c
unfolding lt
lt_then nan y a c b d C D h k t = absurd h
lt_then (inf s) y a c b d C D h k t = absurd h
lt_then (fin s m e) nan a c b d C D h k t = absurd k
lt_then (fin s m e) (inf z) a c b d C D h k t = absurd k
lt_then (fin s m e) (fin z n g) a c b d C D h k t =
    let t' : T (ltb (m * up e * down g) (n * up g * down e)) = subst (λ (q : Bool). T (below false (m * up e * down g) q (n * up g * down e))) k.0 (subst (λ (p : Bool). T (below p (m * up e * down g) z (n * up g * down e))) h.0 t) in
    lt_of_not-le (λ (l : b * c ≤ a * d). not-le_of_lt (ltb→lt (m * up e * down g) (n * up g * down e) t') (transfer (n * up g) (m * up e) (down g) (down e) b a d c D C k.1 h.1 l))

pub lt_else : (x y : Float) (a c b d : ℕ) → 0 < c → 0 < d → HasValue x false a c → HasValue y false b d → T (not (lt x y)) → b * c ≤ a * d
unfolding lt
lt_else nan y a c b d C D h k t = absurd h
lt_else (inf s) y a c b d C D h k t = absurd h
lt_else (fin s m e) nan a c b d C D h k t = absurd k
lt_else (fin s m e) (inf z) a c b d C D h k t = absurd k
lt_else (fin s m e) (fin z n g) a c b d C D h k t =
    let A = m * up e * down g in
    let B = n * up g * down e in
    let t' : T (not (ltb A B)) = subst (λ (q : Bool). T (not (below false A q B))) k.0 (subst (λ (p : Bool). T (not (below p A z B))) h.0 t) in
    let l : B ≤ A = go (le_or_lt B A) t' in
    transfer b a d c (n * up g) (m * up e) (down g) (down e) (down_pos g) (down_pos e) (sym k.1) (sym h.1) l
  where
    go : {A B : ℕ} → (B ≤ A) ⊎ (A < B) → T (not (ltb A B)) → B ≤ A
    go (inl l) u = l
    go {A} {B} (inr l) u = absurd (subst (λ (q : Bool). T (not q)) (is_true (ltb A B) (lt→ltb A B l)) u)

-- ---- the ordinal of a float that has a value, and the test of one against another with d more in its ordinal

-- two fractions that one float is
same_value : (x : Float) (s t : Bool) (a c b d : ℕ) → HasValue x s a c → HasValue x t b d → a * d ≡ b * c
same_value nan s t a c b d h k = absurd h
same_value (inf z) s t a c b d h k = absurd h
same_value (fin z m e) s t a c b d h k =
    eq_of_mul-eq-mul_right (down e) (down_pos e) (a * d) (b * c)
    (mul_right_comm a d (down e) ∙ ap (λ (n : ℕ). n * d) (sym h.1) ∙ mul_right_comm (m * up e) c d ∙ ap (λ (n : ℕ). n * c) k.1 ∙ mul_right_comm b (down e) c)

value_times : (x : Float) (k d b : ℕ) → HasValue x false k d → HasValue x false (k * b) (d * b)
value_times nan k d b h = h
value_times (inf s) k d b h = h
value_times (fin s m e) k d b h = (h.0, sym (mul_assoc (m * up e) d b) ∙ ap (λ (n : ℕ). n * b) h.1 ∙ mul_right_comm k (down e) b)

on_grid : (f : Format) (x : Float) (a c : ℕ) → T (fits f x) → HasValue x false a c → (o : ℕ) × (magnitude (prec f - 1) o * c ≡ a * 2 ^ low f)
on_grid f x a c F X = (o % top f, go (le_or_lt (ones f) (o % top f / hid f)))
  where
    o : ℕ
    o = to_bits f x

    own : HasValue (of_bits f o) false a c
    own = subst (λ (z : Float). HasValue z false a c) (sym (of_bits-to_bits f x F)) X

    special : (b s : Bool) → HasValue (cond b (inf s) nan) false a c → ⊥
    special true s h = h
    special false s h = h

    go : (ones f ≤ o % top f / hid f) ⊎ (o % top f / hid f < ones f) → magnitude (prec f - 1) (o % top f) * c ≡ a * 2 ^ low f
    go (inr h) = same_value (of_bits f o) (leb (top f) o) false (magnitude (prec f - 1) (o % top f)) (2 ^ low f) a c (finite_value f o h) own
    go (inl h) =
        let most : o % top f / hid f < suc (ones f) = (div-lt_iff_lt-mul (pow_pos (prec f - 1))).1 (lt_of_lt_of_le (mod-lt o (mul-pos (pow_pos (prec f - 1)) (let q : 0 < suc (ones f) = omega arith in q))) (le_of_eq (mul_comm (hid f) (suc (ones f))))) in
        absurd (special (eqb (o % hid f) 0) (leb (top f) o) (subst (λ (z : Float). HasValue z false a c) (special_value f o (omega arith)) own))

-- ---- the nearest whole number is at most a half away

abbrev pub Cmp : Ordering → ℕ → ℕ → Type 0
Cmp Ordering.lt a b = a < b
Cmp Ordering.eq a b = a ≡ b
Cmp Ordering.gt a b = b < a

pub cmp : (a b : ℕ) → Cmp (compare a b) a b
cmp a b = go (compare a b) (leb→le a b) (nleb→lt a b) (eqb→eq a b) (λ (e : a ≡ b). subst (λ (x : ℕ). T (eqb a x)) e (eqb_refl a))
  where
    go : (o : Ordering) → (T (is_le o) → a ≤ b) → (T (not (is_le o)) → b < a) → (T (compare_is_eq o) → a ≡ b) → (a ≡ b → T (compare_is_eq o)) → Cmp o a b
    go Ordering.lt h k e n = lt_of_le-ne (h tt) n
    go Ordering.eq h k e n = e tt
    go Ordering.gt h k e n = k tt

abbrev pub Half : ℕ → ℕ → ℕ → Type 0
Half k n c = (2 * n ≤ 2 * (k * c) + c) × (2 * (k * c) ≤ 2 * n + c)

half_by : (w r n c : ℕ) (o : Ordering) → w * c + r ≡ n → r < c → Cmp o (r * 2) c → Half (ieee-nearest w o) n c
half_by w r n c Ordering.lt e l h = (omega arith, omega arith)
half_by w r n c Ordering.gt e l h = (omega (arith, suc-mul w c), omega (arith, suc-mul w c))
half_by w r n c Ordering.eq e l h = go (le_or_lt (w % 2) 0)
  where
    go : (w % 2 ≤ 0) ⊎ (0 < w % 2) → Half (w + w % 2) n c
    go (inl z) = subst (λ (k : ℕ). Half k n c) (let q : w ≡ w + w % 2 = omega arith in q) (omega arith, omega arith)
    go (inr z) = subst (λ (k : ℕ). Half k n c) (let q : suc w ≡ w + w % 2 = omega (arith, mod-lt w (let t : 0 < 2 = lit< tt in t)) in q) (omega (arith, suc-mul w c), omega (arith, suc-mul w c))

pub closest_half : (n c : ℕ) → 0 < c → Half (closest n c) n c
closest_half n c C = half_by (n / c) (n % c) n c (compare (n % c * 2) c) (div-add-mod' n c) (mod-lt n C) (cmp (n % c * 2) c)

-- ---- a number whose digits end at 2 ^ i of the smallest units is rounded to those

module _ (f : Format) (n c i : ℕ) (C : 0 < c) where
  abbrev m : ℕ
  m = prec f - 1

  abbrev l : ℕ
  l = low f

  abbrev d : ℕ
  d = c * 2 ^ i

  abbrev pub K : ℕ
  K = closest (n * 2 ^ l) d

  D : 0 < d
  D = mul-pos C (pow_pos i)

  pub twice : 2 ^ prec f ≡ 2 ^ m + 2 ^ m
  twice = ap (λ (p : ℕ). 2 ^ p) (sym (led f)) ∙ two-pow-succ m

  module _ (lo : 2 ^ m * d ≤ n * 2 ^ l) (hi : n * 2 ^ l < 2 ^ prec f * d) where
    moved : (p : ℕ) → 2 ^ p * d ≡ 2 ^ (p + i) * c
    moved p = sym (mul_assoc (2 ^ p) c (2 ^ i)) ∙ mul_right_comm (2 ^ p) c (2 ^ i) ∙ ap (λ (z : ℕ). z * c) (sym (pow-add 2 p i))

    digits_are : size (n * 2 ^ l / c) - prec f ≡ i
    digits_are =
        omega (
          arith,
          led f,
          size-le (n * 2 ^ l / c) (prec f + i) ((div-lt_iff_lt-mul C).1 (lt_of_lt_of_le hi (le_of_eq (moved (prec f))))),
          size_from (n * 2 ^ l / c) (m + i) ((le-div_iff_mul-le C).1 (le_trans (le_of_eq (sym (moved m))) lo)),
        )

    pub K_most : K ≤ 2 ^ prec f
    K_most = le_trans (nearest-le (n * 2 ^ l / d) (compare (n * 2 ^ l % d * 2) d)) ((div-lt_iff_lt-mul D).1 hi)

    pub K_least : 2 ^ m ≤ K
    K_least = le_trans ((le-div_iff_mul-le D).1 lo) (nearest-ge (n * 2 ^ l / d) (compare (n * 2 ^ l % d * 2) d))

    module _ (low-digits : i ≤ l) where
      pub rounded_value : HasValue (round f false n c) false (K * 2 ^ i) (2 ^ l)
      rounded_value =
          let grid-is : grid f n c ≡ K * 2 ^ i = ap (λ (k : ℕ). closest (n * 2 ^ l) (c * 2 ^ k) * 2 ^ k) digits_are in
          subst (λ (z : ℕ). HasValue (round f false n c) false z (2 ^ l)) grid-is (round_val f n c (subst (λ (z : ℕ). z < overflow f) (sym grid-is) small))
        where
          spare : (f : Format) → prec f + low f < low f + suc (emax f)
          spare binary32 = lit< tt
          spare binary64 = lit< tt

          small : K * 2 ^ i < overflow f
          small = lt_of_le_of_lt (le_trans (mul-le-mul_right (2 ^ i) K_most) (le_of_eq (sym (pow-add 2 (prec f) i)))) (pow-lt (let e : prec f + i < l + suc (emax f) = omega (arith, spare f) in e))

      -- its pattern: i + 1 in the exponent's field, and K without its highest digit
      pub rounded_bits : to_bits f (round f false n c) ≡ i * 2 ^ m + K
      rounded_bits = bits_of_value f (round f false n c) (K * 2 ^ i) rounded_value ∙ go (le_or_lt (2 ^ prec f) K)
        where
          at : (u j : ℕ) → 2 ^ m ≤ u → u < 2 ^ suc m → ordinal_of m (u * 2 ^ j) ≡ j * 2 ^ m + u
          at u j g s =
              let none : shift_of m u j ≡ 0 = omega (arith, size_from u m g) in
              ordinal_shifted m u j (lt_of_lt_of_le (pow_pos m) g) s
              ∙ ap (λ (z : ℕ). (j - z) * 2 ^ m + u * 2 ^ z) none
              ∙ ap₂ (λ (y z : ℕ). y * 2 ^ m + z) (let e : j - 0 ≡ j = omega arith in e) (mul-one u)

          go : (2 ^ prec f ≤ K) ⊎ (K < 2 ^ prec f) → ordinal_of m (K * 2 ^ i) ≡ i * 2 ^ m + K
          go (inr s) = at K i K_least (subst (λ (p : ℕ). K < 2 ^ p) (sym (led f)) s)
          go (inl s) =
              let e : K ≡ 2 ^ m * 2 = omega (arith, K_most, twice) in
              ap (ordinal_of m) (ap (λ (z : ℕ). z * 2 ^ i) e ∙ mul_assoc (2 ^ m) 2 (2 ^ i) ∙ ap (λ (z : ℕ). 2 ^ m * z) (let q : 2 * 2 ^ i ≡ 2 ^ suc i = omega (arith, two-pow-succ i) in q))
              ∙ at (2 ^ m) (suc i) (le_refl (2 ^ m)) (omega (arith, two-pow-succ m, pow_pos m))
              ∙ (let q : suc i * 2 ^ m + 2 ^ m ≡ i * 2 ^ m + K = omega (arith, suc-mul i (2 ^ m)) in q)

-- ---- whole numbers as floats, from their digits

pub value_cancel : (x : Float) (k d b : ℕ) → 0 < b → HasValue x false (k * b) (d * b) → HasValue x false k d
value_cancel nan k d b B h = h
value_cancel (inf s) k d b B h = h
value_cancel (fin s m e) k d b B h = (h.0, eq_of_mul-eq-mul_right b B (m * up e * d) (k * down e) (mul_assoc (m * up e) d b ∙ h.1 ∙ mul_right_comm k b (down e)))

middle : (f : Format) → suc (low f) < ones f
middle binary32 = lit< tt
middle binary64 = lit< tt

module _ (f : Format) (u : ℕ) (small : u < 2 ^ (prec f - 1)) where
  abbrev b : ℕ
  b = suc (low f) * 2 ^ (prec f - 1) + u

  b_field : b / 2 ^ (prec f - 1) ≡ suc (low f)
  b_field = div-eq_of_lt-le (2 ^ (prec f - 1)) (omega arith) (omega (arith, add-mul (suc (low f)) 1 (2 ^ (prec f - 1)), one-mul (2 ^ (prec f - 1))))

  b_top : b < top f
  b_top =
      lt_of_lt_of_le (let e : b < suc (suc (low f)) * 2 ^ (prec f - 1) = omega (arith, suc-mul (suc (low f)) (2 ^ (prec f - 1))) in e)
      (le_trans (mul-le-mul_right (2 ^ (prec f - 1)) (let e : suc (suc (low f)) ≤ suc (ones f) = omega (arith, middle f) in e)) (le_of_eq (mul_comm (suc (ones f)) (2 ^ (prec f - 1)))))

  -- u without a gap below 2 ^ m, as the digits of 2 ^ m + u
  pub whole_is : HasValue (of_bits f b) false (2 ^ (prec f - 1) + u) 1
  whole_is =
      value_cancel (of_bits f b) (2 ^ (prec f - 1) + u) 1 (2 ^ low f) (pow_pos (low f))
      (subst (λ (z : ℕ). HasValue (of_bits f b) false ((2 ^ (prec f - 1) + u) * 2 ^ low f) z) (sym (one-mul (2 ^ low f)))
      (subst (λ (z : Bool). HasValue (of_bits f b) z ((2 ^ (prec f - 1) + u) * 2 ^ low f) (2 ^ low f)) (is_false (leb (top f) b) (not_T (leb (top f) b) (λ (v : T (leb (top f) b)). omega (arith, leb→le (top f) b v, b_top))))
      (subst (λ (z : ℕ). HasValue (of_bits f b) (leb (top f) b) z (2 ^ low f)) magnitude_is
      (finite_value f b (subst (λ (z : ℕ). z / hid f < ones f) (sym (mod-eq_of_lt b_top)) (subst (λ (z : ℕ). z < ones f) (sym b_field) (middle f)))))))
    where
      magnitude_is : magnitude (prec f - 1) (b % top f) ≡ (2 ^ (prec f - 1) + u) * 2 ^ low f
      magnitude_is =
          ap (magnitude (prec f - 1)) (mod-eq_of_lt b_top ∙ (let e : b ≡ low f * 2 ^ (prec f - 1) + (2 ^ (prec f - 1) + u) = omega (arith, suc-mul (low f) (2 ^ (prec f - 1))) in e))
          ∙ magnitude_at (prec f - 1) (low f) (2 ^ (prec f - 1) + u) (omega arith) (inr (let e : 2 ^ (prec f - 1) ≤ 2 ^ (prec f - 1) + u = omega arith in e))

  pub digits_no_nan : T (not (nan_bits f b))
  digits_no_nan = subst (λ (z : Bool). T (not z)) (sym (nan_bits_is f b)) (no_nan (of_bits f b) false (2 ^ (prec f - 1) + u) 1 whole_is)

  pub digits_value : (y : Float) → HasValue y false (2 ^ (prec f - 1)) 1 → HasValue (sub f (of_bits f b) y) false u 1
  digits_value y Y =
      subst (λ (z : Float). HasValue z false u 1)
      (sym (suwhole_iss f (of_bits f b) y (2 ^ (prec f - 1) + u) (2 ^ (prec f - 1)) 1 (lit< tt) (let e : 2 ^ (prec f - 1) ≤ 2 ^ (prec f - 1) + u = omega arith in e) whole_is Y
      ∙ ap (λ (z : ℕ). round f false z 1) (let e : 2 ^ (prec f - 1) + u - 2 ^ (prec f - 1) ≡ u = omega arith in e)))
      (round_whole f false u (let e : u ≤ 2 ^ prec f = le_trans (le_of_lt small) (pow_mono (let q : prec f - 1 ≤ prec f = omega arith in q)) in e))

-- ---- a sum r of a / c with 2 ^ m - 1/2, and t, what it has grown by: which of two neighbours r is, the test a / c < t tells

-- What the answer rests on: r's pattern counts from that of 2 ^ m - 1/2, and is the nearest whole number, or the next one where t is above a / c. Where a half
-- has to go down from an odd number, the float behind t is compared.
pub record Settled (f : Format) (a c : ℕ) (x y : Float) : Type 0 where
  pub next : ℕ
  pub small : next ≤ 2 ^ (prec f - 1)
  pub pattern : to_bits f (add f x y) ≡ low f * 2 ^ (prec f - 1) + 2 ^ (prec f - 1) - 1 + next
  pub number : T (not (is_nan (add f x y)))
  pub grown_number : T (not (is_nan (sub f (add f x y) y)))
  pub grown_small : to_bits f (sub f (add f x y) y) < suc (low f) * 2 ^ (prec f - 1)
  pub half_number : (d : ℕ) → d ≤ 1 → T (not (nan_bits f (to_bits f (sub f (add f x y) y) + d)))
  pub if_below : (rule : ℕ) → T (lt x (of_bits f (to_bits f (sub f (add f x y) y) + over rule next))) → suc (nearest rule a c) ≡ next
  pub if_above : (rule : ℕ) → T (not (lt x (of_bits f (to_bits f (sub f (add f x y) y) + over rule next)))) → nearest rule a c ≡ next

half_low : (f : Format) → 2 ^ low f ≡ 2 ^ (low f - 1) * 2
half_low binary32 = refl
half_low binary64 = refl

low_some : (f : Format) → suc (low f - 1) ≡ low f
low_some binary32 = refl
low_some binary64 = refl

room : (f : Format) → prec f + (low f - 1) ≤ low f + suc (emax f)
room binary32 = lit≤ tt
room binary64 = lit≤ tt

module _ (f : Format) (a c : ℕ) (C : 0 < c) (under : a < 2 ^ (prec f - 1) * c) (x y : Float) (F : T (fits f x)) (X : HasValue x false a c) (Y : HasValue y false (2 * 2 ^ (prec f - 1) - 1) 2) where
  abbrev P : ℕ
  P = 2 ^ (prec f - 1)

  abbrev M : ℕ
  M = 2 * P - 1

  abbrev n : ℕ
  n = a * 2 + M * c

  abbrev r : Float
  r = add f x y

  two_c : 0 < c * 2
  two_c = omega arith

  P_some : 0 < P
  P_some = pow_pos (prec f - 1)

  M_times : M * c + c ≡ 2 * (P * c)
  M_times = (let e : M * c + c ≡ suc M * c = omega (arith, suc-mul M c) in e) ∙ ap (λ (z : ℕ). z * c) (let e : suc M ≡ 2 * P = omega (arith, P_some) in e) ∙ mul_assoc 2 P c

  r_is : r ≡ round f false n (c * 2)
  r_is = add_values f x y a c M 2 C (lit< tt) X Y

  -- t, where r is J halves
  module _ (J : ℕ) (least : M ≤ J) (few : J - M < 2 ^ prec f) (R : HasValue r false J 2) where
    t_value : HasValue (sub f r y) false (J - M) 2
    t_value =
        subst (λ (v : Float). HasValue v false (J - M) 2) (sym (suwhole_iss f r y J M 2 (lit< tt) least R Y))
        (round_exact f false (J - M) 2 (J - M) (low f - 1) (lit< tt) few (lt_of_lt_of_le (shl_lt (prec f) (low f - 1) few) (pow_mono (room f)))
        (ap (λ (v : ℕ). (J - M) * v) (half_low f) ∙ sym (mul_assoc (J - M) (2 ^ (low f - 1)) 2)))

    abbrev t : Float
    t = sub f r y

    abbrev H : ℕ
    H = J - M

    half_units : 2 * 2 ^ (low f - 1) ≡ 2 ^ low f
    half_units = mul_comm 2 (2 ^ (low f - 1)) ∙ sym (half_low f)

    digits : H < 2 ^ suc (prec f - 1)
    digits = lt_of_lt_of_le few (le_of_eq (ap (λ (p : ℕ). 2 ^ p) (sym (led f))))

    t_bits : to_bits f t ≡ ordinal_of (prec f - 1) (H * 2 ^ (low f - 1))
    t_bits = bits_of_value f t (H * 2 ^ (low f - 1)) (subst (λ (z : ℕ). HasValue t false (H * 2 ^ (low f - 1)) z) half_units (value_times t H 2 (2 ^ (low f - 1)) t_value))

    t_magnitude : magnitude (prec f - 1) (to_bits f t) ≡ H * 2 ^ (low f - 1)
    t_magnitude = ap (magnitude (prec f - 1)) t_bits ∙ magnitude_back (prec f - 1) H (low f - 1) digits

    t_small : to_bits f t < suc (low f) * 2 ^ (prec f - 1)
    t_small = rw t_bits (lt_of_lt_of_le (ordinal_most (prec f - 1) H (low f - 1) digits) (le_of_eq (ap (λ (z : ℕ). suc z * 2 ^ (prec f - 1)) (low_some f))))

    -- x as a / c beside t as H halves, from the order of their ordinals
    module _ (o : ℕ) (G : magnitude (prec f - 1) o * c ≡ a * 2 ^ low f) where
      abbrev g : ℕ
      g = 2 ^ (low f - 1)

      x_side : magnitude (prec f - 1) o * c ≡ a * 2 * g
      x_side = G ∙ ap (λ (z : ℕ). a * z) (sym half_units) ∙ sym (mul_assoc a 2 g)

      t_side : magnitude (prec f - 1) (to_bits f t) * c ≡ H * c * g
      t_side = ap (λ (z : ℕ). z * c) t_magnitude ∙ mul_right_comm H g c

      less : o < to_bits f t → a * 2 < H * c
      less h = lt_of_mul-lt-mul_right g (le_trans (le_of_eq (ap suc (sym x_side))) (le_trans (mul-lt-mul_of_pos_right (magnitude_mono (prec f - 1) o (to_bits f t) h) C) (le_of_eq t_side)))

      same : o ≡ to_bits f t → a * 2 ≡ H * c
      same e = eq_of_mul-eq-mul_right g (pow_pos (low f - 1)) (a * 2) (H * c) (sym x_side ∙ ap (λ (z : ℕ). magnitude (prec f - 1) z * c) e ∙ t_side)

      more : to_bits f t < o → H * c < a * 2
      more h = lt_of_mul-lt-mul_right g (le_trans (le_of_eq (ap suc (sym t_side))) (le_trans (mul-lt-mul_of_pos_right (magnitude_mono (prec f - 1) (to_bits f t) o h) C) (le_of_eq x_side)))

      module _ (d : ℕ) (one : d ≤ 1) where
        abbrev half : Float
        half = of_bits f (to_bits f t + d)

        half_value : HasValue half false (magnitude (prec f - 1) (to_bits f t + d)) (2 ^ low f)
        half_value =
            ordinal_value f (to_bits f t + d)
            (lt_of_le_of_lt (let e : to_bits f t + d ≤ suc (low f) * 2 ^ (prec f - 1) = omega (arith, t_small) in e) (mul-lt-mul_of_pos_right (middle f) (pow_pos (prec f - 1))))

        above : T (lt x half) → a * 2 < H * c + d
        above z =
            let cross : a * 2 ^ low f < magnitude (prec f - 1) (to_bits f t + d) * c = lt_then x half a c (magnitude (prec f - 1) (to_bits f t + d)) (2 ^ low f) C (pow_pos (low f)) X half_value z in
            go (le_or_lt (to_bits f t) o) (le_or_lt (to_bits f t + d) o) (subst (λ (n : ℕ). n < magnitude (prec f - 1) (to_bits f t + d) * c) (sym G) cross)
          where
            go : (to_bits f t ≤ o) ⊎ (o < to_bits f t) → (to_bits f t + d ≤ o) ⊎ (o < to_bits f t + d) → magnitude (prec f - 1) o * c < magnitude (prec f - 1) (to_bits f t + d) * c → a * 2 < H * c + d
            go (inr h) w l = omega (arith, less h)
            go (inl h) (inr w) l = omega (arith, same (omega arith))
            go (inl h) (inl w) l = absurd (not-le_of_lt l (mul-le-mul_right c (magnitude_le (prec f - 1) (to_bits f t + d) o w)))

        below_it : T (not (lt x half)) → H * c + d ≤ a * 2
        below_it z =
            let cross : magnitude (prec f - 1) (to_bits f t + d) * c ≤ a * 2 ^ low f = lt_else x half a c (magnitude (prec f - 1) (to_bits f t + d)) (2 ^ low f) C (pow_pos (low f)) X half_value z in
            go (le_or_lt o (to_bits f t)) (le_or_lt (to_bits f t + d) o) (subst (λ (n : ℕ). magnitude (prec f - 1) (to_bits f t + d) * c ≤ n) (sym G) cross)
          where
            go : (o ≤ to_bits f t) ⊎ (to_bits f t < o) → (to_bits f t + d ≤ o) ⊎ (o < to_bits f t + d) → magnitude (prec f - 1) (to_bits f t + d) * c ≤ magnitude (prec f - 1) o * c → H * c + d ≤ a * 2
            go (inr h) w l = omega (arith, more h)
            go (inl h) (inl w) l = omega (arith, same (omega arith))
            go (inl h) (inr w) l = absurd (not-le_of_lt (mul-lt-mul_of_pos_right (magnitude_mono (prec f - 1) o (to_bits f t + d) w) C) l)

    half_no_nan : (d : ℕ) → d ≤ 1 → T (not (nan_bits f (to_bits f t + d)))
    half_no_nan d one =
        let G = on_grid f x a c F X in
        subst (λ (z : Bool). T (not z)) (sym (nan_bits_is f (to_bits f t + d))) (no_nan (of_bits f (to_bits f t + d)) false (magnitude (prec f - 1) (to_bits f t + d)) (2 ^ low f) (half_value G.0 G.1 d one))

    t_above : (d : ℕ) → d ≤ 1 → T (lt x (of_bits f (to_bits f t + d))) → a * 2 < H * c + d
    t_above d one = let G = on_grid f x a c F X in above G.0 G.1 d one

    t_below : (d : ℕ) → d ≤ 1 → T (not (lt x (of_bits f (to_bits f t + d)))) → H * c + d ≤ a * 2
    t_below d one = let G = on_grid f x a c F X in below_it G.0 G.1 d one

  P_times : c ≤ P * c
  P_times = le_trans (le_of_eq (sym (one-mul c))) (mul-le-mul_right c P_some)

  both : 2 ^ prec f ≡ 2 * P
  both = ap (λ (p : ℕ). 2 ^ p) (sym (led f)) ∙ (let e : 2 ^ suc (prec f - 1) ≡ 2 * P = omega (arith, two-pow-succ (prec f - 1)) in e)

  -- below a half r is 2 ^ m - 1/2 or 2 ^ m
  module _ (less : 2 * a < c) where
    unit : c * 2 * 2 ^ (low f - 1) ≡ c * 2 ^ low f
    unit = mul_assoc c 2 (2 ^ (low f - 1)) ∙ ap (λ (z : ℕ). c * z) (mul_comm 2 (2 ^ (low f - 1)) ∙ sym (half_low f))

    abbrev k : ℕ
    k = K f n (c * 2) (low f - 1) two_c

    k_lo : P * (c * 2 * 2 ^ (low f - 1)) ≤ n * 2 ^ low f
    k_lo = le_trans (le_of_eq (ap (λ (z : ℕ). P * z) unit ∙ sym (mul_assoc P c (2 ^ low f)))) (mul-le-mul_right (2 ^ low f) (let e : P * c ≤ n = omega (arith, M_times, P_times) in e))

    k_hi : n * 2 ^ low f < 2 ^ prec f * (c * 2 * 2 ^ (low f - 1))
    k_hi =
        lt_of_lt_of_le (mul-lt-mul_of_pos_right (let e : n < 2 ^ prec f * c = omega (arith, M_times, ap (λ (z : ℕ). z * c) both ∙ mul_assoc 2 P c) in e) (pow_pos (low f)))
        (le_of_eq (mul_assoc (2 ^ prec f) c (2 ^ low f) ∙ ap (λ (z : ℕ). 2 ^ prec f * z) (sym unit)))

    k_is : k ≡ closest n c
    k_is = closest_same (n * 2 ^ low f) (c * 2 * 2 ^ (low f - 1)) n c (mul-pos two_c (pow_pos (low f - 1))) C (mul_assoc n (2 ^ low f) c ∙ ap (λ (z : ℕ). n * z) (mul_comm (2 ^ low f) c ∙ sym unit))

    k_least : M ≤ k
    k_least = le_trans ((le-div_iff_mul-le C).1 (let e : M * c ≤ n = omega arith in e)) (le_trans (nearest-ge (n / c) (compare (n % c * 2) c)) (le_of_eq (sym k_is)))

    k_most : k ≤ M + 1
    k_most = omega (arith, K_most f n (c * 2) (low f - 1) two_c k_lo k_hi, both, P_some)

    k_value : HasValue r false k 2
    k_value =
        subst (λ (z : Float). HasValue z false k 2) (sym r_is)
        (value_cancel (round f false n (c * 2)) k 2 (2 ^ (low f - 1)) (pow_pos (low f - 1))
        (subst (λ (z : ℕ). HasValue (round f false n (c * 2)) false (k * 2 ^ (low f - 1)) z) (half_low f ∙ mul_comm (2 ^ (low f - 1)) 2)
        (rounded_value f n (c * 2) (low f - 1) two_c k_lo k_hi (let e : low f - 1 ≤ low f = omega arith in e))))

    k_few : k - M < 2 ^ prec f
    k_few = omega (arith, k_most, both, P_some)

    none : (rule : ℕ) → nearest rule a c ≡ 0
    none rule = nearest_none rule a c C less

    settled_low : Settled f a c x y
    settled_low = record {
      next = k - M;
      small = omega (arith, k_most, P_some);
      pattern =
          ap (to_bits f) r_is ∙ rounded_bits f n (c * 2) (low f - 1) two_c k_lo k_hi (let e : low f - 1 ≤ low f = omega arith in e)
          ∙ (let e : (low f - 1) * P + k ≡ low f * P + P - 1 + (k - M) = omega (arith, k_least, P_some, ap (λ (z : ℕ). z * P) (low_some f), suc-mul (low f - 1) P) in e);
      number = no_nan r false k 2 k_value;
      grown_number = no_nan (sub f r y) false (k - M) 2 (t_value k k_least k_few k_value);
      grown_small = t_small k k_least k_few k_value;
      half_number = half_no_nan k k_least k_few k_value;
      if_below = λ rule t. below rule (le_or_lt (k - M) 0) (t_above k k_least k_few k_value (over rule (k - M)) (over_small rule (k - M)).0 t);
      if_above = λ rule t. above_it rule (le_or_lt (k - M) 0) (t_below k k_least k_few k_value (over rule (k - M)) (over_small rule (k - M)).0 t);
    }
      where
        -- 0 is even
        stays : (rule : ℕ) → k - M ≡ 0 → over rule (k - M) ≡ 0
        stays rule e = rw e (go (eqb rule 1))
          where
            go : (b : Bool) → cond b (0 % 2) 0 ≡ 0
            go true = refl
            go false = refl

        below : (rule : ℕ) → (k - M ≤ 0) ⊎ (0 < k - M) → a * 2 < (k - M) * c + over rule (k - M) → suc (nearest rule a c) ≡ k - M
        below rule (inr g) t = omega (arith, none rule, k_most)
        below rule (inl g) t = absurd (let z : k - M ≡ 0 = omega arith in omega (arith, t, stays rule z, ap (λ (n : ℕ). n * c) z, zero-mul c))

        above_it : (rule : ℕ) → (k - M ≤ 0) ⊎ (0 < k - M) → (k - M) * c + over rule (k - M) ≤ a * 2 → nearest rule a c ≡ k - M
        above_it rule (inl g) t = omega (arith, none rule)
        above_it rule (inr g) t = absurd (let z : k - M ≡ 1 = omega (arith, k_most) in omega (arith, t, ap (λ (n : ℕ). n * c) z, one-mul c))

  -- from a half on r is a whole number
  module _ (more : c ≤ 2 * a) where
    abbrev w : ℕ
    w = K f n (c * 2) (low f) two_c

    w_lo : P * (c * 2 * 2 ^ low f) ≤ n * 2 ^ low f
    w_lo = le_trans (le_of_eq (sym (mul_assoc P (c * 2) (2 ^ low f)))) (mul-le-mul_right (2 ^ low f) (let e : P * (c * 2) ≤ n = omega (arith, M_times, mul_assoc P c 2) in e))

    w_hi : n * 2 ^ low f < 2 ^ prec f * (c * 2 * 2 ^ low f)
    w_hi =
        lt_of_lt_of_le (mul-lt-mul_of_pos_right (let e : n < 2 ^ prec f * (c * 2) = omega (arith, M_times, under, ap (λ (z : ℕ). z * (c * 2)) both ∙ mul_assoc 2 P (c * 2), mul_assoc P c 2) in e) (pow_pos (low f)))
        (le_of_eq (mul_assoc (2 ^ prec f) (c * 2) (2 ^ low f)))

    w_is : w ≡ closest n (c * 2)
    w_is = closest_same (n * 2 ^ low f) (c * 2 * 2 ^ low f) n (c * 2) (mul-pos two_c (pow_pos (low f))) two_c (mul_assoc n (2 ^ low f) (c * 2) ∙ ap (λ (z : ℕ). n * z) (mul_comm (2 ^ low f) (c * 2)))

    w_half : Half w n (c * 2)
    w_half = subst (λ (z : ℕ). Half z n (c * 2)) (sym w_is) (closest_half n (c * 2) two_c)

    w_least : P ≤ w
    w_least = K_least f n (c * 2) (low f) two_c w_lo w_hi

    abbrev R : ℕ
    R = w - P

    w_times : w * (c * 2) ≡ (R * c + P * c) * 2
    w_times = sym (mul_assoc w c 2) ∙ ap (λ (z : ℕ). z * 2) (ap (λ (z : ℕ). z * c) (let e : w ≡ R + P = omega (arith, w_least) in e) ∙ add-mul R P c)

    from_R : R * c ≤ a
    from_R = omega (arith, w_half.1, w_times, M_times)

    to_R : a ≤ R * c + c
    to_R = omega (arith, w_half.0, w_times, M_times)

    R_few : R < P
    R_few = lt_of_not-le (λ (g : P ≤ R). omega (arith, mul-le-mul_right c g, from_R, under))

    J_is : w * 2 - M ≡ 2 * R + 1
    J_is = omega (arith, w_least, P_some)

    J_least : M ≤ w * 2
    J_least = omega (arith, w_least, P_some)

    J_few : w * 2 - M < 2 ^ prec f
    J_few = omega (arith, J_is, R_few, both)

    w_units : HasValue r false (w * 2 ^ low f) (2 ^ low f)
    w_units = subst (λ (z : Float). HasValue z false (w * 2 ^ low f) (2 ^ low f)) (sym r_is) (rounded_value f n (c * 2) (low f) two_c w_lo w_hi (le_refl (low f)))

    J_value : HasValue r false (w * 2) 2
    J_value =
        value_cancel r (w * 2) 2 (2 ^ (low f - 1)) (pow_pos (low f - 1))
        (subst (λ (z : ℕ). HasValue r false z (2 * 2 ^ (low f - 1))) (ap (λ (z : ℕ). w * z) halves ∙ sym (mul_assoc w 2 (2 ^ (low f - 1))))
        (subst (λ (z : ℕ). HasValue r false (w * 2 ^ low f) z) halves w_units))
      where
        halves : 2 ^ low f ≡ 2 * 2 ^ (low f - 1)
        halves = half_low f ∙ mul_comm (2 ^ (low f - 1)) 2

    R_twice : R * (2 * c) ≡ 2 * (R * c)
    R_twice = mul_left_comm R 2 c

    R_odd : (w * 2 - M) * c ≡ 2 * (R * c) + c
    R_odd = ap (λ (z : ℕ). z * c) J_is ∙ add-mul (2 * R) 1 c ∙ ap₂ ◌+◌ (mul_assoc 2 R c) (one-mul c)

    settled_high : Settled f a c x y
    settled_high = record {
      next = suc R;
      small = R_few;
      pattern =
          ap (to_bits f) r_is ∙ rounded_bits f n (c * 2) (low f) two_c w_lo w_hi (le_refl (low f))
          ∙ (let e : low f * P + w ≡ low f * P + P - 1 + suc R = omega (arith, w_least, P_some) in e);
      number = no_nan r false (w * 2) 2 J_value;
      grown_number = no_nan (sub f r y) false (w * 2 - M) 2 (t_value (w * 2) J_least J_few J_value);
      grown_small = t_small (w * 2) J_least J_few J_value;
      half_number = half_no_nan (w * 2) J_least J_few J_value;
      if_below = λ rule t. ap suc (sym (below rule (le_or_lt (2 * (R * c) + c) (a * 2)) (t_above (w * 2) J_least J_few J_value (over rule (suc R)) (over_small rule (suc R)).0 t)));
      if_above = λ rule t. sym (above_it rule (le_or_lt (a * 2) (2 * (R * c) + c)) (t_below (w * 2) J_least J_few J_value (over rule (suc R)) (over_small rule (suc R)).0 t));
    }
      where
        -- from the half on suc R is the upper one, and at the half there is nothing left
        at_half : (rule : ℕ) → a * 2 ≡ 2 * (R * c) + c → suc R - over rule (suc R) ≡ nearest rule a c
        at_half rule e = nearest_half rule a c (suc R) C (omega (arith, suc-mul R (2 * c), R_twice))

        below : (rule : ℕ) → (2 * (R * c) + c ≤ a * 2) ⊎ (a * 2 < 2 * (R * c) + c) → a * 2 < (w * 2 - M) * c + over rule (suc R) → R ≡ nearest rule a c
        below rule (inr g) t = nearest_other rule a c R (2 * a + c - R * (2 * c)) (omega (arith, R_twice, from_R)) (omega (arith, R_twice, from_R, C)) (omega (arith, R_twice, g))
        below rule (inl g) t = (let e : R ≡ suc R - over rule (suc R) = omega (arith, R_odd, t, (over_small rule (suc R)).0) in e) ∙ at_half rule (omega (arith, R_odd, t, (over_small rule (suc R)).0))

        above_it : (rule : ℕ) → (a * 2 ≤ 2 * (R * c) + c) ⊎ (2 * (R * c) + c < a * 2) → (w * 2 - M) * c + over rule (suc R) ≤ a * 2 → suc R ≡ nearest rule a c
        above_it rule (inl g) t = (let e : suc R ≡ suc R - over rule (suc R) = omega (arith, R_odd, t) in e) ∙ at_half rule (omega (arith, R_odd, t))
        above_it rule (inr g) t =
            nearest_other rule a c (suc R) (2 * a + c - suc R * (2 * c)) (omega (arith, suc-mul R (2 * c), R_twice, g)) (omega (arith, suc-mul R (2 * c), R_twice, g)) (omega (arith, suc-mul R (2 * c), R_twice, to_R, C))

  pub settled : Settled f a c x y
  settled = go (le_or_lt c (2 * a))
    where
      go : (c ≤ 2 * a) ⊎ (2 * a < c) → Settled f a c x y
      go (inl g) = settled_high g
      go (inr g) = settled_low g
