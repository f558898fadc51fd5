-- Exact products of floats, once over the formats: u bins as a float times the bin's own float is the ordinal of u bins.
use Rattle.std.proofs.Common.{◌≡◌, ℕ, suc, ◌+◌, ◌-◌, ◌*◌, ◌/◌, ◌%◌, ◌^◌, ◌<◌, ◌≤◌, Bool, false, cond, not, T, leb, pos, sym, refl, ap, ◌∙◌, subst, ap₂, inr, le_refl, lt_of_lt_of_le, mod-eq_of_lt, suc-mul, mul_comm, mul-lt-mul_of_pos_right, mul-pos, one-mul, zero-add, mul-div_cancel, arith, lit<, leb→le, pow_pos, pow_mono, pow-add, shl_lt}
use native.Mathlib.Nat.{mul-mul-mul_comm}
use lib.Dec.{not_T}
use lib.Ieee.{Float, nan, inf, fin, Format, binary32, binary64, prec, emax, low, hid, ones, top, up, down, unlike, size, round, mul, of_int, of_bits, to_bits, is_nan, nan_bits}
use lib.Ieee.Bits.{is_false, nan_bits_is}
use lib.Ieee.Fits.{down_pos}
use lib.Ieee.Exact.{HasValue, round_exact}
use lib.Ieee.Scale.{round_same}
use lib.Ieee.Back.{round_whole}
use Rattle.bins.specs.Tolerance.{magnitude, ordinal_of}
use Rattle.bins.proofs.Law.Tolerance.{magnitude_at}
use Rattle.bins.proofs.Law.Ieee.{finite_value}

-- ---- what has a value

pub led : (f : Format) → suc (prec f - 1) ≡ prec f
led binary32 = refl
led binary64 = refl

-- it is no not-a-number
pub no_nan : (x : Float) (s : Bool) (a c : ℕ) → HasValue x s a c → T (not (is_nan x))
unfolding is_nan
no_nan nan s a c h = absurd h
no_nan (inf t) s a c h = absurd h
no_nan (fin t m e) s a c h = tt

-- and its pattern is the ordinal of its magnitude
pub bits_of_value : (f : Format) (x : Float) (n : ℕ) → HasValue x false n (2 ^ low f) → to_bits f x ≡ ordinal_of (prec f - 1) n
unfolding to_bits ordinal_of
bits_of_value f nan n h = absurd h
bits_of_value f (inf s) n h = absurd h
bits_of_value f (fin s m e) n h =
    let x = m * up e * 2 ^ low f / down e in
    ap (λ (b : Bool). cond b (top f) 0 + (size x - prec f) * hid f + x / 2 ^ (size x - prec f)) h.0
    ∙ ap (λ (z : ℕ). 0 + (size z - prec f) * hid f + z / 2 ^ (size z - prec f)) (ap (λ (z : ℕ). z / down e) h.1 ∙ mul-div_cancel n (down_pos e))
    ∙ ap (λ (z : ℕ). z + n / 2 ^ (size n - prec f)) (zero-add ((size n - prec f) * hid f))
    ∙ ap (λ (p : ℕ). (size n - p) * hid f + n / 2 ^ (size n - p)) (sym (led f))

-- a product of two values that are not negative
pub mul_values : (f : Format) (x y : Float) (a c b d : ℕ) → 0 < c → 0 < d → HasValue x false a c → HasValue y false b d → mul f x y ≡ round f false (a * b) (c * d)
unfolding mul
mul_values f nan y a c b d C D h k = absurd h
mul_values f (inf s) y a c b d C D h k = absurd h
mul_values f (fin s m e) nan a c b d C D h k = absurd k
mul_values f (fin s m e) (inf t) a c b d C D h k = absurd k
mul_values f (fin s m e) (fin t n g) a c b d C D h k =
    ap₂ (λ (p q : Bool). round f (unlike p q) (m * up e * (n * up g)) (down e * down g)) h.0 k.0
    ∙ round_same f false (m * up e * (n * up g)) (down e * down g) (a * b) (c * d) (mul-pos (down_pos e) (down_pos g)) (mul-pos C D)
    (mul-mul-mul_comm (m * up e) (n * up g) c d ∙ ap (λ (z : ℕ). z * (n * up g * d)) h.1 ∙ ap (λ (z : ℕ). a * down e * z) k.1 ∙ mul-mul-mul_comm a (down e) b (down g))

module _ (f : Format) (d : ℕ) (H : suc d < ones f) where
  abbrev m : ℕ
  m = prec f - 1

  abbrev b : ℕ
  b = suc d * hid f

  under_top : b < top f
  under_top = subst (λ (n : ℕ). b < n) (mul_comm (suc (ones f)) (hid f)) (mul-lt-mul_of_pos_right (let e : suc d < suc (ones f) = omega arith in e) (pow_pos m))

  -- the pattern with the exponent field d + 1 and no fraction: 2 ^ (m + d) of the smallest
  pub bin_value : HasValue (of_bits f b) false (2 ^ m * 2 ^ d) (2 ^ low f)
  bin_value =
      subst (λ (s : Bool). HasValue (of_bits f b) s (2 ^ m * 2 ^ d) (2 ^ low f)) (is_false (leb (top f) b) (not_T (leb (top f) b) (λ (u : T (leb (top f) b)). omega (arith, leb→le (top f) b u, under_top))))
      (subst (λ (n : ℕ). HasValue (of_bits f b) (leb (top f) b) n (2 ^ low f)) magnitude_is
      (finite_value f b (subst (λ (n : ℕ). n / hid f < ones f) (sym (mod-eq_of_lt under_top)) (subst (λ (n : ℕ). n < ones f) (sym (mul-div_cancel (suc d) (pow_pos m))) H))))
    where
      magnitude_is : magnitude m (b % top f) ≡ 2 ^ m * 2 ^ d
      magnitude_is =
          ap (magnitude m) (mod-eq_of_lt under_top ∙ (let e : suc d * 2 ^ m ≡ d * 2 ^ m + 2 ^ m = omega (arith, suc-mul d (2 ^ m)) in e))
          ∙ magnitude_at m d (2 ^ m) (omega (arith, pow_pos m)) (inr (le_refl (2 ^ m)))

  pub bin_no_nan : T (not (nan_bits f b))
  bin_no_nan = subst (λ (x : Bool). T (not x)) (sym (nan_bits_is f b)) (no_nan (of_bits f b) false (2 ^ m * 2 ^ d) (2 ^ low f) bin_value)

  -- its product with a whole number x of fewer digits
  module _ (u : ℕ) (small : u < 2 ^ m) (room : m + (m + d) ≤ low f + suc (emax f)) (x : Float) (X : HasValue x false u 1) where
    product_value : HasValue (mul f x (of_bits f b)) false (u * 2 ^ (m + d)) (2 ^ low f)
    product_value =
        let l = low f in
        let few : u < 2 ^ prec f = lt_of_lt_of_le small (pow_mono (let e : m ≤ prec f = omega (arith, led f) in e)) in
        let fine : u * 2 ^ (m + d) < 2 ^ (l + suc (emax f)) = lt_of_lt_of_le (shl_lt m (m + d) small) (pow_mono room) in
        subst (λ (z : Float). HasValue z false (u * 2 ^ (m + d)) (2 ^ l))
        (sym (mul_values f x (of_bits f b) u 1 (2 ^ m * 2 ^ d) (2 ^ l) (lit< tt) (pow_pos l) X bin_value
        ∙ ap₂ (λ (n c : ℕ). round f false (u * n) c) (sym (pow-add 2 m d)) (one-mul (2 ^ l))))
        (round_exact f false (u * 2 ^ (m + d)) (2 ^ l) u (m + d) (pow_pos l) few fine refl)

    product_no_nan : T (not (is_nan (mul f x (of_bits f b))))
    product_no_nan = no_nan (mul f x (of_bits f b)) false (u * 2 ^ (m + d)) (2 ^ low f) product_value

    product_bits : to_bits f (mul f x (of_bits f b)) ≡ ordinal_of m (u * 2 ^ (m + d))
    product_bits = bits_of_value f (mul f x (of_bits f b)) (u * 2 ^ (m + d)) product_value

-- ---- whole numbers as floats

-- by a cast
pub cast_value : (f : Format) (u : ℕ) → u ≤ 2 ^ prec f → HasValue (of_int f (pos u)) false u 1
unfolding of_int
cast_value f u h = round_whole f false u h

-- What a function has to show of a bin j, a whole number u and the exponent field F of E.
pub record Asked (f : Format) (j u F : ℕ) : Type 0 where
  pub small : u < 2 ^ (prec f - 1)
  pub some : 0 < F
  pub bin : F + (prec f - 1) ≡ suc j
  pub bin_field : F < ones f
  pub room : prec f - 1 + j ≤ low f + suc (emax f)

-- What it then knows of their product.
module _ {f : Format} {j u F : ℕ} (k : Asked f j u F) where
  field : suc (F - 1) ≡ F
  field = omega (arith, k.some)

  under_ones : suc (F - 1) < ones f
  under_ones = omega (arith, field, k.bin_field)

  pub field_no_nan : T (not (nan_bits f (F * hid f)))
  field_no_nan = subst (λ (n : ℕ). T (not (nan_bits f (n * hid f)))) field (bin_no_nan f (F - 1) under_ones)

  fits : prec f - 1 + (prec f - 1 + (F - 1)) ≤ low f + suc (emax f)
  fits = omega (arith, k.room, k.bin, k.some)

  module _ (x : Float) (X : HasValue x false u 1) where
    pub ordinal_no_nan : T (not (is_nan (mul f x (of_bits f (F * hid f)))))
    ordinal_no_nan = subst (λ (n : ℕ). T (not (is_nan (mul f x (of_bits f (n * hid f)))))) field (product_no_nan f (F - 1) under_ones u k.small fits x X)

    pub ordinal_is : to_bits f (mul f x (of_bits f (F * hid f))) ≡ ordinal_of (prec f - 1) (u * 2 ^ j)
    ordinal_is =
        ap (λ (n : ℕ). to_bits f (mul f x (of_bits f (n * hid f)))) (sym field)
        ∙ product_bits f (F - 1) under_ones u k.small fits x X
        ∙ ap (λ (n : ℕ). ordinal_of (prec f - 1) (u * 2 ^ n)) (let e : prec f - 1 + (F - 1) ≡ j = omega (arith, field, k.bin) in e)
