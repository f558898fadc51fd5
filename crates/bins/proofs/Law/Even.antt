-- A sum of floats from 2 ^ m to 2 ^ (m + 1) is a whole number, the nearest one with halves to even: that is how IEEE 754 rounds. Once over the formats.
use Rattle.std.proofs.Common.{◌≡◌, ℕ, suc, ◌+◌, ◌-◌, ◌*◌, ◌/◌, ◌%◌, ◌^◌, ◌<◌, ◌≤◌, Bool, true, false, not, T, sym, refl, ap, ◌∙◌, subst, ap₂, le_trans, le_of_eq, le_refl, lt_of_lt_of_le, mul-le-mul_right, mod-lt, mul_assoc, suc-mul, mul_comm, add-mul, mul-lt-mul_of_pos_right, mul-pos, one-mul, div-add-mod', mul-one, mul_left_comm, arith, lit<, pow_pos}
use Prim.Native.Nat.{compare, Ordering}
use lib.Arith.{digits_div, digits_mod}
use lib.Ieee.{Float, Format, binary32, binary64, prec, low, nearest as ieee-nearest, round, add, lt, to_bits, is_nan}
use lib.Ieee.Exact.{HasValue}
use lib.Ieee.Nearest.{closest, closest_same}
use Rattle.bins.specs.Tolerance.{nearest}
use Rattle.bins.proofs.Law.Nearest.{nearest_half, nearest_other}
use Rattle.bins.proofs.Law.Float.{no_nan}
use Rattle.bins.proofs.Law.Round.{Cmp, cmp, K, rounded_value, rounded_bits, add_values, lt_else, value_cancel, twice}

-- ---- the closest whole number of IEEE 754 is the nearest one with halves to even

closest_by : (d e a c : ℕ) (o : Ordering) → 0 < c → d * c + e ≡ a → e < c → Cmp o (e * 2) c → ieee-nearest d o ≡ nearest 1 a c
closest_by d e a c Ordering.lt C is l h = nearest_other 1 a c d (2 * e + c) (omega (arith, mul_left_comm d 2 c)) (omega arith) (omega arith)
closest_by d e a c Ordering.gt C is l h = nearest_other 1 a c (suc d) (2 * e - c) (omega (arith, suc-mul d (2 * c), mul_left_comm d 2 c)) (omega arith) (omega arith)
closest_by d e a c Ordering.eq C is l h =
    (let q : d + d % 2 ≡ suc d - suc d % 2 = omega arith in q) ∙ nearest_half 1 a c (suc d) C (omega (arith, suc-mul d (2 * c), mul_left_comm d 2 c))

pub closest_even : (a c : ℕ) → 0 < c → closest a c ≡ nearest 1 a c
closest_even a c C = closest_by (a / c) (a % c) a c (compare (a % c * 2) c) C (div-add-mod' a c) (mod-lt a C) (cmp (a % c * 2) c)

-- an even number more
shifted : (P d : ℕ) (o : Ordering) → P % 2 ≡ 0 → ieee-nearest (d + P) o ≡ P + ieee-nearest d o
shifted P d Ordering.lt e = omega arith
shifted P d Ordering.gt e = omega arith
shifted P d Ordering.eq e = omega (arith, e)

-- of d whole ones and e parts of c
closest_at : (d e c : ℕ) → e < c → closest (d * c + e) c ≡ ieee-nearest d (compare (e * 2) c)
closest_at d e c l = ap₂ (λ (w r : ℕ). ieee-nearest w (compare (r * 2) c)) (digits_div d l) (digits_mod d l)

closest_shifted : (P a c : ℕ) → 0 < c → P % 2 ≡ 0 → closest (a + P * c) c ≡ P + closest a c
closest_shifted P a c C e =
    ap (λ (n : ℕ). closest n c) (let q : a + P * c ≡ (a / c + P) * c + a % c = omega (arith, add-mul (a / c) P c, div-add-mod' a c) in q)
    ∙ closest_at (a / c + P) (a % c) c (mod-lt a C)
    ∙ shifted P (a / c) (compare (a % c * 2) c) e

-- ---- n / c from 2 ^ m on, and below 2 ^ (m + 1)

module _ (f : Format) (n c : ℕ) (C : 0 < c) (from : 2 ^ (prec f - 1) * c ≤ n) (under : n < 2 * (2 ^ (prec f - 1) * c)) where
  abbrev P : ℕ
  P = 2 ^ (prec f - 1)

  abbrev unit : ℕ
  unit = 2 ^ low f

  lo : P * (c * unit) ≤ n * unit
  lo = le_trans (le_of_eq (sym (mul_assoc P c unit))) (mul-le-mul_right unit from)

  hi : n * unit < 2 ^ prec f * (c * unit)
  hi =
      lt_of_lt_of_le (mul-lt-mul_of_pos_right under (pow_pos (low f)))
      (le_of_eq (ap (λ (z : ℕ). z * unit) (let q : 2 * (P * c) ≡ 2 ^ prec f * c = omega (arith, ap (λ (z : ℕ). z * c) (twice f n c (low f) C), add-mul P P c) in q) ∙ mul_assoc (2 ^ prec f) c unit))

  K_is : K f n c (low f) C ≡ closest n c
  K_is = closest_same (n * unit) (c * unit) n c (mul-pos C (pow_pos (low f))) C (mul_assoc n unit c ∙ ap (λ (z : ℕ). n * z) (mul_comm unit c))

  pub whole_value : HasValue (round f false n c) false (closest n c) 1
  whole_value =
      value_cancel (round f false n c) (closest n c) 1 unit (pow_pos (low f))
      (subst (λ (z : ℕ). HasValue (round f false n c) false (closest n c * unit) z) (sym (one-mul unit))
      (subst (λ (z : ℕ). HasValue (round f false n c) false (z * unit) unit) K_is (rounded_value f n c (low f) C lo hi (le_refl (low f)))))

  pub whole_bits : to_bits f (round f false n c) ≡ low f * P + closest n c
  whole_bits = rounded_bits f n c (low f) C lo hi (le_refl (low f)) ∙ ap (λ (z : ℕ). low f * P + z) K_is

-- ---- a / c and 2 ^ m

even_power : (f : Format) → 2 ^ (prec f - 1) % 2 ≡ 0
even_power binary32 = refl
even_power binary64 = refl

module _ (f : Format) (a c : ℕ) (C : 0 < c) (under : a < 2 ^ (prec f - 1) * c) (x y : Float) (X : HasValue x false a c) (Y : HasValue y false (2 ^ (prec f - 1)) 1) where
  abbrev M : ℕ
  M = 2 ^ (prec f - 1)

  sum_is : add f x y ≡ round f false (a + M * c) c
  sum_is = add_values f x y a c M 1 C (lit< tt) X Y ∙ ap₂ (λ (n d : ℕ). round f false (n + M * c) d) (mul-one a) (mul-one c)

  from : M * c ≤ a + M * c
  from = omega arith

  below : a + M * c < 2 * (M * c)
  below = omega arith

  pub even_no_nan : T (not (is_nan (add f x y)))
  even_no_nan = subst (λ (z : Float). T (not (is_nan z))) (sym sum_is) (no_nan (round f false (a + M * c) c) false (closest (a + M * c) c) 1 (whole_value f (a + M * c) c C from below))

  pub even_bits : to_bits f (add f x y) ≡ low f * M + M + nearest 1 a c
  even_bits =
      ap (to_bits f) sum_is ∙ whole_bits f (a + M * c) c C from below
      ∙ (let e : closest (a + M * c) c ≡ M + nearest 1 a c = closest_shifted M a c C (even_power f) ∙ ap (λ (z : ℕ). M + z) (closest_even a c C) in omega (arith, e))

-- ---- a whole number, and a quarter and three quarters more: they fall apart

module _ (f : Format) (u : ℕ) (small : suc u < 2 ^ (prec f - 1)) (x y z : Float) (X : HasValue x false (2 ^ (prec f - 1) + u) 1) (Y : HasValue y false 1 4) (Z : HasValue z false 3 4) where
  abbrev w : ℕ
  w = 2 ^ (prec f - 1) + u

  part : (v : Float) (e : ℕ) → e < 4 → HasValue v false e 4 → HasValue (add f x v) false (ieee-nearest w (compare (e * 2) 4)) 1
  part v e l E =
      subst (λ (r : Float). HasValue r false (ieee-nearest w (compare (e * 2) 4)) 1)
      (sym (add_values f x v w 1 e 4 (lit< tt) (lit< tt) X E ∙ ap (λ (n : ℕ). round f false (w * 4 + n) 4) (mul-one e)))
      (subst (λ (k : ℕ). HasValue (round f false (w * 4 + e) 4) false k 1) (closest_at w e 4 l) (whole_value f (w * 4 + e) 4 (lit< tt) (omega arith) (omega arith)))

  pub falls_apart : lt (add f x y) (add f x z) ≡ true
  falls_apart = go (lt (add f x y) (add f x z)) refl
    where
      go : (b : Bool) → lt (add f x y) (add f x z) ≡ b → b ≡ true
      go true is = refl
      go false is = absurd (let e : suc w * 1 ≤ w * 1 = lt_else (add f x y) (add f x z) w 1 (suc w) 1 (lit< tt) (lit< tt) (part y 1 (lit< tt) Y) (part z 3 (lit< tt) Z) (subst (λ (b : Bool). T (not b)) (sym is) tt) in omega arith)
