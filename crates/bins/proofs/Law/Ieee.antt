-- The magnitude of specs/Tolerance.antt is the toolchain's own account of IEEE 754 (lib.Ieee), once over its formats:
-- a reader need not believe ours. In that account a format f has prec f - 1 fraction bits, and its smallest number is 2 ^ -low f.
use Rattle.std.proofs.Common.{◌≡◌, ℕ, zero, suc, ◌+◌, ◌-◌, ◌*◌, ◌/◌, ◌%◌, ◌^◌, ◌<◌, Bool, false, cond, eqb, leb, sym, refl, ap, subst, mod-eq_of_lt, suc-mul, mul_comm, div-lt_iff_lt-mul, arith, pow_pos, eq-eqb, ne_eqb}
use native.Mathlib.Nat.{mod-mod_of_dvd, dvd-mul_right}
use borrow.Author.Tests.{lt-leb}
use lib.Ieee.{nan, inf, Format, prec, low, hid, ones, top, odd, of_fields, of_bits}
use lib.Ieee.Exact.{HasValue, odd_sign}
use Rattle.bins.specs.Tolerance.{significand, magnitude}

module _ (m o : ℕ) where
  magnitude_zero : o / 2 ^ m ≡ 0 → magnitude m o ≡ o % 2 ^ m * 2 ^ 0
  unfolding magnitude significand
  magnitude_zero e = rw (eq-eqb (o / 2 ^ m) 0 e, e)

  magnitude_suc : (x : ℕ) → o / 2 ^ m ≡ suc x → magnitude m o ≡ (2 ^ m + o % 2 ^ m) * 2 ^ x
  unfolding magnitude significand
  magnitude_suc x e =
      rw (ne_eqb (o / 2 ^ m) 0 (λ z. omega arith)) (ap (λ (n : ℕ). (2 ^ m + o % 2 ^ m) * 2 ^ n) (let q : o / 2 ^ m - 1 ≡ x = omega arith in q))

module _ (f : Format) where
  -- one exponent field and its digits, below the field of the infinities
  fields_value : (s : Bool) (x o : ℕ) → o / hid f ≡ x → x < ones f → HasValue (of_fields f s x (o % hid f)) s (magnitude (prec f - 1) o) (2 ^ low f)
  unfolding of_fields
  fields_value s zero o e h =
      subst (λ (n : ℕ). HasValue (odd (prec f) s (o % hid f) 0 (low f)) s n (2 ^ low f)) (sym (magnitude_zero (prec f - 1) o e))
      (odd_sign (prec f) s (o % hid f) 0 (low f))
  fields_value s (suc x) o e h =
      rw (ne_eqb (suc x) (ones f) (λ z. omega arith))
      (subst (λ (n : ℕ). HasValue (odd (prec f) s (hid f + o % hid f) x (low f)) s n (2 ^ low f)) (sym (magnitude_suc (prec f - 1) o x e))
      (odd_sign (prec f) s (hid f + o % hid f) x (low f)))

  -- the digits of a pattern are those of its ordinal
  same_digits : (b : ℕ) → b % top f % hid f ≡ b % hid f
  same_digits b = mod-mod_of_dvd (hid f) b (dvd-mul_right (hid f) (suc (ones f)))

  -- a finite pattern: its value has the sign of the highest bit, and in size it is the magnitude of its ordinal, in the smallest unit
  pub finite_value : (b : ℕ) → b % top f / hid f < ones f → HasValue (of_bits f b) (leb (top f) b) (magnitude (prec f - 1) (b % top f)) (2 ^ low f)
  unfolding of_bits
  finite_value b h =
      subst (λ (t : ℕ). HasValue (of_fields f (leb (top f) b) (b % top f / hid f) t) (leb (top f) b) (magnitude (prec f - 1) (b % top f)) (2 ^ low f)) (same_digits b)
      (fields_value (leb (top f) b) (b % top f / hid f) (b % top f) refl h)

  -- an ordinal below that of infinity
  pub ordinal_value : (o : ℕ) → o < ones f * hid f → HasValue (of_bits f o) false (magnitude (prec f - 1) o) (2 ^ low f)
  ordinal_value o h =
      let in_top : o < top f = omega (arith, suc-mul (ones f) (hid f), mul_comm (suc (ones f)) (hid f)) in
      subst (λ (s : Bool). HasValue (of_bits f o) s (magnitude (prec f - 1) o) (2 ^ low f)) (lt-leb (top f) o in_top)
      (subst (λ (n : ℕ). HasValue (of_bits f o) (leb (top f) o) (magnitude (prec f - 1) n) (2 ^ low f)) (mod-eq_of_lt in_top)
      (finite_value o (subst (λ (n : ℕ). n / hid f < ones f) (sym (mod-eq_of_lt in_top)) ((div-lt_iff_lt-mul (pow_pos (prec f - 1))).1 h))))

  special_fields : (s : Bool) (x t : ℕ) → x ≡ ones f → of_fields f s x t ≡ cond (eqb t 0) (inf s) nan
  unfolding of_fields
  special_fields s zero t e = absurd (let z : 0 ≡ ones f = e in omega arith)
  special_fields s (suc x) t e = rw (eq-eqb (suc x) (ones f) e)

  -- a pattern whose exponent field is all ones is an infinity where its digits are 0, and else a not-a-number
  pub special_value : (b : ℕ) → b % top f / hid f ≡ ones f → of_bits f b ≡ cond (eqb (b % hid f) 0) (inf (leb (top f) b)) nan
  unfolding of_bits
  special_value b h = special_fields (leb (top f) b) (b % top f / hid f) (b % hid f) h
