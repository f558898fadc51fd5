-- From our own magnitudes to the numbers that IEEE 754 reads (lib.Ieee), once over its formats: what the tolerance code gives back, and
-- what bound answers.
use Rattle.std.proofs.Common.{◌≡◌, ℕ, suc, ◌+◌, ◌-◌, ◌*◌, ◌/◌, ◌%◌, ◌^◌, ◌<◌, ◌≤◌, Bool, true, false, cond, eqb, leb, ◌⊎◌, ℤ, pos, negsuc, sym, ap, ◌∙◌, subst, inl, inr, le_trans, mul-le-mul_right, mod-lt, mul_comm, div-lt_iff_lt-mul, add-mul, mul-pos, one-mul, le-div_iff_mul-le, le-mul_of_pos_right, arith, pow_pos, le-leb}
use native.Mathlib.Nat.{eq_of_mul-eq-mul_right, two-pow-succ}
use borrow.Author.Tests.{lt-leb}
use lib.Ieee.{Float, nan, inf, fin, Format, prec, low, down, hid, ones, top, of_bits}
use lib.Ieee.Exact.{HasValue}
use Rattle.bins.specs.Tolerance.{last_bin, sign, ordinal, magnitude, threshold, threshold_ordinal}
use Rattle.numbers.specs.Theorem.{distance, Within, Reads, Returned}
use Rattle.bins.proofs.Law.Number.{le_or_lt}
use Rattle.bins.proofs.Law.Tolerance.{from_threshold}
use Rattle.bins.proofs.Law.Ieee.{finite_value, special_value}

-- a float has one sign and one value
down_some : (e : ℤ) → 0 < down e
down_some (pos k) = omega arith
down_some (negsuc k) = pow_pos (suc k)

pub one_value : (v : Float) (s t : Bool) (x y c : ℕ) → HasValue v s x c → HasValue v t y c → (s ≡ t) × (x ≡ y)
one_value nan s t x y c a b = absurd a
one_value (inf r) s t x y c a b = absurd a
one_value (fin r m e) s t x y c a b = (sym a.0 ∙ b.0, eq_of_mul-eq-mul_right (down e) (down_some e) x y (sym a.1 ∙ b.1))

-- an infinity or a not-a-number has none
no_value : (b : Bool) (r s : Bool) (x c : ℕ) → HasValue (cond b (inf r) nan) s x c → ⊥
no_value true r s x c h = h
no_value false r s x c h = h

-- the sign by its place
sign_test : (t a b : ℕ) → 0 < t → a / t ≡ b / t → leb t a ≡ leb t b
sign_test t a b some e = go (le_or_lt t a) (le_or_lt t b)
  where
    go : (t ≤ a) ⊎ (a < t) → (t ≤ b) ⊎ (b < t) → leb t a ≡ leb t b
    go (inl l) (inl m) = le-leb t a l ∙ sym (le-leb t b m)
    go (inr l) (inr m) = lt-leb t a l ∙ sym (lt-leb t b m)
    go (inl l) (inr m) =
        let x : 1 ≤ a / t = (le-div_iff_mul-le some).1 (omega (arith, one-mul t)) in
        let y : b / t < 1 = (div-lt_iff_lt-mul some).1 (omega (arith, one-mul t)) in
        absurd (omega (arith, e))
    go (inr l) (inl m) =
        let x : 1 ≤ b / t = (le-div_iff_mul-le some).1 (omega (arith, one-mul t)) in
        let y : a / t < 1 = (div-lt_iff_lt-mul some).1 (omega (arith, one-mul t)) in
        absurd (omega (arith, e))

module _ (f : Format) where
  top_some : 0 < top f
  top_some = mul-pos (pow_pos (prec f - 1)) (omega arith)

  -- what has a value has not the exponent field of the infinities
  pub finite_field : (p : ℕ) (negative : Bool) (x : ℕ) → Reads f p negative x → p % top f / hid f < ones f
  finite_field p negative x reads = go (le_or_lt (ones f) (p % top f / hid f))
    where
      go : (ones f ≤ p % top f / hid f) ⊎ (p % top f / hid f < ones f) → p % top f / hid f < ones f
      go (inr l) = l
      go (inl l) =
          let most : p % top f / hid f < suc (ones f) =
          (div-lt_iff_lt-mul (pow_pos (prec f - 1))).1 (omega (arith, mod-lt p top_some, mul_comm (hid f) (suc (ones f)))) in
          let is : p % top f / hid f ≡ ones f = omega arith in
          absurd
          (no_value (eqb (p % hid f) 0) (leb (top f) p) negative x (2 ^ low f)
          (subst (λ (v : Float). HasValue v negative x (2 ^ low f)) (special_value f p is) reads))

  -- its sign and its magnitude
  pub read_as : (p : ℕ) (negative : Bool) (x : ℕ) → Reads f p negative x → (negative ≡ leb (top f) p) × (x ≡ magnitude (prec f - 1) (p % top f))
  read_as p negative x reads =
      one_value (of_bits f p) negative (leb (top f) p) x (magnitude (prec f - 1) (p % top f)) (2 ^ low f) reads
      (finite_value f p (finite_field p negative x reads))

-- a width of the format f, and a bin that is allowed there
module _ (f : Format) (W : ℕ) (tops : 2 ^ (W - 1) ≡ top f) (fields : 2 ^ (W - 1 - (prec f - 1)) ≡ suc (ones f)) (some : 2 ≤ ones f)
    (j : ℕ) (in-range : j ≤ last_bin W (prec f - 1)) where
  abbrev m : ℕ
  m = prec f - 1

  ordinal_is : (p : ℕ) → ordinal W p ≡ p % top f
  unfolding ordinal
  ordinal_is p = ap (λ (t : ℕ). p % t) tops

  -- a magnitude below twice the threshold is that of a finite number
  finite : (p : ℕ) → magnitude m (ordinal W p) < threshold m (suc j) → Reads f p (leb (top f) p) (magnitude m (ordinal W p))
  unfolding last_bin threshold_ordinal
  finite p small = rw (ordinal_is p) (finite_value f p (go (le_or_lt (ones f * hid f) (p % top f))))
    where
      go : (ones f * hid f ≤ p % top f) ⊎ (p % top f < ones f * hid f) → p % top f / hid f < ones f
      go (inr l) = (div-lt_iff_lt-mul (pow_pos m)).1 l
      go (inl l) =
          let at : suc (suc j) ≤ ones f = omega (arith, fields) in
          absurd (omega (arith, small, ap (magnitude m) (ordinal_is p), from_threshold m (suc j) (p % top f) (le_trans (mul-le-mul_right (2 ^ m) at) l)))

  twice : threshold m (suc j) ≡ 2 * threshold m j
  unfolding threshold
  twice =
      ap (λ (n : ℕ). n * 2 ^ m) (two-pow-succ j) ∙ add-mul (2 ^ j) (2 ^ j) (2 ^ m)
      ∙ (let e : 2 ^ j * 2 ^ m + 2 ^ j * 2 ^ m ≡ 2 * (2 ^ j * 2 ^ m) = omega arith in e)

  bin_below : 2 ^ j ≤ threshold m j
  unfolding threshold
  bin_below = le-mul_of_pos_right (2 ^ j) (pow_pos m)

  pub returned : (p q : ℕ) → Within W m j p q → Returned f j p q
  unfolding distance sign
  returned p q within =
      record {
        close = λ negative x reads below.
            let is = read_as f p negative x reads in
            let own : x ≡ magnitude m (ordinal W p) = is.1 ∙ ap (magnitude m) (sym (ordinal_is p)) in
            let near = within.close (omega (arith, own, below)) in
            let back = finite q (omega (arith, near, own, below, twice, bin_below)) in
            let signs : leb (top f) q ≡ negative = sign_test (top f) q p (top_some f) (rw tops at within.signed) ∙ sym is.0 in
            (magnitude m (ordinal W q), subst (λ (s : Bool). Reads f q s (magnitude m (ordinal W q))) signs back, omega (arith, near, own));
        same = λ none. go none (le_or_lt (threshold m j) (magnitude m (ordinal W p)));
      }
    where
      go : ((negative : Bool) (x : ℕ) → Reads f p negative x → threshold m j ≤ x) → (threshold m j ≤ magnitude m (ordinal W p)) ⊎ (magnitude m (ordinal W p) < threshold m j) → q ≡ p
      go none (inl l) = within.exact l
      go none (inr l) = absurd (let least = none (leb (top f) p) (magnitude m (ordinal W p)) (finite p (omega (arith, twice))) in omega arith)
