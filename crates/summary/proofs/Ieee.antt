-- The orders of specs/Order.antt in the words of the toolchain's own IEEE 754 (lib.Ieee), once over its formats, and at the end for binary32 and binary64: a
-- reader need not believe ours. A format f has prec f - 1 fraction bits. A width W is its own where 2 ^ (W - 1) is the weight of its sign, and the field of
-- the exponent has W - 1 - (prec f - 1) bits.
use mathlib.Core.Path.{◌≡◌, refl, sym, ap, ap₂, subst, ◌∙◌}
use mathlib.Core.Logic.{◌⊎◌, inl, inr, ⊎_elim, ◌↔◌}
use mathlib.Core.Bool.{Bool, true, false, ◌||◌}
use Prim.Native.Nat.{ℕ, suc, ◌-◌, ◌*◌, ◌%◌, ◌^◌, ◌≤◌, ◌<◌}
use native.Mathlib.Nat.{le_refl, zero-mod, zero-div, mod_self, mul-mod_right}
use native.Mathlib.Omega.{arith}
use borrow.Author.Tests.{le-leb, lt-leb, ltb-true, ltb-false}
use lib.Dec.{leb, ltb, lit≤}
use lib.IntN.{pos}
use lib.Pow.{pow_pos}
use lib.Ieee.{Float, nan, inf, fin, Format, binary32, binary64, prec, low, hid, ones, top, lt, le, odd, of_fields, of_bits}
use lib.Ieee.Exact.{HasValue}
use Rattle.bins.specs.Tolerance.{ordinal, magnitude}
use Rattle.bins.proofs.Law.Number.{le_or_lt, twice_half}
use Rattle.stream.specs.Setting.{known_width, fraction_bits}
use Rattle.stream.proofs.Law.Setting.Allowed.{width_cases, width_some}
use Rattle.summary.specs.Theorem.{format_of}
use Rattle.blocks.specs.Bytes.{Below}
use lib.ListN.{length, get_or}
use mathlib.Core.List.{List}
use Rattle.summary.specs.Entry.{nans_in, smallest, largest}
use Rattle.summary.proofs.Law.Entry as entry
use Rattle.summary.specs.Order.{infinity_ordinal, not_a_number, rank, zero_or_minus_zero, at_least}
use Rattle.summary.proofs.Law.Order.{rank_plain, rank_signed, ordinal_plain, ordinal_signed}
use Rattle.summary.proofs.Law.Compare.{Compares, end_of, Number, numbers_compare, number_bits, nan_bits_lem}
use Rattle.summary.proofs.Law.Places.{Placed, by_places, stands_before}

-- where a not-a-number stands, nothing is at most anything
nan_le : (y : Float) → le nan y ≡ false
unfolding le
nan_le y = refl

le_nan : (x : Float) → le x nan ≡ false
unfolding le
le_nan nan = refl
le_nan (inf s) = refl
le_nan (fin s m e) = refl

-- a pattern with no digit in its ordinal is a zero
zero_read : (f : Format) (b : ℕ) → b % top f ≡ 0 → b % hid f ≡ 0 → of_bits f b ≡ fin (leb (top f) b) 0 (pos 0)
unfolding of_bits of_fields odd
zero_read f b e d = rw (e, d, zero-div (hid f))

no_nan : (f : Format) (x : Float) (s : Bool) (o : ℕ) → Number f x s o → x ≡ nan → ⊥
no_nan f x s o (inl h) e = subst (λ (v : Float). HasValue v s (magnitude (prec f - 1) o) (2 ^ low f)) e h.0
no_nan f x s o (inr h) e = let i : x ≡ inf s = h.0 in let z : ◌≡◌ {A = ℕ} 0 1 = cc in omega arith

module _ (f : Format) (W : ℕ) (some : 1 ≤ W) (tops : 2 ^ (W - 1) ≡ top f) (fields : 2 ^ (W - 1 - (prec f - 1)) ≡ suc (ones f)) where
  ordinal_is : (p : ℕ) → ordinal W p ≡ p % top f
  unfolding ordinal
  ordinal_is p = ap (λ (t : ℕ). p % t) tops

  nan_test : (p : ℕ) → not_a_number W (prec f - 1) p ≡ ltb (end_of f) (p % top f)
  unfolding not_a_number infinity_ordinal
  nan_test p =
      ap₂ (λ (n o : ℕ). ltb (n * hid f) o) (let e : 2 ^ (W - 1 - (prec f - 1)) - 1 ≡ ones f = omega (arith, fields) in e) (ordinal_is p)

  a_number : (p : ℕ) → not_a_number W (prec f - 1) p ≡ false → Number f (of_bits f p) (leb (top f) p) (ordinal W p)
  a_number p e = rw (ordinal_is p) (number_bits f p (ltb-false (end_of f) (p % top f) (sym (nan_test p) ∙ e)))

  -- ---- a not-a-number of the summary is a not-a-number

  pub nan_is_nan : (p : ℕ) → (not_a_number W (prec f - 1) p ≡ true) ↔ (of_bits f p ≡ nan)
  nan_is_nan p = (to, λ n. fro n (not_a_number W (prec f - 1) p) refl)
    where
      to : not_a_number W (prec f - 1) p ≡ true → of_bits f p ≡ nan
      to e = nan_bits_lem f p (ltb-true (end_of f) (p % top f) (sym (nan_test p) ∙ e))

      fro : of_bits f p ≡ nan → (b : Bool) → not_a_number W (prec f - 1) p ≡ b → b ≡ true
      fro n true e = refl
      fro n false e = absurd (no_nan f (of_bits f p) (leb (top f) p) (ordinal W p) (a_number p e) n)

  -- ---- two numbers

  placed : (p : ℕ) → p < 2 ^ W → Placed (2 ^ (W - 1)) (leb (top f) p) (ordinal W p) (rank W p)
  placed p h = go (le_or_lt (2 ^ (W - 1)) p)
    where
      go : (2 ^ (W - 1) ≤ p) ⊎ (p < 2 ^ (W - 1)) → Placed (2 ^ (W - 1)) (leb (top f) p) (ordinal W p) (rank W p)
      go (inl l) = rw (le-leb (top f) p (omega (arith, tops))) (omega (arith, rank_signed W some p l, ordinal_signed W some p l h, twice_half W some))
      go (inr l) = rw (lt-leb (top f) p (omega (arith, tops))) (omega (arith, rank_plain W some p l, ordinal_plain W some p l))

  module _ (x p : ℕ) (hx : x < 2 ^ W) (hp : p < 2 ^ W) where
    compared : not_a_number W (prec f - 1) x ≡ false → not_a_number W (prec f - 1) p ≡ false → Compares (of_bits f x) (of_bits f p) (leb (top f) x) (ordinal W x) (leb (top f) p) (ordinal W p)
    compared a b = numbers_compare f (of_bits f x) (of_bits f p) (leb (top f) x) (leb (top f) p) (ordinal W x) (ordinal W p) (a_number x a) (a_number p b)

    numbers_at_least : not_a_number W (prec f - 1) x ≡ false → not_a_number W (prec f - 1) p ≡ false → at_least W (prec f - 1) x p ≡ le (of_bits f x) (of_bits f p)
    unfolding at_least zero_or_minus_zero le
    numbers_at_least a b =
        let is = compared a b in
        rw (a, b) (by_places (2 ^ (W - 1)) (leb (top f) x) (leb (top f) p) (ordinal W x) (ordinal W p) (rank W x) (rank W p) (placed x hx) (placed p hp) ∙ sym (ap₂ ◌||◌ is.0 is.1))

    -- "at least" is IEEE 754's comparison: -0 equals 0, and with a not-a-number it is false
    pub at_least_is_le : at_least W (prec f - 1) x p ≡ le (of_bits f x) (of_bits f p)
    unfolding at_least
    at_least_is_le = go (not_a_number W (prec f - 1) x) refl (not_a_number W (prec f - 1) p) refl
      where
        go : (a : Bool) → not_a_number W (prec f - 1) x ≡ a → (b : Bool) → not_a_number W (prec f - 1) p ≡ b → at_least W (prec f - 1) x p ≡ le (of_bits f x) (of_bits f p)
        go true a b e = rw ((nan_is_nan x).0 a, nan_le (of_bits f p), a)
        go false a true b = rw ((nan_is_nan p).0 b, le_nan (of_bits f x), a, b)
        go false a false b = numbers_at_least a b

    -- the order of the summary is finer: what stands at x or behind it is at least x, and what is less stands before
    pub behind_is_at_least : not_a_number W (prec f - 1) x ≡ false → not_a_number W (prec f - 1) p ≡ false → rank W x ≤ rank W p → le (of_bits f x) (of_bits f p) ≡ true
    unfolding at_least
    behind_is_at_least a b l = sym at_least_is_le ∙ (let e : at_least W (prec f - 1) x p ≡ true = rw (a, b, le-leb (rank W x) (rank W p) l) in e)

    pub less_stands_before : not_a_number W (prec f - 1) x ≡ false → not_a_number W (prec f - 1) p ≡ false → lt (of_bits f x) (of_bits f p) ≡ true → rank W x < rank W p
    less_stands_before a b l =
        stands_before (2 ^ (W - 1)) (leb (top f) x) (leb (top f) p) (ordinal W x) (ordinal W p) (rank W x) (rank W p) (placed x hx) (placed p hp) (sym (compared a b).0 ∙ l)

  -- ---- "-0 stands below 0"

  -- the two zeros as IEEE 754 reads them
  pub the_pattern_of_zero : of_bits f 0 ≡ fin false 0 (pos 0)
  the_pattern_of_zero = zero_read f 0 (zero-mod (top f)) (zero-mod (hid f)) ∙ ap (λ (s : Bool). fin s 0 (pos 0)) (lt-leb (top f) 0 (omega (arith, tops, pow_pos (W - 1))))

  pub the_pattern_of_minus_zero : of_bits f (2 ^ (W - 1)) ≡ fin true 0 (pos 0)
  the_pattern_of_minus_zero =
      rw tops (zero_read f (top f) (mod_self (top f)) (mul-mod_right (hid f) (suc (ones f))) ∙ ap (λ (s : Bool). fin s 0 (pos 0)) (le-leb (top f) (top f) (le_refl (top f))))

  -- -0 has the place right before 0: it stands below 0, and nothing between them
  pub minus_zero_stands_right_before_zero : suc (rank W (2 ^ (W - 1))) ≡ rank W 0
  minus_zero_stands_right_before_zero =
      omega (arith, rank_signed W some (2 ^ (W - 1)) (le_refl (2 ^ (W - 1))), rank_plain W some 0 (pow_pos (W - 1)), twice_half W some, pow_pos (W - 1))

-- ---- binary32 and binary64

pub nan32 : (p : ℕ) → (not_a_number 32 23 p ≡ true) ↔ (of_bits binary32 p ≡ nan)
nan32 = nan_is_nan binary32 32 (lit≤ tt) refl refl

pub nan64 : (p : ℕ) → (not_a_number 64 52 p ≡ true) ↔ (of_bits binary64 p ≡ nan)
nan64 = nan_is_nan binary64 64 (lit≤ tt) refl refl

pub at_least32 : (x p : ℕ) → x < 2 ^ 32 → p < 2 ^ 32 → at_least 32 23 x p ≡ le (of_bits binary32 x) (of_bits binary32 p)
at_least32 = at_least_is_le binary32 32 (lit≤ tt) refl refl

pub at_least64 : (x p : ℕ) → x < 2 ^ 64 → p < 2 ^ 64 → at_least 64 52 x p ≡ le (of_bits binary64 x) (of_bits binary64 p)
at_least64 = at_least_is_le binary64 64 (lit≤ tt) refl refl

-- for a width that is known, in its own format
pub at_least_as : (W : ℕ) → known_width W ≡ true → (x p : ℕ) → x < 2 ^ W → p < 2 ^ W → at_least W (fraction_bits W) x p ≡ le (of_bits (format_of W) x) (of_bits (format_of W) p)
unfolding fraction_bits format_of
at_least_as W known x p hx hp = ⊎_elim (λ e. go32 e) (λ e. go64 e) (width_cases W known)
  where
    go32 : W ≡ 32 → at_least W (fraction_bits W) x p ≡ le (of_bits (format_of W) x) (of_bits (format_of W) p)
    go32 e = rw e (at_least32 x p (subst (λ (w : ℕ). x < 2 ^ w) e hx) (subst (λ (w : ℕ). p < 2 ^ w) e hp))

    go64 : W ≡ 64 → at_least W (fraction_bits W) x p ≡ le (of_bits (format_of W) x) (of_bits (format_of W) p)
    go64 e = rw e (at_least64 x p (subst (λ (w : ℕ). x < 2 ^ w) e hx) (subst (λ (w : ℕ). p < 2 ^ w) e hp))

pub nan_as : (W : ℕ) → known_width W ≡ true → (p : ℕ) → (not_a_number W (fraction_bits W) p ≡ true) ↔ (of_bits (format_of W) p ≡ nan)
unfolding fraction_bits format_of
nan_as W known p = ⊎_elim (λ e. rw e (nan32 p)) (λ e. rw e (nan64 p)) (width_cases W known)

pub is_a_number : (W : ℕ) → known_width W ≡ true → (p : ℕ) → (of_bits (format_of W) p ≡ nan → ⊥) → not_a_number W (fraction_bits W) p ≡ false
is_a_number W known p other = go (not_a_number W (fraction_bits W) p) refl
  where
    go : (b : Bool) → not_a_number W (fraction_bits W) p ≡ b → not_a_number W (fraction_bits W) p ≡ false
    go true e = absurd (other ((nan_as W known p).0 e))
    go false e = e

-- ---- the smallest and the largest of values, in the words of IEEE 754: no number among them is less than the one or greater than the other

at_least_by_rank : (W m x p : ℕ) → not_a_number W m x ≡ false → not_a_number W m p ≡ false → rank W x ≤ rank W p → at_least W m x p ≡ true
unfolding at_least
at_least_by_rank W m x p a b h = rw (a, b, le-leb (rank W x) (rank W p) h)

module _ (W : ℕ) (known : known_width W ≡ true) (vs : List ℕ) (below : Below (2 ^ W) vs) (numbers : nans_in W (fraction_bits W) vs < length vs) where
  abbrev m : ℕ
  m = fraction_bits W

  pub nothing_is_less_than_the_smallest : (k : ℕ) → k < length vs → not_a_number W m (get_or vs k 0) ≡ false
      → le (of_bits (format_of W) (smallest W m vs)) (of_bits (format_of W) (get_or vs k 0)) ≡ true
  nothing_is_less_than_the_smallest k l number =
      sym (at_least_as W known (smallest W m vs) (get_or vs k 0) (entry.smallest_below W m vs below) (below k))
      ∙ at_least_by_rank W m (smallest W m vs) (get_or vs k 0) (entry.smallest_among W m vs numbers).3 number
      (entry.smallest_least W m (width_some W known) vs below numbers k l number)

  pub nothing_is_greater_than_the_largest : (k : ℕ) → k < length vs → not_a_number W m (get_or vs k 0) ≡ false
      → le (of_bits (format_of W) (get_or vs k 0)) (of_bits (format_of W) (largest W m vs)) ≡ true
  nothing_is_greater_than_the_largest k l number =
      sym (at_least_as W known (get_or vs k 0) (largest W m vs) (below k) (entry.largest_below W m vs below))
      ∙ at_least_by_rank W m (get_or vs k 0) (largest W m vs) number (entry.largest_among W m vs numbers).3
      (entry.largest_most W m (width_some W known) vs below numbers k l number)
