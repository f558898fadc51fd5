-- The laws of places, once over the width W: a place is below 2 ^ W and has one pattern, and "at least" is one comparison of places.
use mathlib.Core.Path.{◌≡◌, refl, sym, ap, ◌∙◌}
use mathlib.Core.Logic.{◌⊎◌, inl, inr}
use mathlib.Core.Bool.{false, ◌&&◌, ◌||◌, or-true, or-false}
use Prim.Native.Nat.{ℕ, ◌+◌, ◌-◌, ◌*◌, ◌^◌, ◌≤◌, ◌<◌}
use Rattle.std.proofs.Common.{pow-add, add-mul, one-mul}
use native.Mathlib.Nat.{mod-eq_of_lt}
use native.Mathlib.Omega.{arith}
use borrow.Author.Tests.{lt-ltb, le-ltb, le-leb, lt-leb, eq-eqb, ne_eqb}
use lib.Dec.{leb, eqb}
use lib.Pow.{pow_pos}
use Rattle.bins.specs.Tolerance.{ordinal}
use Rattle.std.specs.Float.Ieee.{size}
use Rattle.stream.specs.Setting.{fraction_bits}
use Rattle.bins.proofs.Law.Tolerance.{size_from}
use Rattle.bins.proofs.Law.Number.{le_or_lt, mod_once, twice_half}
use Rattle.summary.specs.Order.{infinity_ordinal, not_a_number, rank, zero_or_minus_zero, at_least}
use Rattle.summary.specs.Private.{pattern_of, floor_rank}

-- the infinities, as the difference of two words
pub infinity_is : (W m : ℕ) → m + 3 ≤ W → 2 ^ (W - 1) - 2 ^ m ≡ infinity_ordinal W m
unfolding infinity_ordinal
infinity_is W m room =
    let k = 2 ^ (W - 1 - m) - 1 in
    let whole : 2 ^ (W - 1) ≡ 2 ^ (W - 1 - m) * 2 ^ m = ap (λ (n : ℕ). 2 ^ n) (let e : W - 1 ≡ W - 1 - m + m = omega arith in e) ∙ pow-add 2 (W - 1 - m) m in
    let more : 2 ^ (W - 1 - m) * 2 ^ m ≡ (k + 1) * 2 ^ m = ap (λ (n : ℕ). n * 2 ^ m) (let e : 2 ^ (W - 1 - m) ≡ k + 1 = omega (arith, pow_pos (W - 1 - m)) in e) in
    omega (arith, whole, more, add-mul k 1 (2 ^ m), one-mul (2 ^ m))

-- all bits set are as many as there are
pub all_size : (W n : ℕ) → 1 ≤ W → n ≡ size (2 ^ W - 1) → n ≤ W → n ≡ W
all_size W n some is most =
    let led : 2 ^ (W - 1) ≤ 2 ^ W - 1 = omega (arith, twice_half W some, pow_pos (W - 1)) in
    omega (arith, size_from (2 ^ W - 1) (W - 1) led)

-- the fraction bits go by the width
pub number_is : (W m x : ℕ) → ((W ≡ 32) × (m ≡ 23)) ⊎ ((W ≡ 64) × (m ≡ 52)) → not_a_number W (fraction_bits W) x ≡ not_a_number W m x
unfolding fraction_bits
number_is W m x (inl e) = rw (e.0, e.1) refl
number_is W m x (inr e) = rw (e.0, e.1) refl

module _ (W : ℕ) (some : 1 ≤ W) where
  -- 2 ^ W is twice 2 ^ (W - 1), which is at least 1: all that omega has to know of them
  halves : (2 ^ W ≡ 2 ^ (W - 1) + 2 ^ (W - 1)) × (1 ≤ 2 ^ (W - 1))
  halves = (twice_half W some, pow_pos (W - 1))

  -- ---- without the sign, and with it

  pub rank_plain : (p : ℕ) → p < 2 ^ (W - 1) → rank W p ≡ 2 ^ (W - 1) + p
  unfolding rank
  rank_plain p h = rw (lt-ltb p (2 ^ (W - 1)) h)

  pub rank_signed : (p : ℕ) → 2 ^ (W - 1) ≤ p → rank W p ≡ 2 ^ W - 1 - p
  unfolding rank
  rank_signed p h = rw (le-ltb p (2 ^ (W - 1)) h)

  pub ordinal_plain : (p : ℕ) → p < 2 ^ (W - 1) → ordinal W p ≡ p
  unfolding ordinal
  ordinal_plain p h = mod-eq_of_lt h

  pub ordinal_signed : (p : ℕ) → 2 ^ (W - 1) ≤ p → p < 2 ^ W → ordinal W p ≡ p - 2 ^ (W - 1)
  unfolding ordinal
  ordinal_signed p h l = mod_once p (2 ^ (W - 1)) h (omega (arith, halves))

  -- ---- a place is below 2 ^ W, and so is the pattern at it

  pub rank_below : (p : ℕ) → p < 2 ^ W → rank W p < 2 ^ W
  rank_below p h = go (le_or_lt (2 ^ (W - 1)) p)
    where
      go : (2 ^ (W - 1) ≤ p) ⊎ (p < 2 ^ (W - 1)) → rank W p < 2 ^ W
      go (inl l) = omega (arith, rank_signed p l, halves)
      go (inr l) = omega (arith, rank_plain p l, halves)

  pub pattern_low : (r : ℕ) → r < 2 ^ (W - 1) → pattern_of W r ≡ 2 ^ W - 1 - r
  unfolding pattern_of
  pattern_low r h = rw (lt-ltb r (2 ^ (W - 1)) h)

  pub pattern_high : (r : ℕ) → 2 ^ (W - 1) ≤ r → pattern_of W r ≡ r - 2 ^ (W - 1)
  unfolding pattern_of
  pattern_high r h = rw (le-ltb r (2 ^ (W - 1)) h)

  pub pattern_below : (r : ℕ) → r < 2 ^ W → pattern_of W r < 2 ^ W
  pattern_below r h = go (le_or_lt (2 ^ (W - 1)) r)
    where
      go : (2 ^ (W - 1) ≤ r) ⊎ (r < 2 ^ (W - 1)) → pattern_of W r < 2 ^ W
      go (inl l) = omega (arith, pattern_high r l, halves)
      go (inr l) = omega (arith, pattern_low r l, halves)

  -- ---- there and back

  pub back : (p : ℕ) → p < 2 ^ W → pattern_of W (rank W p) ≡ p
  back p h = go (le_or_lt (2 ^ (W - 1)) p)
    where
      go : (2 ^ (W - 1) ≤ p) ⊎ (p < 2 ^ (W - 1)) → pattern_of W (rank W p) ≡ p
      go (inl l) = omega (arith, rank_signed p l, pattern_low (rank W p) (omega (arith, rank_signed p l, halves)), halves)
      go (inr l) = omega (arith, rank_plain p l, pattern_high (rank W p) (omega (arith, rank_plain p l)))

  pub forth : (r : ℕ) → r < 2 ^ W → rank W (pattern_of W r) ≡ r
  forth r h = go (le_or_lt (2 ^ (W - 1)) r)
    where
      go : (2 ^ (W - 1) ≤ r) ⊎ (r < 2 ^ (W - 1)) → rank W (pattern_of W r) ≡ r
      go (inl l) = omega (arith, pattern_high r l, rank_plain (pattern_of W r) (omega (arith, pattern_high r l, halves)))
      go (inr l) = omega (arith, pattern_low r l, rank_signed (pattern_of W r) (omega (arith, pattern_low r l, halves)), halves)

  pub rank_injective : (x p : ℕ) → x < 2 ^ W → p < 2 ^ W → rank W x ≡ rank W p → x ≡ p
  rank_injective x p hx hp e = sym (back x hx) ∙ ap (pattern_of W) e ∙ back p hp

  -- ---- "at least" by places

  -- -0 has the last place before H = 2 ^ (W - 1), and 0 has H
  minus_zero : rank W (2 ^ (W - 1)) ≡ 2 ^ (W - 1) - 1
  minus_zero = omega (arith, rank_signed (2 ^ (W - 1)) (omega arith), halves)

  pub floor_zero : (x : ℕ) → ordinal W x ≡ 0 → floor_rank W x ≡ 2 ^ (W - 1) - 1
  unfolding floor_rank
  floor_zero x e = rw (eq-eqb (ordinal W x) 0 e) minus_zero

  pub floor_some : (x : ℕ) → (ordinal W x ≡ 0 → ⊥) → floor_rank W x ≡ rank W x
  unfolding floor_rank
  floor_some x n = rw (ne_eqb (ordinal W x) 0 n)

  pub floor_below : (x : ℕ) → x < 2 ^ W → floor_rank W x < 2 ^ W
  floor_below x h = go (le_or_lt (ordinal W x) 0)
    where
      go : (ordinal W x ≤ 0) ⊎ (0 < ordinal W x) → floor_rank W x < 2 ^ W
      go (inl l) = omega (arith, floor_zero x (omega arith), halves)
      go (inr l) = omega (arith, floor_some x (λ e. omega (arith, e, l)), rank_below x h)

  -- 0 and -0 stand side by side
  zero_rank : (x : ℕ) → x < 2 ^ W → ordinal W x ≡ 0 → (2 ^ (W - 1) - 1 ≤ rank W x) × (rank W x ≤ 2 ^ (W - 1))
  zero_rank x h e = go (le_or_lt (2 ^ (W - 1)) x)
    where
      go : (2 ^ (W - 1) ≤ x) ⊎ (x < 2 ^ (W - 1)) → (2 ^ (W - 1) - 1 ≤ rank W x) × (rank W x ≤ 2 ^ (W - 1))
      go (inl l) = omega (arith, e, rank_signed x l, ordinal_signed x l h, halves)
      go (inr l) = omega (arith, e, rank_plain x l, ordinal_plain x l, halves)

  module _ (x p : ℕ) (hx : x < 2 ^ W) (hp : p < 2 ^ W) where
    -- for a zero x: 0 stands behind -0, and there the ordinals decide, as the place of -0 does
    zero_floor : ordinal W x ≡ 0 → (leb (rank W x) (rank W p) || eqb (ordinal W p) 0) ≡ leb (2 ^ (W - 1) - 1) (rank W p)
    zero_floor e = go (le_or_lt (2 ^ (W - 1)) p) (le_or_lt p (2 ^ (W - 1)))
      where
        go : (2 ^ (W - 1) ≤ p) ⊎ (p < 2 ^ (W - 1)) → (p ≤ 2 ^ (W - 1)) ⊎ (2 ^ (W - 1) < p)
            → (leb (rank W x) (rank W p) || eqb (ordinal W p) 0) ≡ leb (2 ^ (W - 1) - 1) (rank W p)
        go (inr a) b =
            rw (le-leb (rank W x) (rank W p) (omega (arith, zero_rank x hx e, rank_plain p a)), le-leb (2 ^ (W - 1) - 1) (rank W p) (omega (arith, rank_plain p a)))
        go (inl a) (inl b) =
            rw (eq-eqb (ordinal W p) 0 (omega (arith, ordinal_signed p a hp)), le-leb (2 ^ (W - 1) - 1) (rank W p) (omega (arith, rank_signed p a, halves)))
            (or-true (leb (rank W x) (rank W p)))
        go (inl a) (inr b) =
            let none = ne_eqb (ordinal W p) 0 (λ z. omega (arith, z, ordinal_signed p a hp)) in
            rw (none, lt-leb (rank W x) (rank W p) (omega (arith, zero_rank x hx e, rank_signed p a, halves)), lt-leb (2 ^ (W - 1) - 1) (rank W p) (omega (arith, rank_signed p a, halves)))

    floor_is : (leb (rank W x) (rank W p) || (zero_or_minus_zero W x && zero_or_minus_zero W p)) ≡ leb (floor_rank W x) (rank W p)
    unfolding zero_or_minus_zero
    floor_is = go (le_or_lt (ordinal W x) 0)
      where
        go : (ordinal W x ≤ 0) ⊎ (0 < ordinal W x) → (leb (rank W x) (rank W p) || (eqb (ordinal W x) 0 && eqb (ordinal W p) 0)) ≡ leb (floor_rank W x) (rank W p)
        go (inl z) = let e : ordinal W x ≡ 0 = omega arith in rw (eq-eqb (ordinal W x) 0 e, floor_zero x e) (zero_floor e)
        go (inr s) =
            let n : ordinal W x ≡ 0 → ⊥ = λ e. omega (arith, e, s) in
            rw (ne_eqb (ordinal W x) 0 n, floor_some x n) (or-false (leb (rank W x) (rank W p)))

    pub at_least_floor : (m : ℕ) → not_a_number W m x ≡ false → not_a_number W m p ≡ false → at_least W m x p ≡ leb (floor_rank W x) (rank W p)
    unfolding at_least
    at_least_floor m a b = rw (a, b) floor_is
