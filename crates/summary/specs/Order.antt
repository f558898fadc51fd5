-- Document 02, R-5, how patterns are compared: over the width W and the number of fraction bits m. There are two orders: that of the summary, in which
-- "-0 stands below 0", and "at least", "as IEEE 754 compares (-0 equals 0)". The theorems of proofs/Ieee.antt say both in the words of the toolchain's
-- own IEEE 754 (`lib.Ieee`).
use Rattle.std.specs.Prelude.{ℕ, ◌+◌, ◌-◌, ◌*◌, ◌^◌, Bool, ◌&&◌, ◌||◌, not, cond, leb, ltb, eqb}
use Rattle.bins.specs.Tolerance.{ordinal}

-- the ordinal of both infinities: every bit of the exponent set, and none of the fraction
unfoldable pub infinity_ordinal : ℕ → ℕ → ℕ
infinity_ordinal W m = (2 ^ (W - 1 - m) - 1) * 2 ^ m

-- a not-a-number: its ordinal lies above theirs. Infinities are values.
unfoldable pub not_a_number : ℕ → ℕ → ℕ → Bool
not_a_number W m p = ltb (infinity_ordinal W m) (ordinal W p)

-- The place of a pattern in the order of the summary: those with the sign from the largest ordinal down to -0, and right behind it 0 and the others up.
unfoldable pub rank : ℕ → ℕ → ℕ
rank W p = cond (ltb p (2 ^ (W - 1))) (2 ^ (W - 1) + p) (2 ^ W - 1 - p)

-- 0 or -0
unfoldable pub zero_or_minus_zero : ℕ → ℕ → Bool
zero_or_minus_zero W p = eqb (ordinal W p) 0

-- the value p is at least x: both are numbers, and p stands at x or behind it, or both are zeros
unfoldable pub at_least : ℕ → ℕ → ℕ → ℕ → Bool
at_least W m x p =
    not (not_a_number W m x) && not (not_a_number W m p)
    && (leb (rank W x) (rank W p) || (zero_or_minus_zero W x && zero_or_minus_zero W p))
