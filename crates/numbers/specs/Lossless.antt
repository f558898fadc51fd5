-- Document 01, "Lossless code (mode 0)", sentence by sentence. W is the width and m the number of fraction bits.
use Rattle.std.specs.Prelude.{ℕ, ◌+◌, ◌-◌, ◌*◌, ◌/◌, ◌%◌, ◌^◌, cond, ◌||◌, ◌==◌, nat_le}
use Rattle.numbers.specs.Signed.{signed_view, folded, unfolded, bits_of}

-- "Rotate the pattern left by one, so the sign is lowest and the exponent field highest."
unfoldable pub rotated : ℕ → ℕ → ℕ
rotated W p = p % 2 ^ (W - 1) * 2 + p / 2 ^ (W - 1)

-- The exponent field of a rotated pattern. One unit of it is 2 ^ (m + 1): "2^24 or 2^53".
unfoldable pub field : ℕ → ℕ → ℕ
field m r = r / 2 ^ (m + 1)

-- "the difference taken modulo 2^W"
unfoldable pub minus : ℕ → ℕ → ℕ → ℕ
minus W a b = (a + (2 ^ W - b)) % 2 ^ W

-- "then, if the field is now zero or the whole is at least 2^(W-1), subtract one unit of the field, again modulo 2^W"
unfoldable pub lowered : ℕ → ℕ → ℕ → ℕ
lowered W m d = cond (field m d == 0 || nat_le (2 ^ (W - 1)) d) (minus W d (2 ^ (m + 1))) d

-- "If the exponent field is not zero: subtract 2^(W-1)", and then the line above. This is the exponent step.
unfoldable pub stepped : ℕ → ℕ → ℕ → ℕ
stepped W m r = cond (field m r == 0) r (lowered W m (minus W r (2 ^ (W - 1))))

-- "Last, for all patterns, the result is read as a signed whole number x, and the code is 2x when x is not negative, else -2x-1."
unfoldable pub lossless_code : ℕ → ℕ → ℕ → ℕ
lossless_code W m p = folded (signed_view W (stepped W m (rotated W p)))

-- ---- the way back, each step undone in turn

-- the sum, modulo 2^W
unfoldable pub plus : ℕ → ℕ → ℕ → ℕ
plus W a b = (a + b) % 2 ^ W

-- the exponents below zero get their unit back first
unfoldable pub raised : ℕ → ℕ → ℕ → ℕ
raised W m s = cond (nat_le (2 ^ (W - 1)) s) (plus W s (2 ^ (m + 1))) s

unfoldable pub unstepped : ℕ → ℕ → ℕ → ℕ
unstepped W m s = cond (field m s == 0) s (plus W (raised W m s) (2 ^ (W - 1)))

unfoldable pub unrotated : ℕ → ℕ → ℕ
unrotated W r = r / 2 + r % 2 * 2 ^ (W - 1)

unfoldable pub lossless_restored : ℕ → ℕ → ℕ → ℕ
lossless_restored W m c = unrotated W (unstepped W m (bits_of W (unfolded c)))
