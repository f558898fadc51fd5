-- Document 01, the last step of the lossless code: "the result is read as a signed whole number x, and the code is 2x when x is not
-- negative, else -2x-1". It stands by itself, since difference codes end with it too. Then the way back.
use Rattle.std.specs.Prelude.{ℕ, suc, ◌+◌, ◌-◌, ◌*◌, ◌/◌, ◌%◌, ◌^◌, cond, ℤ, pos, negsuc, ◌==◌, nat_lt}

-- two's complement at the width W: from 2^(W-1) on, s stands for s - 2^W; negsuc n is -(n + 1)
unfoldable pub signed_view : ℕ → ℕ → ℤ
signed_view W s = cond (nat_lt s (2 ^ (W - 1))) (pos s) (negsuc (2 ^ W - suc s))

-- 2x, or -2x-1, which at x = -(n + 1) is 2n + 1
unfoldable pub folded : ℤ → ℕ
folded (pos n) = 2 * n
folded (negsuc n) = 2 * n + 1

unfoldable pub unfolded : ℕ → ℤ
unfolded c = cond (c % 2 == 0) (pos (c / 2)) (negsuc (c / 2))

-- the bits of a signed whole number, in two's complement
unfoldable pub bits_of : ℕ → ℤ → ℕ
bits_of W (pos n) = n
bits_of W (negsuc n) = 2 ^ W - suc n
