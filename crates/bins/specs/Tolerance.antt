-- Document 01, "Tolerance code (mode 1)", with the two rules for halves of document 02, R-7. W is the width and m the number of fraction bits.
-- "Distances are stated over whole numbers: finite values count in units of 2^-149 or 2^-1074." In that unit the bin E = 2^(k+1)
-- is 2 ^ j with j = k + 150 (k + 1075), a natural number for every allowed k. The definitions use j, and k meets them at `bin_of`.
use Rattle.std.specs.Prelude.{ℕ, suc, ◌+◌, ◌-◌, ◌*◌, ◌/◌, ◌%◌, ◌^◌, Bool, cond, ◌&&◌, ℤ, pos, ◌+ℤ◌, neg_ℤ, ◌==◌, int_le, nat_le, nat_lt, unsigned_abs}
use Rattle.std.proofs.Math.IntN.{sub_ℕ}
use Rattle.std.specs.Float.Ieee.{size}

-- ---- the allowed k

-- What is added to k to count from the smallest allowed one, which is -150 for width 32 and -1075 for width 64: half of the smallest
-- number above 0.
unfoldable pub k_offset : ℕ → ℕ → ℕ
k_offset W m = 2 ^ (W - 2 - m) + m - 1

-- The largest j: 253 and 2045, so that the largest k is 103 and 970. Above it T would be no finite number.
unfoldable pub last_bin : ℕ → ℕ → ℕ
last_bin W m = 2 ^ (W - 1 - m) - 3

-- "Allowed k: -150..103 for width 32, -1075..970 for width 64."
unfoldable pub allowed_k : ℕ → ℕ → ℤ → Bool
allowed_k W m k = int_le (neg_ℤ (pos (k_offset W m))) k && int_le k (sub_ℕ (last_bin W m) (k_offset W m))

-- j of an allowed k: E is 2 ^ j units
unfoldable pub bin_of : ℕ → ℕ → ℤ → ℕ
bin_of W m k = unsigned_abs (k +ℤ pos (k_offset W m))

-- ---- what a pattern stands for

unfoldable pub sign : ℕ → ℕ → ℕ
sign W p = p / 2 ^ (W - 1)

-- "The ordinal is the pattern without its sign, as a whole number."
unfoldable pub ordinal : ℕ → ℕ → ℕ
ordinal W p = p % 2 ^ (W - 1)

-- The significand of an ordinal: the fraction, with the implicit 1 before it unless the exponent is 0.
unfoldable pub significand : ℕ → ℕ → ℕ
significand m o = cond (o / 2 ^ m == 0) (o % 2 ^ m) (2 ^ m + o % 2 ^ m)

-- The magnitude in units of the smallest number above 0. An exponent of 0 counts as 1, which the natural subtraction says.
-- At an infinity or a not-a-number it is at least 2 ^ m * 2 ^ (2 ^ (W - 1 - m) - 2), which no T reaches.
unfoldable pub magnitude : ℕ → ℕ → ℕ
magnitude m o = significand m o * 2 ^ (o / 2 ^ m - 1)

-- The ordinal of a magnitude x that has at most m + 1 digits between its highest and its lowest 1.
unfoldable pub ordinal_of : ℕ → ℕ → ℕ
ordinal_of m x = (size x - suc m) * 2 ^ m + x / 2 ^ (size x - suc m)

-- ---- the code

-- "the threshold is T = E·2^m", and the ordinal of T
unfoldable pub threshold : ℕ → ℕ → ℕ
threshold m j = 2 ^ j * 2 ^ m

unfoldable pub threshold_ordinal : ℕ → ℕ → ℕ
threshold_ordinal m j = suc j * 2 ^ m

-- The whole number nearest to a / b. It is the whole part of a / b + 1/2; where a / b lies halfway between two whole numbers, that is the upper one, away
-- from zero.
unfoldable pub upper : ℕ → ℕ → ℕ
upper a b = (2 * a + b) / (2 * b)

unfoldable pub halfway : ℕ → ℕ → Bool
halfway a b = (2 * a + b) % (2 * b) == 0

-- Which one a half goes to is the rule `halves`: 0 is "away from zero" (document 01), and 1 "ties to even" (document 02, R-7), to the even one of the two.
unfoldable pub known_halves : ℕ → Bool
known_halves halves = nat_le halves 1

-- a / b rounded by a rule; another number than 1 counts as 0, and `numbers` refuses it
unfoldable pub nearest : ℕ → ℕ → ℕ → ℕ
nearest halves a b = cond (halves == 1 && halfway a b) (upper a b - upper a b % 2) (upper a b)

-- "|v|/E, exactly, rounded to the nearest whole number", by a rule
unfoldable pub near : ℕ → ℕ → ℕ → ℕ
near halves j x = nearest halves x (2 ^ j)

-- "Magnitude of v below T: the magnitude code u is |v|/E .. All others: u = ordinal of v - ordinal of T + 2^m."
unfoldable pub magnitude_code : ℕ → ℕ → ℕ → ℕ → ℕ
magnitude_code m halves j o = cond (nat_lt (magnitude m o) (threshold m j)) (near halves j (magnitude m o)) (o - threshold_ordinal m j + 2 ^ m)

-- "The code is 2u + sign."
unfoldable pub tolerance_code : ℕ → ℕ → ℕ → ℕ → ℕ → ℕ
tolerance_code W m halves j p = 2 * magnitude_code m halves j (ordinal W p) + sign W p

-- "Restored: u·E if u < 2^m, else the ordinal u - 2^m + ordinal of T"
unfoldable pub restored_ordinal : ℕ → ℕ → ℕ → ℕ
restored_ordinal m j u = cond (nat_lt u (2 ^ m)) (ordinal_of m (u * 2 ^ j)) (u - 2 ^ m + threshold_ordinal m j)

-- "the sign is put back". The remainder changes nothing where u is at most the largest; above it the answer stays a pattern.
unfoldable pub tolerance_restored : ℕ → ℕ → ℕ → ℕ → ℕ
tolerance_restored W m j c = restored_ordinal m j (c / 2) % 2 ^ (W - 1) + c % 2 * 2 ^ (W - 1)

-- "The largest u is 2^31 - 1 - (k+150)·2^23, or 2^63 - 1 - (k+1075)·2^52."
unfoldable pub largest_u : ℕ → ℕ → ℕ → ℕ
largest_u W m j = 2 ^ (W - 1) - 1 - j * 2 ^ m
