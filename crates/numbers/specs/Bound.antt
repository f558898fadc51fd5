-- Document 01: "bound takes a width and a binary64 pattern and answers the largest allowed k with 2^k not above it."
use Rattle.std.specs.Prelude.{ℕ, zero, suc, ◌+◌, ◌-◌, ◌*◌, ◌^◌, Bool, cond, ◌&&◌, ℤ, pos, ◌==◌, nat_le, nat_lt, Result, Ok, Err}
use Rattle.std.proofs.Math.IntN.{sub_ℕ}
use Rattle.numbers.specs.declared.bound.BoundError.{BoundError}
use Rattle.numbers.specs.declared.bound.BoundError.TheVariants.{UnknownWidth, NoTolerance, TooSmall}
use Rattle.bins.specs.Tolerance.{k_offset, last_bin, magnitude}

-- "a finite number above 0": above the pattern of 0 and below that of infinity, behind which come the not-a-numbers and all negatives
unfoldable pub is_tolerance : ℕ → Bool
is_tolerance t = nat_lt 0 t && nat_lt t (2047 * 2 ^ 52)

-- the k of a bin, at the width W: the difference j - (its smallest k without the sign), a signed number
unfoldable pub exponent_of : ℕ → ℕ → ℕ → ℤ
exponent_of W m j = sub_ℕ j (k_offset W m)

-- "2^k not above it", for the k of the bin j. Both sides count in 2^-1075, half the smallest binary64 number: there 2^k is 2 ^ (k + 1075).
unfoldable pub not_above : ℕ → ℕ → ℕ → ℕ → Bool
not_above W m t j = nat_le (2 ^ (j + (k_offset 64 52 - k_offset W m))) (2 * magnitude 52 t)

-- the largest of the bins 0 to n whose 2^k is not above t: tried from n down
unfoldable pub largest_up_to : ℕ → ℕ → ℕ → ℕ → Result ℤ BoundError
largest_up_to W m t zero = cond (not_above W m t zero) (Ok (exponent_of W m zero)) (Err TooSmall)
largest_up_to W m t (suc n) = cond (not_above W m t (suc n)) (Ok (exponent_of W m (suc n))) (largest_up_to W m t n)

unfoldable pub bound_at : ℕ → ℕ → ℕ → Result ℤ BoundError
bound_at W m t = cond (is_tolerance t) (largest_up_to W m t (last_bin W m)) (Err NoTolerance)

unfoldable pub bound_answer : ℕ → ℕ → Result ℤ BoundError
bound_answer width t = cond (width == 32) (bound_at 32 23 t) (cond (width == 64) (bound_at 64 52 t) (Err UnknownWidth))

-- document 01's number of each case: 2, "width not 32 or 64"; 12, "tolerance not a finite number above 0"; 13, "no allowed k is small enough"
unfoldable pub bound_number : Result ℤ BoundError → ℕ
bound_number (Ok k) = 0
bound_number (Err UnknownWidth) = 2
bound_number (Err NoTolerance) = 12
bound_number (Err TooSmall) = 13

-- and what stands beside it: k, or the detail, which is 0 in the rows 2, 12 and 13
unfoldable pub bound_detail : Result ℤ BoundError → ℤ
bound_detail (Ok k) = k
bound_detail (Err UnknownWidth) = pos 0
bound_detail (Err NoTolerance) = pos 0
bound_detail (Err TooSmall) = pos 0
