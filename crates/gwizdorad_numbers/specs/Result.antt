-- An operation for C returns one number of 64 bits: refusal number · 2^32 + detail, or 0 · 2^32 + answer (k in two's complement of 32
-- bits). What is lent for a second answer is written on success alone.
use Rattle.std.specs.Prelude.{ℕ, ◌+◌, ◌*◌, ◌%◌, ◌^◌, ℤ, Option, Some, None, Result, Ok, Err}
use Rattle.numbers.specs.Signed.{bits_of}
use Rattle.numbers.specs.Answers.{code_number, pattern_number}
use Rattle.numbers.specs.Bound.{bound_number, bound_detail}
use Rattle.numbers.specs.declared.bound.BoundError.{BoundError}
use Rattle.numbers.specs.declared.tolerance.PatternError.{PatternError}

-- 32 bits each. That no number, detail or answer of an operation has more is a theorem for each (proofs/Theorems.antt, "nothing is cut").
unfoldable pub result_of : ℕ → ℕ → ℕ
result_of number detail = number % 2 ^ 32 * 2 ^ 32 + detail % 2 ^ 32

-- ---- the number rules

unfoldable pub bound_result : Result ℤ BoundError → ℕ
bound_result a = result_of (bound_number a) (bits_of 32 (bound_detail a))

unfoldable pub code_result : Option ℕ → ℕ
code_result a = result_of (code_number a) 0

unfoldable pub code_out : Option ℕ → ℕ → ℕ
code_out (Some c) old = c
code_out None old = old

unfoldable pub pattern_result : Result ℕ PatternError → ℕ
pattern_result a = result_of (pattern_number a) 0

unfoldable pub pattern_out : Result ℕ PatternError → ℕ → ℕ
pattern_out (Ok p) old = p
pattern_out (Err e) old = old
