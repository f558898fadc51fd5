-- An operation on streams for C returns the one number that `result_of` spells; probe's pattern is lent, and written on success alone.
use Rattle.std.specs.Prelude.{ℕ, Bool, cond, Float, Result, Ok, Err}
use Rattle.std.specs.Float.{binary32, binary64}
use Rattle.std.specs.Float.Ieee.{to_bits}
use Rattle.stream.specs.Rows.{detail_of, answer_number, answer_detail}
use Rattle.stream.specs.declared.answers.Refusal.{Refusal}
use Rattle.stream.specs.declared.answers.Shown.{Shown}
use Rattle.stream.specs.declared.answers.Shown.TheVariants.{Finite, Infinity, NotANumber}
use Rattle.gwizdorad_numbers.specs.Result.{result_of}

-- ---- every operation but probe

unfoldable pub answer_result : Result ℕ Refusal → ℕ
answer_result a = result_of (answer_number a) (answer_detail a)

-- ---- probe: the answer is the value's kind, 0 for a finite number, 1 for an infinity, 2 for a not-a-number; the pattern is lent

unfoldable pub probe_detail : Result (Shown Float ℕ) Refusal → ℕ
probe_detail (Ok (Finite x)) = 0
probe_detail (Ok (Infinity negative)) = 1
probe_detail (Ok (NotANumber p)) = 2
probe_detail (Err refusal) = detail_of refusal

unfoldable pub probe_result : Result (Shown Float ℕ) Refusal → ℕ
probe_result a = result_of (answer_number a) (probe_detail a)

unfoldable pub infinity32 : Bool → ℕ
infinity32 negative = cond negative 0xFF800000 0x7F800000

unfoldable pub probe_out32 : Result (Shown Float ℕ) Refusal → ℕ → ℕ
probe_out32 (Ok (Finite x)) old = to_bits binary32 x
probe_out32 (Ok (Infinity negative)) old = infinity32 negative
probe_out32 (Ok (NotANumber p)) old = p
probe_out32 (Err refusal) old = old

unfoldable pub infinity64 : Bool → ℕ
infinity64 negative = cond negative 0xFFF0000000000000 0x7FF0000000000000

unfoldable pub probe_out64 : Result (Shown Float ℕ) Refusal → ℕ → ℕ
probe_out64 (Ok (Finite x)) old = to_bits binary64 x
probe_out64 (Ok (Infinity negative)) old = infinity64 negative
probe_out64 (Ok (NotANumber p)) old = p
probe_out64 (Err refusal) old = old
