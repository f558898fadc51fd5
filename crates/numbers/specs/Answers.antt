-- What the library answers, case by case, and document 01's number of each case. 0 is success.
use Rattle.std.specs.Prelude.{ℕ, ◌/◌, cond, ◌&&◌, ℤ, nat_le, Option, Some, None, Result, Ok, Err}
use Rattle.numbers.specs.declared.tolerance.PatternError.{PatternError}
use Rattle.numbers.specs.declared.tolerance.PatternError.TheVariants.{NotAllowed, AboveLargest}
use Rattle.bins.specs.Tolerance.{allowed_k, bin_of, known_halves, tolerance_code, tolerance_restored, largest_u}

-- by a rule for halves; one that is not known is refused as a k that is not allowed
unfoldable pub code_answer : ℕ → ℕ → ℕ → ℤ → ℕ → Option ℕ
code_answer W m halves k p = cond (known_halves halves && allowed_k W m k) (Some (tolerance_code W m halves (bin_of W m k) p)) None

-- first the k, then the code: its u is c / 2
unfoldable pub pattern_answer : ℕ → ℕ → ℤ → ℕ → Result ℕ PatternError
pattern_answer W m k c =
    cond (allowed_k W m k)
    (cond (nat_le (c / 2) (largest_u W m (bin_of W m k))) (Ok (tolerance_restored W m (bin_of W m k) c)) (Err AboveLargest))
    (Err NotAllowed)

-- the same answer, its pattern taken as a number
abbrev pub pattern_of : {A : Type 0} → (A → ℕ) → Result A PatternError → Result ℕ PatternError
pattern_of value (Ok p) = Ok (value p)
pattern_of value (Err e) = Err e

-- ---- the refusal numbers of document 01: 2, "mode or k not allowed"; 10, "u above its largest"

unfoldable pub code_number : Option ℕ → ℕ
code_number (Some c) = 0
code_number None = 2

unfoldable pub pattern_number : Result ℕ PatternError → ℕ
pattern_number (Ok p) = 0
pattern_number (Err NotAllowed) = 2
pattern_number (Err AboveLargest) = 10
