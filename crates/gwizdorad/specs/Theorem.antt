-- The words that the theorems of proofs/Theorems.antt are stated in.
use Rattle.std.specs.Prelude.{◌≡◌, ℕ, ◌<◌, Result, Err}
use Rattle.stream.specs.Rows.{number_of, answer_number, answer_detail}
use Rattle.stream.specs.declared.answers.Refusal.{Refusal}
use Rattle.gwizdorad_numbers.specs.Theorem.{Uncut}
use Rattle.gwizdorad.specs.Result.{answer_result}

-- An answer of any operation but probe is handed on whole, and only success has the number 0.
pub record Spelled (a : Result ℕ Refusal) : Type 0 where
  pub uncut : Uncut (answer_number a) (answer_detail a) (answer_result a)
  pub numbered : (refusal : Refusal) → a ≡ Err refusal → 0 < number_of refusal
