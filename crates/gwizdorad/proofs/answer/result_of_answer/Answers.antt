-- `gwizdorad::answer::result_of_answer` meets its contract.
use mathlib.Core.Path.{◌∙◌, sym, ap, ap₂}
use Rattle.stream.specs.Rows.{answer_number, answer_detail}
use Rattle.gwizdorad_numbers.specs.Result.{result_of}
use Rattle.gwizdorad.specs.Result.{answer_result}
use Rattle.gwizdorad.proofs.answer.result_of_answer.Goals as goal

pub returns-in-Ok : goal.returns-in-Ok
unfolding answer_result answer_number answer_detail
returns-in-Ok c = c.result_of.ensures ∙ ap answer_result (sym c.in-Ok.is)

pub returns-in-Err : goal.returns-in-Err
unfolding answer_result answer_number answer_detail
returns-in-Err c = c.result_of-in-Err.ensures ∙ ap₂ result_of c.number.ensures c.detail.ensures ∙ ap answer_result (sym c.in-Err.is)
