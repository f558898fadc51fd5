-- `gwizdorad::streams::gwz_check` meets its contract.
use mathlib.Core.Path.{◌∙◌, ap}
use Rattle.gwizdorad.specs.Result.{answer_result}
use Rattle.gwizdorad.proofs.streams.gwz_check.Goals as goal

pub returns : goal.returns
returns c = c.result_of_answer.ensures ∙ ap answer_result c.check.ensures
