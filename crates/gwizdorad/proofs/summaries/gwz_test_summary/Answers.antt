-- `gwizdorad::summaries::gwz_test_summary` meets its contract.
use mathlib.Core.Path.{◌∙◌, ap}
use Rattle.gwizdorad.specs.Result.{answer_result}
use Rattle.gwizdorad.proofs.summaries.gwz_test_summary.Goals as goal

pub returns : goal.returns
returns c = c.result_of_answer.ensures ∙ ap answer_result c.test_summary.ensures
