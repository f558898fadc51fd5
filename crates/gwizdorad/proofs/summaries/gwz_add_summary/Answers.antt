-- `gwizdorad::summaries::gwz_add_summary` meets its contract.
use mathlib.Core.Path.{◌∙◌, ap}
use Rattle.gwizdorad.specs.Result.{answer_result}
use Rattle.gwizdorad.proofs.summaries.gwz_add_summary.Goals as goal

pub returns : goal.returns
returns c = record { value = c.result_of_answer.ensures ∙ ap answer_result c.add_summary.ensures.value; out_after = c.add_summary.ensures.out_after }
