-- `gwizdorad::streams::gwz_unpack64` meets its contract.
use mathlib.Core.Path.{◌∙◌, ap}
use Rattle.gwizdorad.specs.Result.{answer_result}
use Rattle.gwizdorad.proofs.streams.gwz_unpack64.Goals as goal

pub returns : goal.returns
returns c = record { value = c.result_of_answer.ensures ∙ ap answer_result c.unpack64.ensures.value; out_after = c.unpack64.ensures.out_after }
