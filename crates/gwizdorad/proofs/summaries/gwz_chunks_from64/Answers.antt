-- `gwizdorad::summaries::gwz_chunks_from64` meets its contract.
use mathlib.Core.Path.{◌∙◌, ap}
use Rattle.gwizdorad.specs.Result.{answer_result}
use Rattle.gwizdorad.proofs.summaries.gwz_chunks_from64.Goals as goal

pub returns : goal.returns
returns c = record { value = c.result_of_answer.ensures ∙ ap answer_result c.chunks_from.ensures.value; out_after = c.chunks_from.ensures.out_after }
