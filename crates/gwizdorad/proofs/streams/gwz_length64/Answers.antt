-- `gwizdorad::streams::gwz_length64` meets its contract.
use mathlib.Core.Path.{◌∙◌, ap}
use lib.IntN.{ℤ}
use mir.Facts.{to_z-of_z}
use Rattle.stream.specs.Operations.{length_answer}
use Rattle.gwizdorad.specs.Result.{answer_result}
use Rattle.gwizdorad.proofs.streams.gwz_length64.Goals as goal

pub returns : goal.returns
returns c = c.result_of_answer.ensures ∙ ap answer_result (c.length64.ensures ∙ ap (λ (k : ℤ). length_answer 64 c.args.level c.args.mode k c.args.group c.args.values.now) (to_z-of_z c.ranges.k))
