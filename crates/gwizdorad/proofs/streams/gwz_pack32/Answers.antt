-- `gwizdorad::streams::gwz_pack32` meets its contract.
use mathlib.Core.Path.{◌∙◌, ap}
use lib.IntN.{ℤ}
use lib.ListN.{length}
use mir.Facts.{to_z-of_z}
use Rattle.stream.specs.Operations.{pack_answer, pack_out}
use Rattle.gwizdorad.specs.Result.{answer_result}
use Rattle.gwizdorad.proofs.streams.gwz_pack32.Goals as goal

pub returns : goal.returns
returns c =
    let same = to_z-of_z c.ranges.k in record {
      value = c.result_of_answer.ensures
          ∙ ap answer_result
          (c.pack32.ensures.value
          ∙ ap (λ (k : ℤ). pack_answer 32 c.args.level c.args.mode k c.args.group c.args.values.now (length c.args.out.now)) same);
      out_after = c.pack32.ensures.out_after
          ∙ ap (λ (k : ℤ). pack_out 32 c.args.level c.args.mode k c.args.group c.args.values.now c.args.out.now) same;
    }
