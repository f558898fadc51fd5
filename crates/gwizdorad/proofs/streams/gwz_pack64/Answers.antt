-- `gwizdorad::streams::gwz_pack64` meets its contract.
use mathlib.Core.Path.{◌∙◌, ap}
use lib.IntN.{ℤ}
use lib.ListN.{length}
use mir.Facts.{to_z-of_z}
use Rattle.stream.specs.Operations.{pack_answer, pack_out}
use Rattle.gwizdorad.specs.Result.{answer_result}
use Rattle.gwizdorad.proofs.streams.gwz_pack64.Goals as goal

pub returns : goal.returns
returns c =
    let same = to_z-of_z c.ranges.k in record {
      value = c.result_of_answer.ensures
          ∙ ap answer_result
          (c.pack64.ensures.value
          ∙ ap (λ (k : ℤ). pack_answer 64 c.args.level c.args.mode k c.args.group c.args.values.now (length c.args.out.now)) same);
      out_after = c.pack64.ensures.out_after
          ∙ ap (λ (k : ℤ). pack_out 64 c.args.level c.args.mode k c.args.group c.args.values.now c.args.out.now) same;
    }
