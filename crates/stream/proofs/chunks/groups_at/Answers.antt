-- `stream::chunks::groups_at` meets its contract: there are no more groups than values.
use mathlib.Core.Path.{◌≡◌, ap, ap₂, ◌∙◌}
use native.Mathlib.Omega.{arith}
use Rattle.stream.specs.Setting.{group_size}
use Rattle.stream.specs.Chunk.{groups_in}
use Rattle.stream.proofs.Law.Chunk.BytesLeft.{groups_few}
use Rattle.stream.proofs.Law.Plain.Rounding.{rounded_up}
use Rattle.stream.proofs.chunks.groups_at.Goals as goal

pub returns : goal.returns
unfolding groups_in
returns c =
    let size = c.group_size-size in
    let count = c.count_at in
    let is = size.ensures.0 ∙ ap group_size c.setting_in.ensures.0 in
    let up : c.div_ceil.result ≡ groups_in size.result count.result = c.div_ceil.ensures ∙ rounded_up count.result size.result size.ensures.1 in (
      up ∙ ap₂ groups_in is count.ensures.0,
      omega (arith, up, groups_few size.result count.result size.ensures.1, count.ensures.1),
    )
