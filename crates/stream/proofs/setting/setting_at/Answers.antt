-- `stream::setting::setting_at` meets its contract: the setting that is made, with the level's rule.
use mathlib.Core.Path.{◌≡◌, ap, ap₂, ◌∙◌}
use lib.IntN.{ℤ}
use mir.Facts.{to_z-of_z}
use Rattle.stream.specs.Setting.{allowed_setting, setting_of, ruled, setting_at}
use Rattle.stream.proofs.Law.Setting.Allowed.{ruled_allowed}
use Rattle.stream.proofs.setting.setting_at.Goals as goal
use Rattle.stream.proofs.setting.setting_at.Lts as lts
use Rattle.stream.proofs.setting.setting_at.Reads as reads
use Rattle.stream.proofs.setting.setting_at.Tie as tie

abbrev After-halves_at : Type 0
After-halves_at = lts.After-halves_at tie.the-claims reads.Pre reads.Post

made : (c : After-halves_at) → let a = c.args in ruled c.halves_at.result c.setting_of-t.result ≡ setting_at a.level a.width a.mode a.k a.size
made c =
    let s = c in
    let a = s.args in
    ap₂ ruled c.halves_at.ensures (c.setting_of-t.ensures.0 ∙ ap (λ (z : ℤ). setting_of a.width a.mode z a.size) (to_z-of_z s.ranges.k))

pub setting_of-t-requires : goal.setting_of-t-requires
setting_of-t-requires c = let a = c.args in (c.requires.0, ap (λ (z : ℤ). allowed_setting a.width a.mode z a.size) (to_z-of_z c.ranges.k) ∙ c.requires.1)

pub returns : goal.returns
returns c = (made c, ruled_allowed c.halves_at.result c.setting_of-t.result c.setting_of-t.ensures.1)
