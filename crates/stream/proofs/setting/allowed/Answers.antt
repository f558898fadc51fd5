-- `stream::setting::allowed` meets its contract.
use mathlib.Core.Bool.{Bool, ◌&&◌}
use mathlib.Core.Path.{ap, ◌∙◌}
use lib.IntN.{ℤ}
use mir.Facts.{to_z-of_z}
use Rattle.stream.specs.Setting.{known_size, allowed_mode, allowed_setting}
use Rattle.stream.proofs.setting.allowed.Goals as goal

pub returns : goal.returns
unfolding allowed_setting known_size
returns c =
    let s = c in
    let a = s.args in
    ap (λ (b : Bool). b && known_size a.size) (c.allowed_mode.ensures ∙ ap (λ (z : ℤ). allowed_mode a.width a.mode z) (to_z-of_z s.ranges.k))
