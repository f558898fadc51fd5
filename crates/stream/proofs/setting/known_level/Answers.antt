-- `stream::setting::known_level` meets its contract.
use Rattle.stream.specs.Setting.{highest_level, known_level}
use mathlib.Core.Path.{refl}
use Rattle.stream.proofs.setting.known_level.Goals as goal

pub returns : goal.returns
unfolding known_level highest_level
returns c = refl
