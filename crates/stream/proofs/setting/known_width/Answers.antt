-- `stream::setting::known_width` meets its contract.
use Rattle.stream.specs.Setting.{known_width}
use mathlib.Core.Path.{refl}
use Rattle.stream.proofs.setting.known_width.Goals as goal

pub returns : goal.returns
unfolding known_width
returns c = refl
