-- `numbers::bound::is_tolerance` meets its contract.
use Rattle.std.proofs.Common.{refl}
use Rattle.numbers.specs.Bound.{is_tolerance}
use Rattle.numbers.proofs.bound.is_tolerance.Goals as goal

pub returns : goal.returns
unfolding is_tolerance
returns c = refl
