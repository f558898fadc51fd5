-- `gwizdorad::streams::infinity64` meets its contract.
use mathlib.Core.Path.{sym, ap}
use Rattle.gwizdorad.specs.Result.{infinity64}
use Rattle.gwizdorad.proofs.streams.infinity64.Goals as goal

pub returns-then-negative : goal.returns-then-negative
unfolding infinity64
returns-then-negative c = sym (ap infinity64 c.if-negative.true)

pub returns-else-negative : goal.returns-else-negative
unfolding infinity64
returns-else-negative c = sym (ap infinity64 c.if-negative.false)
