-- `gwizdorad::streams::infinity32` meets its contract.
use mathlib.Core.Path.{sym, ap}
use Rattle.gwizdorad.specs.Result.{infinity32}
use Rattle.gwizdorad.proofs.streams.infinity32.Goals as goal

pub returns-then-negative : goal.returns-then-negative
unfolding infinity32
returns-then-negative c = sym (ap infinity32 c.if-negative.true)

pub returns-else-negative : goal.returns-else-negative
unfolding infinity32
returns-else-negative c = sym (ap infinity32 c.if-negative.false)
