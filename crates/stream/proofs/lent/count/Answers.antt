-- `stream::lent::count` meets its contract.
use mathlib.Core.Path.{sym, ap}
use lib.ListN.{length}
use Rattle.stream.proofs.Law.Lent.Chosen.{at_32, at_other}
use Rattle.stream.proofs.lent.count.Goals as goal

pub returns-then-t-eq32 : goal.returns-then-t-eq32
returns-then-t-eq32 c = let a = c.args in ap length (sym (at_32 a.t.width a.v32.now a.v64.now c.if-t-eq32.true))

pub returns-else-t-eq32 : goal.returns-else-t-eq32
returns-else-t-eq32 c = let a = c.args in ap length (sym (at_other a.t.width a.v32.now a.v64.now c.if-t-eq32.false))
