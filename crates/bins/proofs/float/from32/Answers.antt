-- `bins::float::from32` meets its contract.
use Rattle.std.proofs.Common.{refl, le-ltb, lt-ltb}
use Rattle.bins.proofs.float.from32.Goals as goal

pub returns-then-o-t : goal.returns-then-o-t
returns-then-o-t c = rw (lt-ltb c.before.args.o c.before.args.t c.if-o-t.true) refl

pub returns-else-o-t : goal.returns-else-o-t
returns-else-o-t c = rw (le-ltb c.before.args.o c.before.args.t c.if-o-t.false) refl
