-- `bins::whole::rounded64` meets its contract.
use Rattle.bins.proofs.Law.Working.{rounds_away}
use Rattle.bins.proofs.whole.rounded64.Goals as goal

pub returns-then-s-gt53 : goal.returns-then-s-gt53
returns-then-s-gt53 c = rounds_away c.args.halves 53 c.args.s c.args.q c.requires c.if-s-gt53.true
