-- `stream::setting::group_size` meets its contract.
use Rattle.stream.specs.Setting.{group_size}
use borrow.Author.Tests.{eq-eqb, ne_eqb}
use lib.Dec.{lit<, lit≤}
use Rattle.stream.proofs.setting.group_size.Goals as goal

pub returns-then-t-eq128 : goal.returns-then-t-eq128
unfolding group_size
returns-then-t-eq128 c = (rw (eq-eqb c.args.t.size 128 c.if-t-eq128.true), lit< tt, lit≤ tt)

pub returns-else-t-eq128 : goal.returns-else-t-eq128
unfolding group_size
returns-else-t-eq128 c = (rw (ne_eqb c.args.t.size 128 c.if-t-eq128.false), lit< tt, lit≤ tt)
