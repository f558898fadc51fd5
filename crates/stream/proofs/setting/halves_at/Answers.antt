-- `stream::setting::halves_at` meets its contract.
use mathlib.Core.Path.{refl}
use borrow.Author.Tests.{le-leb, lt-leb}
use Rattle.stream.specs.Setting.{halves_at}
use Rattle.stream.proofs.setting.halves_at.Goals as goal

pub returns-then-level-ge14 : goal.returns-then-level-ge14
unfolding halves_at
returns-then-level-ge14 c = rw (le-leb 14 c.args.level c.if-level-ge14.true) refl

pub returns-else-level-ge14 : goal.returns-else-level-ge14
unfolding halves_at
returns-else-level-ge14 c = rw (lt-leb 14 c.args.level c.if-level-ge14.false) refl
