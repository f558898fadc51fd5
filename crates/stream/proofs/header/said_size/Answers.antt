-- `stream::header::said_size` meets its contract.
use borrow.Author.Tests.{lt-ltb, le-ltb}
use Rattle.stream.specs.Header.{said_size}
use Rattle.stream.proofs.header.said_size.Goals as goal

pub returns-then-number-lt256 : goal.returns-then-number-lt256
unfolding said_size
returns-then-number-lt256 c = rw (lt-ltb c.args.number 256 c.if-number-lt256.true)

pub returns-else-number-lt256 : goal.returns-else-number-lt256
unfolding said_size
returns-else-number-lt256 c = rw (le-ltb c.args.number 256 c.if-number-lt256.false)
