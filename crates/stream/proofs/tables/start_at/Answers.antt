-- `stream::tables::start_at` meets its contract.
use Rattle.stream.specs.Tables.{start_at}
use borrow.Author.Tests.{lt-ltb, le-ltb}
use Rattle.stream.proofs.tables.start_at.Goals as goal

pub returns-then-j-h : goal.returns-then-j-h
unfolding start_at
returns-then-j-h c =
    let start = c.before in
    rw (lt-ltb start.args.j start.args.h.chunks c.if-j-h.true) c.word_at.ensures.0

pub overflow_sub-result : goal.overflow_sub-result
overflow_sub-result c = c.requires.ordered

pub returns : goal.returns
unfolding start_at
returns c =
    let start = c.before in
    rw (le-ltb start.args.j start.args.h.chunks c.if-j-h.false)
