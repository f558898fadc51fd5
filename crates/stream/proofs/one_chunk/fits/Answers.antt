-- `stream::one_chunk::fits` meets its contract.
use borrow.Author.Tests.{lt-ltb, le-ltb}
use Rattle.stream.specs.Access.{chunk_fits}
use Rattle.stream.proofs.one_chunk.fits.Goals as goal

pub returns-then-h-j : goal.returns-then-h-j
unfolding chunk_fits
returns-then-h-j c = let a = c.args in rw (le-ltb a.j a.h.chunks c.if-h-j.true)

pub returns : goal.returns
unfolding chunk_fits
returns c =
    let a = c.args in
    rw (lt-ltb a.j a.h.chunks c.if-h-j.false, c.count_at.ensures.0)
