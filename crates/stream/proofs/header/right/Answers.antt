-- `stream::header::right` meets its contract.
use mathlib.Core.Bool.{◌&&◌}
use mathlib.Core.Path.{sym, ap₂, subst}
use borrow.Author.Tests.{le-leb, lt-leb}
use lib.ListN.{length}
use Rattle.stream.proofs.Law.Header.Numbers.{words}
use Rattle.stream.specs.Access.{header_right}
use Rattle.stream.specs.Relied.{Words}
use Rattle.stream.proofs.header.right.Goals as goal
use Rattle.stream.proofs.header.right.Lts as lts
use Rattle.stream.proofs.header.right.Reads as reads
use Rattle.stream.proofs.header.right.Tie as tie

abbrev After-header_of : Type 0
After-header_of = lts.After-header_of tie.the-claims reads.Pre reads.Post

fit : (c : After-header_of) → Words c.header_of-h.result
fit c = subst Words (sym c.header_of-h.ensures) (words c.args.bytes.now (λ i. (c.shared_slice_known-1.given i).fits))

pub returns-then-bytes-lt48 : goal.returns-then-bytes-lt48
unfolding header_right
returns-then-bytes-lt48 c = rw (lt-leb 48 (length c.args.bytes.now) c.if-bytes-lt48.true)

pub setting_right-requires : goal.setting_right-requires
setting_right-requires c = fit c.before

pub layout_right-requires : goal.layout_right-requires
layout_right-requires c = fit c.before.before

pub returns : goal.returns
unfolding header_right
returns c =
    let s = c.args.bytes.now in
    let h = c.header_of-h in
    rw (le-leb 48 (length s) c.if-bytes-lt48.false, ← h.ensures) (ap₂ ◌&&◌ c.setting_right.ensures c.layout_right.ensures)
