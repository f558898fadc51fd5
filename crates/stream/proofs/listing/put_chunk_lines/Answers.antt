use Rattle.std.proofs.Common.{arith}
use Rattle.stream.specs.Stream.{joined}
use Rattle.stream.specs.Listing.{chunk_line}
use Rattle.stream.proofs.Law.Listing.Text.{nothing_yet, and_then, same_piece}
use Rattle.stream.proofs.Law.Listing.Lines.{one_line_more}
use Rattle.stream.proofs.listing.put_chunk_lines.Goals as goal

pub loop-j-init : goal.loop-j-init
unfolding joined
loop-j-init c = (omega arith, nothing_yet c.args.at c.args.text.now (omega arith))

pub loop-j-preserved : goal.loop-j-preserved
loop-j-preserved c =
    let line = chunk_line c.args.h c.args.bytes.now in
    (omega arith, same_piece (one_line_more line c.loop-j.j) (and_then c.loop-j.invariant.1 c.put_chunk_line-next.ensures.0))
