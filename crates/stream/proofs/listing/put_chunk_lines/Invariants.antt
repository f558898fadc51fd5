use Rattle.std.proofs.Common.{◌+◌, ◌*◌, ◌≤◌}
use Rattle.stream.specs.Stream.{joined}
use Rattle.stream.specs.Listing.{chunk_line, Appends}
use Rattle.stream.proofs.listing.put_chunk_lines.Given as goal

abbrev pub invariant-loop-j : goal.invariant-loop-j
invariant-loop-j l = (l.next ≤ l.at + 80 * l.j) × Appends (joined (chunk_line l.h l.bytes) l.j) l.at l.next l.initial.text l.text
