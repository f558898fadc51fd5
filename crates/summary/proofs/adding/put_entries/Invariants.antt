use Prim.Native.Nat.{◌*◌, ◌≤◌}
use mathlib.Core.List.{◌++◌}
use mathlib.Core.Path.{◌≡◌}
use lib.ListN.{length, drop}
use Rattle.stream.specs.Stream.{joined}
use Rattle.summary.specs.Entry.{entry_length}
use Rattle.summary.specs.Summary.{chunk_entry}
use Rattle.summary.proofs.adding.put_entries.Given as goal

abbrev pub invariant-loop-j : goal.invariant-loop-j
invariant-loop-j l =
    (l.j ≤ l.h.chunks) × (l.out ≡ joined (chunk_entry l.h l.bytes) l.j ++ drop (l.j * entry_length l.h.width) l.initial.out) × (length l.v32 ≡ length l.initial.v32) × (length l.v64 ≡ length l.initial.v64) × (length l.out ≡ length l.initial.out)
