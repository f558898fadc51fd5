use Prim.Native.Nat.{◌+◌, ◌≤◌, ◌<◌}
use Rattle.stream.proofs.Law.Chunk.Checking.{found}
use Rattle.stream.specs.Chunk.{chunk_answer}
use lib.ListN.{length}
use mathlib.Core.Path.{◌≡◌}
use Rattle.stream.proofs.chunk.checked.Given as goal

abbrev pub invariant-loop-left : goal.invariant-loop-left
invariant-loop-left l =
    (l.at ≤ length l.s) × (l.i + l.left ≤ 1024) × ((some : 0 < l.size) → found l.size some l.t.width l.limit l.s l.left l.at l.i ≡ chunk_answer l.t.width l.limit l.size l.n l.s)

abbrev pub decreases-loop-left : goal.decreases-loop-left
decreases-loop-left l = l.left
