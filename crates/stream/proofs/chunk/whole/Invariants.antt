use Rattle.std.proofs.Common.{◌≡◌, ◌-◌, ◌≤◌, ◌<◌, length, drop}
use Rattle.stream.specs.Chunk.{whole_chunk}
use Rattle.stream.proofs.Law.Chunk.Whole.{whole_left}
use Rattle.stream.proofs.chunk.whole.Given as goal

abbrev pub invariant-loop-done : goal.invariant-loop-done
invariant-loop-done l =
    (l.at ≤ length l.s) × ((some : 0 < l.size) → whole_left l.size some l.t.width (l.n - l.done) (drop l.at l.s) ≡ whole_chunk l.t.width l.size l.n l.s)

abbrev pub decreases-loop-done : goal.decreases-loop-done
decreases-loop-done l = l.n - l.done
