use Prim.Native.Nat.{◌+◌}
use Rattle.stream.proofs.Law.Plain.Appended.{Appended}
use Rattle.stream.proofs.Law.Chunk.LongerBytes.{Going}
use Rattle.stream.proofs.Law.Setting.Allowed.{size_some}
use Rattle.stream.specs.Chunk.{chunk_codes}
use Rattle.stream.specs.Lent.{chosen}
use Rattle.stream.specs.Setting.{group_size, patterns_after, patterns_of}
use lib.ListN.{length, take, drop}
use Rattle.numbers.specs.Difference.{last_of}
use mathlib.Core.Path.{◌≡◌}
use Rattle.stream.proofs.chunk.restored.Given as goal

abbrev pub invariant-loop-left : goal.invariant-loop-left
invariant-loop-left l =
    (l.done + l.left ≡ l.n) × Going (group_size l.t) (size_some l.t) l.t.width l.s l.left l.at
    × Appended (patterns_of l.t (chunk_codes (group_size l.t) l.n l.s)) (patterns_after l.t (last_of 0 (take l.done (chosen l.t.width l.o32 l.o64))) (chunk_codes (group_size l.t) l.left (drop l.at l.s))) (chosen l.t.width l.initial.o32 l.initial.o64) (chosen l.t.width l.o32 l.o64) l.done
    × (length l.c32 ≡ length l.initial.c32) × (length l.c64 ≡ length l.initial.c64) × (length l.o32 ≡ length l.initial.o32) × (length l.o64 ≡ length l.initial.o64)

abbrev pub decreases-loop-left : goal.decreases-loop-left
decreases-loop-left l = l.left
