use Rattle.std.proofs.Common.{◌≡◌, length}
use Rattle.stream.specs.Lent.{chosen}
use Rattle.stream.proofs.Law.Lent.Landing.{Restored}
use Rattle.stream.proofs.restore.restore.Given as goal

abbrev pub invariant-loop-j : goal.invariant-loop-j
invariant-loop-j l =
    Restored l.h l.bytes (chosen l.h.width l.initial.o32 l.initial.o64) l.j (chosen l.h.width l.o32 l.o64) × (length l.o32 ≡ length l.initial.o32) × (length l.o64 ≡ length l.initial.o64)
    × (length l.c32 ≡ length l.initial.c32) × (length l.c64 ≡ length l.initial.c64)
