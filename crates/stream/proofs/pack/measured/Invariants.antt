use Rattle.std.proofs.Common.{◌≡◌, length}
use Rattle.stream.specs.Lent.{chosen}
use Rattle.stream.specs.Writing.{end_of}
use Rattle.stream.proofs.pack.measured.Given as goal

abbrev pub invariant-loop-j : goal.invariant-loop-j
invariant-loop-j l = (l.end ≡ end_of l.t (chosen l.t.width l.v32 l.v64) l.j) × (length l.c32 ≡ length l.initial.c32)
