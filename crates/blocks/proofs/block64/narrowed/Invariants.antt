use Rattle.std.proofs.Common.{◌≡◌}
use lib.Seq.{paste}
use Rattle.blocks.proofs.block64.narrowed.Given as goal

abbrev pub invariant-loop-i : goal.invariant-loop-i
invariant-loop-i l = l.narrow ≡ paste l.initial.narrow 0 l.c l.i
