use Rattle.std.proofs.Common.{◌≡◌}
use lib.Seq.{paste}
use Rattle.blocks.proofs.block64.widened.Given as goal

abbrev pub invariant-loop-i : goal.invariant-loop-i
invariant-loop-i l = l.c ≡ paste l.initial.c 0 l.narrow l.i
