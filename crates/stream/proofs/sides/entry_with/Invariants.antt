use Rattle.std.proofs.Common.{◌≡◌, ◌-◌}
use Rattle.stream.proofs.Law.Access.{seek}
use Rattle.stream.proofs.sides.entry_with.Given as goal

abbrev pub invariant-loop-i : goal.invariant-loop-i
invariant-loop-i l = seek l.h l.bytes l.id (l.h.sides - l.i) l.i ≡ seek l.h l.bytes l.id l.h.sides 0
