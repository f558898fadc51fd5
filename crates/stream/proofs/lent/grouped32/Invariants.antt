use Rattle.std.proofs.Common.{◌≡◌, length, take}
use Rattle.stream.proofs.lent.grouped32.Given as goal

abbrev pub invariant-loop-i : goal.invariant-loop-i
invariant-loop-i l = (length l.group ≡ 32) × (take l.i l.group ≡ take l.i l.codes)
