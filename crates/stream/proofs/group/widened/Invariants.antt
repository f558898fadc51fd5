use Rattle.std.proofs.Common.{◌≡◌, length, take}
use Rattle.stream.proofs.group.widened.Given as goal

-- the codes passed are copied
abbrev pub invariant-loop-i : goal.invariant-loop-i
invariant-loop-i l = (length l.wide ≡ 32) × (take l.i l.wide ≡ take l.i l.codes)
