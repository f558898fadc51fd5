use Rattle.std.proofs.Common.{◌≡◌, take}
use Rattle.std.specs.Float.Ieee.{size}
use Rattle.stream.specs.Group.{width_of}
use Rattle.stream.proofs.group.width.Given as goal

-- the OR so far has the bit length of the largest code so far
abbrev pub invariant-loop-code : goal.invariant-loop-code
invariant-loop-code g l = size (g.T.Word.value l.all) ≡ width_of (take l.code-index (g.T.Word.values l.codes))
