use Rattle.std.proofs.Common.{◌≡◌, ◌++◌, take, drop}
use Rattle.stream.proofs.lent.copied.Given as goal

abbrev pub invariant-loop-i : goal.invariant-loop-i
invariant-loop-i g l = let w = g.T.Word in w.values l.out ≡ take l.i l.codes ++ drop l.i (w.values l.initial.out)
