use Rattle.std.proofs.Common.{◌≡◌, ◌++◌, replicate, drop}
use Rattle.stream.proofs.lent.repeated.Given as goal

abbrev pub invariant-loop-i : goal.invariant-loop-i
invariant-loop-i g l = let w = g.T.Word in w.values l.out ≡ replicate l.i (w.value l.p) ++ drop l.i (w.values l.initial.out)
