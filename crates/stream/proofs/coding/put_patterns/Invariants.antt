use Rattle.std.proofs.Common.{◌≡◌, ◌++◌, map, take, drop}
use Rattle.stream.specs.Setting.{pattern_at}
use Rattle.stream.proofs.coding.put_patterns.Given as goal

abbrev pub invariant-loop-i : goal.invariant-loop-i
invariant-loop-i g l = let w = g.T.Word in w.values l.out ≡ map (pattern_at l.t) (take l.i (take l.n (w.values l.codes))) ++ drop l.i (w.values l.initial.out)
