use Rattle.std.proofs.Common.{◌≡◌, ◌++◌, map, take, drop}
use Rattle.stream.specs.Setting.{code_at}
use Rattle.stream.proofs.coding.put_codes.Given as goal

abbrev pub invariant-loop-i : goal.invariant-loop-i
invariant-loop-i g l = let w = g.T.Word in w.values l.c ≡ map (code_at l.t) (take l.i (w.values l.values)) ++ drop l.i (w.values l.initial.c)
