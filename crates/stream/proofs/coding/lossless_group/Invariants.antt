use Rattle.std.proofs.Common.{◌≡◌, length, map, take}
use Rattle.stream.specs.Setting.{code_at}
use Rattle.stream.proofs.coding.lossless_group.Given as goal

abbrev pub invariant-loop-i : goal.invariant-loop-i
invariant-loop-i g l = let w = g.T.Word in (length l.codes ≡ 32) × (take l.i (w.values l.codes) ≡ map (code_at l.t) (take l.i (w.values l.values)))
