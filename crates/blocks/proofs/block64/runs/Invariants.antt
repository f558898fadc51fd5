use mathlib.Core.Path.{◌≡◌}
use mathlib.Core.List.{◌++◌}
use Prim.Native.Nat.{◌*◌, ◌^◌}
use lib.ListN.{drop}
use Rattle.blocks.specs.Bytes.{number, digits}
use Rattle.blocks.proofs.block64.runs.Given as goal

abbrev pub invariant-loop-i : goal.invariant-loop-i
invariant-loop-i l = l.out ≡ digits 256 (l.i * l.w) (number (2 ^ l.w) l.c) ++ drop (l.i * l.w) l.initial.out
