use mathlib.Core.Path.{◌≡◌}
use lib.ListN.{length}
use Rattle.summary.proofs.Law.Testing.{Right}
use Rattle.summary.proofs.testing.entries_right.Given as goal

abbrev pub invariant-loop-j : goal.invariant-loop-j
invariant-loop-j l = Right l.h l.bytes l.part l.j × (length l.v32 ≡ length l.initial.v32) × (length l.v64 ≡ length l.initial.v64)
