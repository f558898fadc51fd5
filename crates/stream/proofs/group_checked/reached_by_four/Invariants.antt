use Rattle.std.proofs.Common.{ℕ, ◌<◌}
use Rattle.stream.specs.Block.{block_codes}
use Rattle.stream.proofs.Law.Group.Checking.{Four, Short}
use Rattle.stream.proofs.group_checked.reached_by_four.Given as goal

abbrev pub invariant-loop-i : goal.invariant-loop-i
invariant-loop-i l = (k : ℕ) → k < l.i → Four (Short (block_codes l.w 32 l.s) l.w) k
