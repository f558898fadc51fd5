use mathlib.Core.Path.{◌≡◌}
use lib.ListN.{drop}
use Rattle.stream.specs.Group.{within, group_codes}
use Rattle.stream.specs.Block.{block_codes}
use Rattle.stream.proofs.Law.Group.Blocks.{Along}
use Rattle.stream.proofs.group_checked.blocks_limited.Given as goal

abbrev pub invariant-loop-left : goal.invariant-loop-left
invariant-loop-left l = Along l.w l.s l.left l.from × (within l.limit (group_codes l.n l.s) ≡ within l.limit (block_codes l.w l.left (drop l.from l.s)))

abbrev pub decreases-loop-left : goal.decreases-loop-left
decreases-loop-left l = l.left
