use mathlib.Core.Path.{◌≡◌}
use lib.Dec.{eqb}
use lib.ListN.{drop}
use Rattle.stream.specs.Group.{width_of, group_codes}
use Rattle.stream.specs.Block.{block_codes}
use Rattle.stream.proofs.Law.Group.Blocks.{Along}
use Rattle.stream.proofs.group_checked.blocks_reached.Given as goal

abbrev pub invariant-loop-left : goal.invariant-loop-left
invariant-loop-left l = Along l.w l.s l.left l.from × (eqb l.w (width_of (group_codes l.n l.s)) ≡ eqb l.w (width_of (block_codes l.w l.left (drop l.from l.s))))

abbrev pub decreases-loop-left : goal.decreases-loop-left
decreases-loop-left l = l.left
