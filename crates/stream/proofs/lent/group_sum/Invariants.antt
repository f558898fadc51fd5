use mathlib.Core.Path.{◌≡◌}
use Prim.Native.Nat.{◌^◌, ◌<◌}
use lib.ListN.{drop}
use Rattle.numbers.specs.Difference.{running_sums, last_of}
use Rattle.stream.specs.Group.{group_codes}
use Rattle.stream.specs.Block.{block_codes}
use Rattle.stream.proofs.Law.Group.Blocks.{Along}
use Rattle.stream.proofs.lent.group_sum.Given as goal

abbrev pub invariant-loop-left : goal.invariant-loop-left
invariant-loop-left l =
    Along l.w l.s l.left l.from × (l.last < 2 ^ l.t.width)
    × (last_of l.before (running_sums l.t.width l.before (group_codes l.n l.s)) ≡ last_of l.last (running_sums l.t.width l.last (block_codes l.w l.left (drop l.from l.s))))

abbrev pub decreases-loop-left : goal.decreases-loop-left
decreases-loop-left l = l.left
