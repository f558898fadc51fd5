use Rattle.std.proofs.Common.{◌≡◌, ℕ, ◌+◌, ◌-◌, drop}
use Rattle.stream.specs.Block.{block_codes}
use Rattle.stream.proofs.Law.Plain.Appended.{Appended}
use Rattle.stream.proofs.Law.Group.Blocks.{Along}
use Rattle.stream.proofs.lent.read_blocks.Given as goal

abbrev pub invariant-loop-done : goal.invariant-loop-done
invariant-loop-done g l =
    let w = g.T.Word in
    (left : ℕ) × (l.done + left ≡ l.n) × Along l.w l.s left l.from × Appended (block_codes l.w l.n l.s) (block_codes l.w left (drop l.from l.s)) (w.values l.initial.out) (w.values l.out) l.done

abbrev pub decreases-loop-done : goal.decreases-loop-done
decreases-loop-done g l = l.n - l.done
