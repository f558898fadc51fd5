-- `measured` meets its contract.
-- Assumes nothing.
use mathlib.Core.Path.{sym, ap, ap₂, ◌∙◌}
use Prim.Native.Nat.{ℕ, suc, ◌+◌, ◌*◌, ◌/◌, ◌≤◌}
use native.Mathlib.Nat.{mul-le-mul}
use native.Mathlib.Numerals.{one-add}
use native.Mathlib.Omega.{arith}
use lib.ListN.{take}
use lib.Seq.{length-take-le}
use Rattle.stream.specs.Group.{bytes_for, width_of}
use Rattle.stream.proofs.Law.Group.RoundTrip.{length_group}
use borrow.Author.Rules.{rules}
use Rattle.stream.proofs.group.measured.Goals as goal
use Rattle.stream.proofs.group.measured.Lts as lts
use Rattle.stream.proofs.group.measured.Reads as reads
use Rattle.stream.proofs.group.measured.Tie as tie

abbrev After-width : Type 0
After-width = lts.After-width tie.the-claims reads.Pre reads.Post

-- the group is small, so no sum wraps
small : (c : After-width) → c.width-w.result * c.args.g.count ≤ 64 * 32
small c = mul-le-mul c.width-w.ensures.1 c.requires

pub overflow_mul-result : goal.overflow_mul-result
overflow_mul-result c = omega (arith, small c)

pub overflow_add-result : goal.overflow_add-result
overflow_add-result c = omega (arith, small c)

pub overflow_add-result-2 : goal.overflow_add-result-2
overflow_add-result-2 c = omega (arith, small c)

pub returns : goal.returns
unfolding bytes_for
returns c =
    let g = c.args.g in
    let cs = take g.count g.codes in
    one-add _
    ∙ ap₂ (λ (w n : ℕ). suc ((w * n + 7) / 8)) (c.width-w.ensures.0 ∙ ap width_of c.counted.ensures) (sym (length-take-le g.count g.codes (search rules)))
    ∙ sym (length_group cs)
