-- `blocks::reading::codes` meets its contract: eight codes more at each call.
use mathlib.Core.Path.{◌≡◌, refl, sym, ap}
use mathlib.Core.List.{List, ◌++◌}
use Prim.Native.Nat.{ℕ, ◌+◌, ◌*◌}
use native.Mathlib.Nat.{zero-mul}
use lib.ListN.{drop}
use Rattle.blocks.specs.Bytes.{number, digits}
use Rattle.blocks.proofs.Law.Block.{next_eight, elements}
use Rattle.blocks.proofs.reading.codes.Goals as goal

start : (w : ℕ) → 8 ≡ 8 + 0 * w
start w = sym (ap (λ (k : ℕ). 8 + k) (zero-mul w))

none : {X : Type 0} (of : ℕ → X) (w n : ℕ) (base : List X) → base ≡ elements of w n 8 0 ++ drop 0 base
unfolding digits
none of w n base = refl

pub returns : goal.returns
returns g c =
    let of = g.T.Code.of_nat in
    let w = c.args.w in
    let n = number 256 c.args.s.now in
    let base = c.args.c.now in
    let one = next_eight of w n 0 8 base base _ (start w) (none of w n base) c.eight.ensures in
    let two = next_eight of w n 8 (8 + 8 * w) base _ _ refl one c.eight-2.ensures in
    let three = next_eight of w n 16 (8 + 16 * w) base _ _ refl two c.eight-3.ensures in
    next_eight of w n 24 (8 + 24 * w) base _ _ refl three c.eight-4.ensures
