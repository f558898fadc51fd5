-- `blocks::block64::run` meets its contract: eight words, after each of which eight bytes more stand, as far as there are any.
use mathlib.Core.Path.{◌≡◌, ap, ◌∙◌}
use mathlib.Core.List.{◌++◌}
use Prim.Native.Nat.{ℕ, ◌+◌, ◌*◌, ◌^◌, min}
use native.Mathlib.Omega.{arith}
use lib.ListN.{drop}
use Rattle.blocks.specs.Bytes.{number, digits}
use Rattle.blocks.proofs.Law.Put.{standing_none, standing_all}
use Rattle.blocks.proofs.block64.run.Goals as goal

pub loop-k-init : goal.loop-k-init
loop-k-init c = let a = c.args in standing_none a.w (number (2 ^ a.w) a.c.now) a.out.now

pub loop-k-preserved : goal.loop-k-preserved
loop-k-preserved c =
    let a = c.args in
    let next : 8 * c.loop-k.k + 8 ≡ 8 * (c.loop-k.k + 1) = omega arith in
    c.put64.ensures a.out.now c.loop-k.invariant ∙ ap (λ (at : ℕ). digits 256 (min at a.w) (number (2 ^ a.w) a.c.now) ++ drop (min at a.w) a.out.now) next

pub returns : goal.returns
returns c = let a = c.args in standing_all a.w (8 * c.loop-k.k) (number (2 ^ a.w) a.c.now) a.out.now _ (omega arith) c.loop-k.invariant
