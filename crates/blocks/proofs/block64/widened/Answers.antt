-- `blocks::block64::widened` meets its contract: the codes passed stand at the front, and behind them what was there.
use mathlib.Core.Path.{sym, ap₂, ◌∙◌}
use mathlib.Core.List.{List}
use Prim.Native.Nat.{ℕ}
use native.Mathlib.Nat.{zero-add}
use native.Mathlib.Omega.{arith}
use lib.ListN.{set, get_or}
use Rattle.std.proofs.lemmas.List.Edits.{paste_more}
use Rattle.blocks.proofs.block64.widened.Goals as goal

pub loop-i-preserved : goal.loop-i-preserved
loop-i-preserved c =
    let a = c.args in
    let i = c.loop-i.i in
    rw c.from.ensures
    (ap₂ (λ (xs : List ℕ) (k : ℕ). set xs k (get_or a.narrow.now i 0)) c.loop-i.invariant (sym (zero-add i)) ∙ paste_more a.c.now 0 a.narrow.now i 0 (omega arith) (omega arith))
