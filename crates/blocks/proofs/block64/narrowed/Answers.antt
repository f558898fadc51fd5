-- `blocks::block64::narrowed` meets its contract: the codes passed stand at the front, and behind them what was there.
use mathlib.Core.Path.{sym, ap₂, ◌∙◌}
use mathlib.Core.List.{List}
use Prim.Native.Nat.{ℕ}
use native.Mathlib.Nat.{zero-add}
use native.Mathlib.Omega.{arith}
use lib.ListN.{set, get_or, replicate}
use Rattle.std.proofs.lemmas.List.Edits.{paste_more}
use Rattle.blocks.proofs.block64.narrowed.Goals as goal

pub loop-i-preserved : goal.loop-i-preserved
loop-i-preserved c =
    let codes : List ℕ = c.args.c.now in
    let i = c.loop-i.i in
    ap₂ (λ (xs : List ℕ) (k : ℕ). set xs k (get_or codes i 0)) c.loop-i.invariant (sym (zero-add i)) ∙ paste_more (replicate 32 0) 0 codes i 0 (omega arith) (omega arith)
