-- `stream::group_checked::smallest` meets its contract: a full group of 32 is one block.
-- Assumes nothing.
use mathlib.Core.Path.{sym, ap, ◌∙◌}
use mathlib.Core.List.{List}
use Prim.Native.Nat.{ℕ}
use lib.Dec.{eqb}
use Rattle.stream.specs.Group.{width_of}
use Rattle.stream.proofs.Law.Group.Blocks.{one_block}
use Rattle.stream.proofs.group_checked.smallest.Goals as goal

pub returns-then-w-s : goal.returns-then-w-s
returns-then-w-s c =
    let full = c.before.before.before in
    let f = full in
    let a = f.args in
    c.reached_by_four.ensures
    ∙ ap (λ (cs : List ℕ). eqb a.w (width_of cs))
    (sym (one_block a.n a.w a.s.now (λ i. (full.shared_slice_known-1.given i).fits) f.requires.3 full.if-n-eq32.true))
