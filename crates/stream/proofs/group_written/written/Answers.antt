-- `written` meets its contract: that of `spelled`, of the group's codes.
-- Assumes nothing.
use mathlib.Core.Path.{ap, ◌∙◌}
use mathlib.Core.List.{List, ◌++◌}
use Prim.Native.Nat.{ℕ}
use lib.ListN.{length, drop}
use Rattle.stream.specs.Group.{group_bytes}
use Rattle.stream.proofs.group_written.written.Goals as goal

pub spelled-requires : goal.spelled-requires
spelled-requires c = rw c.counted.ensures c.requires.1

pub returns : goal.returns
returns c =
    let s = c.before in
    let e = c.counted.ensures in
    let r = c.spelled in record { value = r.ensures.value ∙ ap (λ (cs : List ℕ). length (group_bytes cs)) e; out_after = r.ensures.out_after ∙ ap (λ (cs : List ℕ). group_bytes cs ++ drop r.result s.args.out.now) e }
