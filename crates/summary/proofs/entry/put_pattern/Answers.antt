-- `summary::entry::put_pattern` meets its contract: four bytes or eight.
use mathlib.Core.Path.{sym, ap, ◌∙◌}
use mathlib.Core.List.{◌++◌}
use Prim.Native.Nat.{ℕ, ◌+◌, ◌/◌}
use native.Mathlib.Omega.{arith}
use lib.ListN.{take, drop}
use Rattle.blocks.specs.Bytes.{digits}
use Rattle.stream.proofs.Law.Setting.Allowed.{width_other}
use Rattle.summary.proofs.entry.put_pattern.Goals as goal

pub store-requires : goal.store-requires
store-requires c =
    let s = c in
    omega (arith, width_other s.args.width s.requires.0 c.if-width-eq32.false, s.requires.1)

pub returns-then-width-eq32 : goal.returns-then-width-eq32
returns-then-width-eq32 c =
    let a = c.args in
    c.half.ensures
    ∙ ap (λ (w : ℕ). take a.at a.out.now ++ digits 256 (w / 8) a.p ++ drop (a.at + w / 8) a.out.now)
    (sym c.if-width-eq32.true)

pub returns-else-width-eq32 : goal.returns-else-width-eq32
returns-else-width-eq32 c =
    let s = c.before in
    let a = s.args in
    c.store.ensures
    ∙ ap (λ (w : ℕ). take a.at a.out.now ++ digits 256 (w / 8) a.p ++ drop (a.at + w / 8) a.out.now)
    (sym (width_other a.width s.requires.0 c.if-width-eq32.false))
