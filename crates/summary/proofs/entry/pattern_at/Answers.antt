-- `summary::entry::pattern_at` meets its contract: four bytes or eight.
use mathlib.Core.Path.{sym, ap, ◌∙◌}
use Prim.Native.Nat.{ℕ, ◌/◌}
use native.Mathlib.Omega.{arith}
use lib.ListN.{take, drop}
use Rattle.blocks.specs.Bytes.{number}
use Rattle.stream.proofs.Law.Setting.Allowed.{width_other}
use Rattle.summary.proofs.entry.pattern_at.Goals as goal

pub load-requires : goal.load-requires
load-requires c =
    let s = c.before in
    omega (arith, width_other s.args.width s.requires.0 c.if-width-eq32.false, s.requires.1)

pub returns-then-width-eq32 : goal.returns-then-width-eq32
returns-then-width-eq32 c =
    let a = c.args in
    c.quad.ensures.0 ∙ ap (λ (w : ℕ). number 256 (take (w / 8) (drop a.at a.part.now))) (sym c.if-width-eq32.true)

pub returns-else-width-eq32 : goal.returns-else-width-eq32
returns-else-width-eq32 c =
    let s = c.before in
    let a = s.args in
    c.load.ensures
    ∙ ap (λ (w : ℕ). number 256 (take (w / 8) (drop a.at a.part.now))) (sym (width_other a.width s.requires.0 c.if-width-eq32.false))
