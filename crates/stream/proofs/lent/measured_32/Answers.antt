-- One full record, by mode.
use Rattle.std.proofs.Common.{ℕ, List, length, ap, ◌∙◌, arith}
use Rattle.stream.specs.Group.{group_bytes}
use Rattle.stream.proofs.Law.Lent.Codes.{each_are, differences_are, full_codes}
use Rattle.stream.proofs.lent.measured_32.Goals as goal

pub differenced-requires : goal.differenced-requires
differenced-requires g c = (g.met.T.Lent.memory_law, (omega arith, omega arith, omega (arith, c.requires.bounds.1), omega (arith, c.requires.bounds.2)))

pub measured_full-requires : goal.measured_full-requires
measured_full-requires g c = (g.met.T.Lent.memory_law, omega (arith, c.differenced.ensures.0))

pub returns-then-t-eq2 : goal.returns-then-t-eq2
returns-then-t-eq2 g c =
    let w = g.T.Word in
    let a = c.args in
    c.measured_full.ensures
    ∙ ap (λ (cs : List ℕ). length (group_bytes cs)) (full_codes 32 a.at _ _ _ c.differenced.ensures.1 (differences_are a.t (w.values a.values.now) w.width c.requires.bounds.0 c.if-t-eq2.true))

pub each-requires : goal.each-requires
each-requires g c = (g.met.T.Lent.memory_law, ((c.requires.bounds.0, omega arith, omega arith, omega (arith, c.requires.bounds.1), omega (arith, c.requires.bounds.2)), (c.requires.scratch, c.if-t-eq2.false)))

pub measured_full-requires-2 : goal.measured_full-requires-2
measured_full-requires-2 g c = (g.met.T.Lent.memory_law, omega (arith, c.each.ensures.0))

pub returns : goal.returns
returns g c =
    let a = c.args in
    c.measured_full-2.ensures ∙ ap (λ (cs : List ℕ). length (group_bytes cs)) (full_codes 32 a.at _ _ _ c.each.ensures.1 (each_are a.t (g.T.Word.values a.values.now) c.if-t-eq2.false))
