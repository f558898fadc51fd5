-- Four full records, by mode.
use Rattle.std.proofs.Common.{ℕ, List, length, ap, ◌∙◌, arith}
use Rattle.stream.specs.Group.{group_bytes}
use Rattle.stream.proofs.Law.Lent.Codes.{each_are, differences_are, full_four_codes}
use Rattle.stream.proofs.lent.measured_128.Goals as goal

pub differenced-requires : goal.differenced-requires
differenced-requires g c = (g.met.T.Lent.memory_law, (omega arith, omega arith, omega (arith, c.requires.bounds.1), omega (arith, c.requires.bounds.2)))

pub differenced-requires-then-t-eq2 : goal.differenced-requires-then-t-eq2
differenced-requires-then-t-eq2 g c = (g.met.T.Lent.memory_law, (omega arith, omega arith, omega (arith, c.requires.bounds.1), omega (arith, c.requires.bounds.2)))

pub differenced-requires-then-t-eq2-2 : goal.differenced-requires-then-t-eq2-2
differenced-requires-then-t-eq2-2 g c = (g.met.T.Lent.memory_law, (omega arith, omega arith, omega (arith, c.requires.bounds.1), omega (arith, c.requires.bounds.2)))

pub differenced-requires-then-t-eq2-3 : goal.differenced-requires-then-t-eq2-3
differenced-requires-then-t-eq2-3 g c = (g.met.T.Lent.memory_law, (omega arith, omega arith, omega (arith, c.requires.bounds.1), omega (arith, c.requires.bounds.2)))

pub measured_full_four-requires : goal.measured_full_four-requires
measured_full_four-requires g c =
    (g.met.T.Lent.memory_law, (omega (arith, c.differenced.ensures.0), omega (arith, c.differenced-then-t-eq2.ensures.0), omega (arith, c.differenced-then-t-eq2-2.ensures.0), omega (arith, c.differenced-then-t-eq2-3.ensures.0)))

pub returns-then-t-eq2 : goal.returns-then-t-eq2
returns-then-t-eq2 g c =
    let w = g.T.Word in
    let a = c.args in
    c.measured_full_four.ensures
    ∙ ap (λ (cs : List ℕ). length (group_bytes cs))
    (full_four_codes a.at _ _ _ _ _ _ c.differenced.ensures.1 c.differenced-then-t-eq2.ensures.1 c.differenced-then-t-eq2-2.ensures.1 c.differenced-then-t-eq2-3.ensures.1
    (differences_are a.t (w.values a.values.now) w.width c.requires.bounds.0 c.if-t-eq2.true))

pub each-requires : goal.each-requires
each-requires g c = (g.met.T.Lent.memory_law, ((c.requires.bounds.0, omega arith, omega arith, omega (arith, c.requires.bounds.1), omega (arith, c.requires.bounds.2)), (c.requires.scratch, c.if-t-eq2.false)))

pub each-requires-2 : goal.each-requires-2
each-requires-2 g c = (g.met.T.Lent.memory_law, ((c.requires.bounds.0, omega arith, omega arith, omega (arith, c.requires.bounds.1), omega (arith, c.requires.bounds.2)), (c.requires.scratch, c.if-t-eq2.false)))

pub each-requires-3 : goal.each-requires-3
each-requires-3 g c = (g.met.T.Lent.memory_law, ((c.requires.bounds.0, omega arith, omega arith, omega (arith, c.requires.bounds.1), omega (arith, c.requires.bounds.2)), (c.requires.scratch, c.if-t-eq2.false)))

pub each-requires-4 : goal.each-requires-4
each-requires-4 g c = (g.met.T.Lent.memory_law, ((c.requires.bounds.0, omega arith, omega arith, omega (arith, c.requires.bounds.1), omega (arith, c.requires.bounds.2)), (c.requires.scratch, c.if-t-eq2.false)))

pub measured_full_four-requires-2 : goal.measured_full_four-requires-2
measured_full_four-requires-2 g c = (g.met.T.Lent.memory_law, (omega (arith, c.each.ensures.0), omega (arith, c.each-2.ensures.0), omega (arith, c.each-3.ensures.0), omega (arith, c.each-4.ensures.0)))

pub returns : goal.returns
returns g c =
    let a = c.args in
    c.measured_full_four-2.ensures
    ∙ ap (λ (cs : List ℕ). length (group_bytes cs))
    (full_four_codes a.at _ _ _ _ _ _ c.each.ensures.1 c.each-2.ensures.1 c.each-3.ensures.1 c.each-4.ensures.1 (each_are a.t (g.T.Word.values a.values.now) c.if-t-eq2.false))
