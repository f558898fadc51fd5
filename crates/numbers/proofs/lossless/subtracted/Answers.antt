use Rattle.std.proofs.Common.{sym, ◌∙◌, arith}
use Rattle.numbers.proofs.Law.Lossless.{middle_units, next_units}
use Rattle.numbers.proofs.lossless.subtracted.Goals as goal

pub returns-then-exponent_up_to_middle-clause-up_to_middle : goal.returns-then-exponent_up_to_middle-clause-up_to_middle
returns-then-exponent_up_to_middle-clause-up_to_middle g c = λ a b.
    let L = g.met.T.Word in
    L.add_law _ _ _ c.add.ensures ∙ rw (c.HIGHEST.ensures, L.highest_law, c.unit.ensures) (sym (next_units g.T.Word.width g.T.Word.fraction (omega (arith, L.widths_law))))

pub returns-clause-above_middle : goal.returns-clause-above_middle
returns-clause-above_middle g c = λ a.
    let L = g.met.T.Word in
    rw (c.HIGHEST-2.ensures, L.highest_law) (sym (middle_units g.T.Word.width g.T.Word.fraction (omega (arith, L.widths_law))))
