-- `summary::order::not_a_number` meets its contract: both numbers of the definition.
use Rattle.std.proofs.Common.{ap₂, ◌∙◌, arith, refl, nat_lt}
use Rattle.bins.specs.Tolerance.{ordinal}
use Rattle.summary.specs.Order.{not_a_number}
use Rattle.summary.proofs.Law.Order.{infinity_is}
use Rattle.summary.proofs.order.not_a_number.Goals as goal

pub returns : goal.returns
unfolding not_a_number ordinal
returns g c =
    let L = g.met.T.Word in
    c.lt.ensures ∙ L.lt_law _ _
    ∙ ap₂ nat_lt
    (L.sub_law _ _ _ c.sub.ensures ∙ rw (c.HIGHEST.ensures, L.highest_law, c.UNIT.ensures, L.unit_law) (infinity_is g.T.Word.width g.T.Word.fraction (omega (arith, L.widths_law))))
    (L.rem_law _ _ _ c.rem.ensures ∙ rw (c.HIGHEST-2.ensures, L.highest_law) refl)
