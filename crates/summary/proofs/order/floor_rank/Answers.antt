-- `summary::order::floor_rank` meets its contract: the place of -0, or that of the pattern.
use Rattle.std.proofs.Common.{ℕ, ◌-◌, ◌^◌, ◌%◌, ap, ap₂, sym, ◌∙◌, eqb, eqb-true, arith}
use Rattle.std.proofs.lemmas.Bool.{eqb-false}
use Rattle.bins.specs.Tolerance.{ordinal}
use Rattle.summary.proofs.Law.Order.{floor_zero, floor_some}
use Rattle.summary.proofs.order.floor_rank.Goals as goal

pub returns-then-eq : goal.returns-then-eq
unfolding ordinal
returns-then-eq g c =
    let w = g.T.Word in
    let L = g.met.T.Word in
    let x = w.value c.args.x in
    let rest = L.rem_law _ _ _ c.rem.ensures ∙ ap (λ (n : ℕ). x % n) (ap w.value c.HIGHEST.ensures ∙ L.highest_law) in
    let zero = eqb-true (x % 2 ^ (w.width - 1)) 0 (ap₂ eqb (sym rest) (sym c.of.ensures) ∙ sym (L.eq_law _ _) ∙ sym c.eq.ensures ∙ c.if-eq.true) in
    L.sub_law _ _ _ c.sub.ensures ∙ rw (c.HIGHEST-then-eq.ensures, L.highest_law, c.of-then-eq.ensures) (sym (floor_zero w.width (omega (arith, L.widths_law)) x zero))

pub returns-else-eq : goal.returns-else-eq
unfolding ordinal
returns-else-eq g c =
    let w = g.T.Word in
    let L = g.met.T.Word in
    let x = w.value c.args.x in
    let rest = L.rem_law _ _ _ c.rem.ensures ∙ ap (λ (n : ℕ). x % n) (ap w.value c.HIGHEST.ensures ∙ L.highest_law) in
    let some = eqb-false (x % 2 ^ (w.width - 1)) 0 (ap₂ eqb (sym rest) (sym c.of.ensures) ∙ sym (L.eq_law _ _) ∙ sym c.eq.ensures ∙ c.if-eq.false) in
    c.rank.ensures ∙ sym (floor_some w.width (omega (arith, L.widths_law)) x some)
