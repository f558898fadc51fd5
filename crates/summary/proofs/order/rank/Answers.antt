-- `summary::order::rank` meets its contract: the definition's two sides.
use Rattle.std.proofs.Common.{◌-◌, ◌^◌, ap, sym, ◌∙◌, nat_lt, ltb-true, ltb-false, arith}
use Rattle.summary.specs.Order.{rank}
use Rattle.summary.proofs.Law.Order.{rank_plain, rank_signed}
use Rattle.summary.proofs.order.rank.Goals as goal

pub returns-then-lt : goal.returns-then-lt
returns-then-lt g c =
    let w = g.T.Word in
    let L = g.met.T.Word in
    let p = w.value c.bounded-p.result in
    let low = ltb-true p (2 ^ (w.width - 1)) (ap (nat_lt p) (sym (ap w.value c.HIGHEST.ensures ∙ L.highest_law)) ∙ sym (L.lt_law _ _) ∙ sym c.lt.ensures ∙ c.if-lt.true) in
    L.add_law _ _ _ c.add.ensures ∙ rw (c.HIGHEST-then-lt.ensures, L.highest_law) (sym (rank_plain w.width (omega (arith, L.widths_law)) p low))
    ∙ ap (λ x. rank w.width (w.value x)) c.bounded-p.ensures.same

pub returns-else-lt : goal.returns-else-lt
returns-else-lt g c =
    let w = g.T.Word in
    let L = g.met.T.Word in
    let p = w.value c.bounded-p.result in
    let high = ltb-false p (2 ^ (w.width - 1)) (ap (nat_lt p) (sym (ap w.value c.HIGHEST.ensures ∙ L.highest_law)) ∙ sym (L.lt_law _ _) ∙ sym c.lt.ensures ∙ c.if-lt.false) in
    L.sub_law _ _ _ c.sub.ensures ∙ rw (c.ALL.ensures, L.all_law) (sym (rank_signed w.width (omega (arith, L.widths_law)) p high))
    ∙ ap (λ x. rank w.width (w.value x)) c.bounded-p.ensures.same
