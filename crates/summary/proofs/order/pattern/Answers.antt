-- `summary::order::pattern` meets its contract: the definition's two sides.
use Rattle.std.proofs.Common.{◌-◌, ◌^◌, ap, sym, ◌∙◌, nat_lt, ltb-true, ltb-false, arith}
use Rattle.summary.proofs.Law.Order.{pattern_low, pattern_high}
use Rattle.summary.proofs.order.pattern.Goals as goal

pub returns-then-lt : goal.returns-then-lt
returns-then-lt g c =
    let w = g.T.Word in
    let L = g.met.T.Word in
    let r = w.value c.args.rank in
    let low = ltb-true r (2 ^ (w.width - 1)) (ap (nat_lt r) (sym (ap w.value c.HIGHEST.ensures ∙ L.highest_law)) ∙ sym (L.lt_law _ _) ∙ sym c.lt.ensures ∙ c.if-lt.true) in
    L.sub_law _ _ _ c.sub.ensures ∙ rw (c.ALL.ensures, L.all_law) (sym (pattern_low w.width (omega (arith, L.widths_law)) r low))

pub returns-else-lt : goal.returns-else-lt
returns-else-lt g c =
    let w = g.T.Word in
    let L = g.met.T.Word in
    let r = w.value c.args.rank in
    let high = ltb-false r (2 ^ (w.width - 1)) (ap (nat_lt r) (sym (ap w.value c.HIGHEST.ensures ∙ L.highest_law)) ∙ sym (L.lt_law _ _) ∙ sym c.lt.ensures ∙ c.if-lt.false) in
    L.sub_law _ _ _ c.sub-else-lt.ensures ∙ rw (c.HIGHEST-else-lt.ensures, L.highest_law) (sym (pattern_high w.width (omega (arith, L.widths_law)) r high))
