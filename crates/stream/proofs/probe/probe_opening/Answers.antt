-- `stream::probe::probe_opening` meets its contract.
use Rattle.stream.proofs.Law.Rows.Passed.{opened_as}
use Rattle.stream.proofs.Law.Rows.First.{refused_stop, refused_is, refuses, passes}
use Rattle.stream.proofs.Law.Header.Opening.{open_is}
use Rattle.stream.proofs.Law.Rows.Given.{probe_shut, probe_width, probe_index, probe_own}
use mathlib.Core.Path.{sym, ◌∙◌}
use Rattle.stream.proofs.probe.probe_opening.Goals as goal

pub returns-in_err-h : goal.returns-in_err-h
returns-in_err-h c =
    let a = c.args in
    refuses _ _ c.from_residual.ensures.1 (sym (probe_shut a.level a.bytes.now _ (refused_stop _ _ _ (sym c.opened.ensures ∙ c.in_err-h.was)) a.width a.index))

pub returns-then-h-width : goal.returns-then-h-width
returns-then-h-width c =
    let a = c.args in
    let o = open_is _ _ _ (sym c.opened.ensures ∙ c.in_ok-h.was) in
    refused_is _ _ (sym (probe_width a.level a.bytes.now o.0 _ o.1 a.width a.index c.if-h-width.true))

pub returns-then-h-index : goal.returns-then-h-index
returns-then-h-index c =
    let a = c.args in
    let o = open_is _ _ _ (sym c.opened.ensures ∙ c.in_ok-h.was) in
    refused_is _ _ (sym (probe_index a.level a.bytes.now o.0 _ o.1 a.width a.index c.if-h-width.false c.if-h-index.true))

pub own_step-requires : goal.own_step-requires
own_step-requires c =
    let a = c.args in
    let o = open_is _ _ _ (sym c.opened.ensures ∙ c.in_ok-h.was) in
    (opened_as a.level a.bytes.now o.0 (λ i. (c.type_inv.bytes i).fits) _ o.1, c.if-h-index.false)

pub returns-in_err-own_step : goal.returns-in_err-own_step
returns-in_err-own_step c =
    let a = c.args in
    let o = open_is _ _ _ (sym c.opened.ensures ∙ c.in_ok-h.was) in
    refuses _ _ c.from_residual-in_err-own_step.ensures.1
    (sym (probe_own a.level a.bytes.now o.0 _ o.1 a.width a.index c.if-h-width.false c.if-h-index.false) ∙ sym c.own_step.ensures ∙ c.in_err-own_step.was)

pub returns : goal.returns
returns c =
    let a = c.args in
    let o = open_is _ _ _ (sym c.opened.ensures ∙ c.in_ok-h.was) in
    passes _ _ _
    (sym (probe_own a.level a.bytes.now o.0 _ o.1 a.width a.index c.if-h-width.false c.if-h-index.false) ∙ sym c.own_step.ensures ∙ c.in_ok-own_step.was)
    o.1
