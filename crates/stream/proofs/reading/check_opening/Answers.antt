-- `stream::reading::check_opening` meets its contract.
use Rattle.stream.proofs.Law.Rows.Passed.{opened_as}
use Rattle.stream.proofs.Law.Rows.First.{refused_stop, refuses, passes}
use Rattle.stream.proofs.Law.Header.Opening.{open_is}
use Rattle.stream.proofs.Law.Rows.Given.{check_shut, check_content}
use mathlib.Core.Path.{sym, ◌∙◌}
use Rattle.stream.proofs.reading.check_opening.Goals as goal

pub returns-in_err-h : goal.returns-in_err-h
returns-in_err-h c =
    let a = c.args in
    refuses _ _ c.from_residual.ensures.1 (sym (check_shut a.level a.bytes.now _ (refused_stop _ _ _ (sym c.opened.ensures ∙ c.in_err-h.was))))

pub content_step-requires : goal.content_step-requires
content_step-requires c =
    let a = c.args in
    let o = open_is _ _ _ (sym c.opened.ensures ∙ c.in_ok-h.was) in
    opened_as a.level a.bytes.now o.0 (λ i. (c.type_inv.bytes i).fits) _ o.1

pub returns-in_err-content_step : goal.returns-in_err-content_step
returns-in_err-content_step c =
    let a = c.args in
    let o = open_is _ _ _ (sym c.opened.ensures ∙ c.in_ok-h.was) in
    refuses _ _ c.from_residual-in_err-content_step.ensures.1
    (sym (check_content a.level a.bytes.now o.0 _ o.1) ∙ sym c.content_step.ensures ∙ c.in_err-content_step.was)

pub returns : goal.returns
returns c =
    let a = c.args in
    let o = open_is _ _ _ (sym c.opened.ensures ∙ c.in_ok-h.was) in
    passes _ _ _ (sym (check_content a.level a.bytes.now o.0 _ o.1) ∙ sym c.content_step.ensures ∙ c.in_ok-content_step.was) o.1
