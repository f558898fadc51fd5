-- `stream::reading::unpack_opening` meets its contract.
use Rattle.stream.proofs.Law.Rows.Passed.{opened_as}
use Rattle.stream.proofs.Law.Rows.First.{refused_stop, refused_is, refuses, passes}
use Rattle.stream.proofs.Law.Header.Opening.{open_is}
use Rattle.stream.proofs.Law.Rows.Given.{unpack_shut, unpack_width, unpack_room, unpack_content}
use mathlib.Core.Path.{sym, ◌∙◌}
use Rattle.stream.proofs.reading.unpack_opening.Goals as goal

pub returns-in_err-h : goal.returns-in_err-h
returns-in_err-h c =
    let a = c.args in
    refuses _ _ c.from_residual.ensures.1 (sym (unpack_shut a.level a.bytes.now _ (refused_stop _ _ _ (sym c.opened.ensures ∙ c.in_err-h.was)) a.width a.room))

pub returns-then-h-width : goal.returns-then-h-width
returns-then-h-width c =
    let a = c.args in
    let o = open_is _ _ _ (sym c.opened.ensures ∙ c.in_ok-h.was) in
    refused_is _ _ (sym (unpack_width a.level a.bytes.now o.0 _ o.1 a.width a.room c.if-h-width.true))

pub returns-then-room-count : goal.returns-then-room-count
returns-then-room-count c =
    let a = c.args in
    let o = open_is _ _ _ (sym c.opened.ensures ∙ c.in_ok-h.was) in
    refused_is _ _ (sym (unpack_room a.level a.bytes.now o.0 _ o.1 a.width a.room c.if-h-width.false c.if-room-count.true))

pub content_step-requires : goal.content_step-requires
content_step-requires c =
    let a = c.args in
    let o = open_is _ _ _ (sym c.opened.ensures ∙ c.in_ok-h.was) in
    opened_as a.level a.bytes.now o.0 (λ i. (c.type_inv.bytes i).fits) _ o.1

pub returns-in_err-content_step : goal.returns-in_err-content_step
returns-in_err-content_step c =
    let a = c.args in
    let o = open_is _ _ _ (sym c.opened.ensures ∙ c.in_ok-h.was) in
    refuses _ _ c.from_residual-in_err-content_step.ensures.1
    (sym (unpack_content a.level a.bytes.now o.0 _ o.1 a.width a.room c.if-h-width.false c.if-room-count.false) ∙ sym c.content_step.ensures ∙ c.in_err-content_step.was)

pub returns : goal.returns
returns c =
    let a = c.args in
    let o = open_is _ _ _ (sym c.opened.ensures ∙ c.in_ok-h.was) in
    passes _ _ _
    (sym (unpack_content a.level a.bytes.now o.0 _ o.1 a.width a.room c.if-h-width.false c.if-room-count.false) ∙ sym c.content_step.ensures ∙ c.in_ok-content_step.was)
    o.1
