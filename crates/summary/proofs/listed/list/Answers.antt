-- `summary::listed::list` meets its contract: the rows in front of the tables', one by one.
use mathlib.Core.Path.{sym, ◌∙◌}
use Rattle.stream.proofs.Law.Header.Opening.{open_is}
use Rattle.stream.proofs.Law.Rows.First.{refused_stop, handed_on}
use Rattle.summary.proofs.Law.ListRows.{level_unknown, x_no_number, list_shut, list_width, list_opened}
use Rattle.summary.proofs.Law.Order.{number_is}
use Rattle.summary.proofs.listed.list.Goals as goal

pub returns-then-not-known_level : goal.returns-then-not-known_level
returns-then-not-known_level g c =
    let a = c.args in
    let p = level_unknown g.T.Word.width a.level (g.T.Word.value a.x) a.bytes.now a.out.now (sym c.known_level.ensures ∙ c.if-not-known_level.true) in
    record { value = p.0; out_after = p.1 }

pub returns-then-not_a_number : goal.returns-then-not_a_number
returns-then-not_a_number g c =
    let a = c.args in
    let known = sym c.known_level.ensures ∙ c.if-not-known_level.false in
    let p = x_no_number g.T.Word.width a.level (g.T.Word.value a.x) a.bytes.now a.out.now known (number_is g.T.Word.width g.T.Word.fraction (g.T.Word.value a.x) g.met.T.Word.formats_law ∙ sym c.not_a_number.ensures ∙ c.if-not_a_number.true) in
    record { value = p.0; out_after = p.1 }

pub returns-in_err-h : goal.returns-in_err-h
returns-in_err-h g c =
    let a = c.args in
    let known = sym c.known_level.ensures ∙ c.if-not-known_level.false in
    let number = number_is g.T.Word.width g.T.Word.fraction (g.T.Word.value a.x) g.met.T.Word.formats_law ∙ sym c.not_a_number.ensures ∙ c.if-not_a_number.false in
    let p = list_shut g.T.Word.width a.level (g.T.Word.value a.x) a.bytes.now a.out.now known number _ (refused_stop _ _ _ (sym c.opened.ensures ∙ c.in_err-h.was)) in
    record { value = handed_on c.from_residual.ensures.1 ∙ p.0; out_after = p.1 }

pub returns-then-h-width : goal.returns-then-h-width
returns-then-h-width g c =
    let a = c.args in
    let known = sym c.known_level.ensures ∙ c.if-not-known_level.false in
    let number = number_is g.T.Word.width g.T.Word.fraction (g.T.Word.value a.x) g.met.T.Word.formats_law ∙ sym c.not_a_number.ensures ∙ c.if-not_a_number.false in
    let o = open_is _ _ _ (sym c.opened.ensures ∙ c.in_ok-h.was) in
    let p = list_width g.T.Word.width a.level (g.T.Word.value a.x) a.bytes.now a.out.now known number o.0 _ o.1 (λ e. c.if-h-width.true (e ∙ sym c.width.ensures)) in
    record { value = p.0; out_after = p.1 }

pub list_checked-requires : goal.list_checked-requires
list_checked-requires g c =
    let a = c.args in
    let known = sym c.known_level.ensures ∙ c.if-not-known_level.false in
    let number = number_is g.T.Word.width g.T.Word.fraction (g.T.Word.value a.x) g.met.T.Word.formats_law ∙ sym c.not_a_number.ensures ∙ c.if-not_a_number.false in
    let o = open_is _ _ _ (sym c.opened.ensures ∙ c.in_ok-h.was) in
    (c.requires, list_opened g.T.Word.width a.level (g.T.Word.value a.x) a.bytes.now a.out.now known number o.0 _ o.1 (c.if-h-width.false ∙ c.width.ensures))
