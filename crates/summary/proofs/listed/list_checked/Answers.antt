-- `summary::listed::list_checked` meets its contract: the check's refusal, or what the rows behind it say.
use mathlib.Core.Path.{sym, ap, ◌∙◌}
use Rattle.stream.specs.declared.header.Header.{Header}
use Rattle.stream.proofs.Law.Header.Opening.{open_is}
use Rattle.stream.proofs.Law.Rows.First.{refused_stop, handed_on}
use Rattle.summary.proofs.Law.ListRows.{check_refuses, check_passes, bound_of}
use Rattle.summary.proofs.listed.list_checked.Goals as goal

pub returns-in_err-h : goal.returns-in_err-h
returns-in_err-h g c =
    let a = c.args in
    let p = check_refuses g.T.Word.width a.level (g.T.Word.value a.x) a.bytes.now a.out.now c.requires.1 _ (refused_stop _ _ _ (sym c.check_opening.ensures ∙ c.in_err-h.was)) in
    record { value = handed_on c.from_residual.ensures.1 ∙ p.0; out_after = p.1 }

pub listed-requires : goal.listed-requires
listed-requires g c =
    let a = c.args in
    let o = open_is _ _ _ (sym c.check_opening.ensures ∙ c.in_ok-h.was) in
    (record { level = a.level; pass = o.0; header = o.1 }, bound_of g.T.Word.width a.level (g.T.Word.value a.x) a.bytes.now c.requires.1 c.requires.0 _ o.1, ap (λ (h : Header). h.width) o.1 ∙ c.requires.1.width)

pub returns : goal.returns
returns g c =
    let a = c.args in
    let r = c.listed in
    let o = open_is _ _ _ (sym c.check_opening.ensures ∙ c.in_ok-h.was) in
    let p = check_passes g.T.Word.width a.level (g.T.Word.value a.x) a.bytes.now a.out.now c.requires.1 o.0 r.result r.new.out (r.ensures.value, r.ensures.out_after) in
    record { value = p.0; out_after = p.1 }
