-- `summary::listed::listed` meets its contract: the last two rows, and then the list.
use mathlib.Core.Path.{sym, ◌∙◌}
use Rattle.summary.proofs.Law.ListRows.{last_untrue, last_short, last_done}
use Rattle.summary.proofs.listed.listed.Goals as goal

pub returns-then-not-summary_true : goal.returns-then-not-summary_true
returns-then-not-summary_true g c =
    let a = c.args in let p = last_untrue (g.T.Word.value a.x) a.bytes.now a.out.now (sym c.summary_true.ensures ∙ c.if-not-summary_true.true) in record { value = p.0; out_after = p.1 }

pub summary_place-place-requires : goal.summary_place-place-requires
summary_place-place-requires g c =
    (c.requires.0, sym c.summary_true.ensures ∙ c.if-not-summary_true.false)

pub returns-then-out-n : goal.returns-then-out-n
returns-then-out-n g c =
    let a = c.args in let p = last_short (g.T.Word.value a.x) a.bytes.now a.out.now (sym c.summary_true.ensures ∙ c.if-not-summary_true.false)
    c.count_listed-n.result c.count_listed-n.ensures c.if-out-n.true in record { value = p.0; out_after = p.1 }

pub returns : goal.returns
returns g c =
    let a = c.args in let p = last_done (g.T.Word.value a.x) a.bytes.now a.out.now (sym c.summary_true.ensures ∙ c.if-not-summary_true.false)
    c.count_listed-n.result c.count_listed-n.ensures c.if-out-n.false
    c.put_listed.new.out c.put_listed.ensures in record { value = p.0; out_after = p.1 }
