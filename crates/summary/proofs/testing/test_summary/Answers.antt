-- `summary::testing::test_summary` meets its contract: the check's rows, and then 17.
use mathlib.Core.Path.{sym, ◌∙◌}
use Rattle.stream.proofs.Law.Header.Opening.{open_is}
use Rattle.stream.proofs.Law.Rows.First.{refused_stop, handed_on}
use Rattle.summary.proofs.Law.Testing.{test_shut, test_false, test_true}
use Rattle.summary.proofs.testing.test_summary.Goals as goal

pub returns-in_err-h : goal.returns-in_err-h
returns-in_err-h c =
    let a = c.args in
    handed_on c.from_residual.ensures.1 ∙ test_shut a.level a.bytes.now _ (refused_stop _ _ _ (sym c.check_opening.ensures ∙ c.in_err-h.was))

pub summary_true-requires : goal.summary_true-requires
summary_true-requires c =
    let o = open_is _ _ _ (sym c.check_opening.ensures ∙ c.in_ok-h.was) in
    record { level = c.args.level; pass = o.0; header = o.1 }

pub returns-then-summary_true : goal.returns-then-summary_true
returns-then-summary_true c =
    let a = c.args in
    let o = open_is _ _ _ (sym c.check_opening.ensures ∙ c.in_ok-h.was) in
    test_true a.level a.bytes.now o.0 (sym c.summary_true.ensures ∙ c.if-summary_true.true) c.in_ok-h.h o.1

pub returns : goal.returns
returns c =
    let a = c.args in
    let o = open_is _ _ _ (sym c.check_opening.ensures ∙ c.in_ok-h.was) in
    test_false a.level a.bytes.now o.0 (sym c.summary_true.ensures ∙ c.if-summary_true.false)
