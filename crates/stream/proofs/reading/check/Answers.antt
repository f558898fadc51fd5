-- `stream::reading::check` meets its contract.
use Rattle.stream.proofs.Law.Rows.First.{refused_stop, refuses, passes}
use Rattle.stream.proofs.Law.Header.Opening.{open_is}
use Rattle.stream.specs.Operations.{check_answer}
use Rattle.stream.specs.declared.header.Header.{Header}
use mathlib.Core.Path.{sym, ap, ◌∙◌}
use Rattle.stream.proofs.reading.check.Goals as goal

pub returns-in_err-h : goal.returns-in_err-h
unfolding check_answer
returns-in_err-h c = refuses _ _ c.from_residual.ensures.1 (refused_stop _ _ _ (sym c.check_opening.ensures ∙ c.in_err-h.was))

pub returns : goal.returns
unfolding check_answer
returns c =
    let o = open_is _ _ _ (sym c.check_opening.ensures ∙ c.in_ok-h.was) in
    passes _ _ _ o.0 (ap (λ (h : Header). h.count) o.1)
