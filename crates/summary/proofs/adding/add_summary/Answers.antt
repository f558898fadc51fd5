-- `summary::adding::add_summary` meets its contract.
use mathlib.Core.List.{[], ◌∷◌}
use mathlib.Core.Path.{sym, ◌∙◌}
use lib.ListN.{length}
use Rattle.stream.specs.Rows.{answer, after}
use Rattle.stream.proofs.Law.Header.Opening.{open_is}
use Rattle.stream.proofs.Law.Rows.First.{handed_on}
use Rattle.summary.specs.Operations.{sides_row, room_for, add_rows, add_answer, add_out}
use Rattle.summary.specs.Summary.{with_summary}
use Rattle.summary.proofs.Law.Stream.{accepted_by, behind_stop, behind_pass}
use Rattle.summary.proofs.adding.add_summary.Goals as goal

pub returns-in_err-h : goal.returns-in_err-h
unfolding add_answer add_out add_rows answer after
returns-in_err-h c =
    let a = c.args in
    let b = behind_stop a.level a.bytes.now (sides_row a.bytes.now ∷ room_for (length a.out.now) (with_summary a.bytes.now) ∷ []) _ (sym c.check_opening.ensures ∙ c.in_err-h.was) in
    record { value = rw b (handed_on c.from_residual.ensures.1); out_after = rw b }

pub added-requires : goal.added-requires
added-requires c = let a = c.args in accepted_by a.level a.bytes.now _ (sym c.check_opening.ensures ∙ c.in_ok-h.was)

pub returns : goal.returns
unfolding add_answer add_out add_rows
returns c =
    let a = c.args in
    let r = c.added in
    let o = open_is _ _ _ (sym c.check_opening.ensures ∙ c.in_ok-h.was) in
    let b = behind_pass a.level a.bytes.now (sides_row a.bytes.now ∷ room_for (length a.out.now) (with_summary a.bytes.now) ∷ []) o.0 in
    record { value = rw b r.ensures.value; out_after = rw b r.ensures.out_after }
