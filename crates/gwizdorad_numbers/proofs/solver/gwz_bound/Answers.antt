-- `gwizdorad_numbers::solver::gwz_bound` meets its contract.
use mathlib.Core.Path.{◌∙◌, sym, ap}
use mir.Facts.{to_z-of_z}
use mir.Syntax.{w32}
use Rattle.std.specs.Prelude.{Err}
use Rattle.numbers.specs.Signed.{bits_of}
use Rattle.numbers.specs.Bound.{bound_number, bound_detail}
use Rattle.numbers.specs.declared.bound.BoundError.{BoundError}
use Rattle.gwizdorad_numbers.specs.Result.{result_of, bound_result}
use Rattle.gwizdorad_numbers.proofs.Law.Spelled.{bound_signed}
use Rattle.gwizdorad_numbers.proofs.solver.gwz_bound.Goals as goal

pub returns-in-Ok : goal.returns-in-Ok
unfolding bound_result bound_number bound_detail
returns-in-Ok c = let fits = bound_signed c.args.width c.args.tolerance c.in-Ok.k c.in-Ok.ensures in c.result_of.ensures ∙ ap (result_of 0) (c.bits32.ensures ∙ ap (bits_of 32) (to_z-of_z {w = w32} fits)) ∙ ap bound_result (sym c.in-Ok.is ∙ c.bound-answer.ensures)

pub returns-in-Err-UnknownWidth : goal.returns-in-Err-UnknownWidth
unfolding bound_result bound_number bound_detail bits_of
returns-in-Err-UnknownWidth c = c.result_of-in-Err-UnknownWidth.ensures ∙ ap bound_result (sym (c.in-Err-UnknownWidth.is ∙ ap (λ (e : BoundError). Err e) (rw c.in-Err-UnknownWidth.is at c.in-Err-UnknownWidth.field-0-is)) ∙ c.bound-answer.ensures)

pub returns-in-Err-NoTolerance : goal.returns-in-Err-NoTolerance
unfolding bound_result bound_number bound_detail bits_of
returns-in-Err-NoTolerance c = c.result_of-in-Err-NoTolerance.ensures ∙ ap bound_result (sym (c.in-Err-NoTolerance.is ∙ ap (λ (e : BoundError). Err e) (rw c.in-Err-NoTolerance.is at c.in-Err-NoTolerance.field-0-is)) ∙ c.bound-answer.ensures)

pub returns-in-Err-TooSmall : goal.returns-in-Err-TooSmall
unfolding bound_result bound_number bound_detail bits_of
returns-in-Err-TooSmall c = c.result_of-in-Err-TooSmall.ensures ∙ ap bound_result (sym (c.in-Err-TooSmall.is ∙ ap (λ (e : BoundError). Err e) (rw c.in-Err-TooSmall.is at c.in-Err-TooSmall.field-0-is)) ∙ c.bound-answer.ensures)
