-- `gwizdorad_numbers::solver::tolerance_restored` meets its contract.
use Rattle.std.specs.Prelude.{ℕ, ℤ, Result, Err}
use mathlib.Core.Path.{◌∙◌, sym, ap}
use Rattle.numbers.specs.Answers.{pattern_answer, pattern_number, pattern_of}
use Rattle.numbers.specs.declared.tolerance.PatternError.{PatternError}
use Rattle.gwizdorad_numbers.specs.Result.{pattern_result, pattern_out}
use Rattle.gwizdorad_numbers.proofs.Law.Spelled.{told}
use Rattle.gwizdorad_numbers.proofs.solver.tolerance_restored.Goals as goal

pub returns-in-Ok-clause-value : goal.returns-in-Ok-clause-value
unfolding pattern_result pattern_number
returns-in-Ok-clause-value g c = c.result_of.ensures ∙ ap pattern_result (sym (told (λ (z : ℤ). pattern_answer g.T.Word.width g.T.Word.fraction z (g.T.Word.value c.args.code)) c.args.k c.ranges.k _ _ c.restored.ensures (ap (pattern_of g.T.Word.value) c.in-Ok.is)))

pub returns-in-Ok-clause-pattern_after : goal.returns-in-Ok-clause-pattern_after
unfolding pattern_out
returns-in-Ok-clause-pattern_after g c = sym (ap (λ (a : Result ℕ PatternError). pattern_out a (g.T.Word.value c.args.pattern.now)) (told (λ (z : ℤ). pattern_answer g.T.Word.width g.T.Word.fraction z (g.T.Word.value c.args.code)) c.args.k c.ranges.k _ _ c.restored.ensures (ap (pattern_of g.T.Word.value) c.in-Ok.is)))

pub returns-in-Err-NotAllowed-clause-value : goal.returns-in-Err-NotAllowed-clause-value
unfolding pattern_result pattern_number
returns-in-Err-NotAllowed-clause-value g c = c.result_of-in-Err-NotAllowed.ensures ∙ ap pattern_result (sym (told (λ (z : ℤ). pattern_answer g.T.Word.width g.T.Word.fraction z (g.T.Word.value c.args.code)) c.args.k c.ranges.k _ _ c.restored.ensures (ap (pattern_of g.T.Word.value) (c.in-Err-NotAllowed.is ∙ ap (λ (e : PatternError). Err e) c.in-Err-NotAllowed.field-0-is))))

pub returns-in-Err-NotAllowed-clause-pattern_after : goal.returns-in-Err-NotAllowed-clause-pattern_after
unfolding pattern_out
returns-in-Err-NotAllowed-clause-pattern_after g c = sym (ap (λ (a : Result ℕ PatternError). pattern_out a (g.T.Word.value c.args.pattern.now)) (told (λ (z : ℤ). pattern_answer g.T.Word.width g.T.Word.fraction z (g.T.Word.value c.args.code)) c.args.k c.ranges.k _ _ c.restored.ensures (ap (pattern_of g.T.Word.value) (c.in-Err-NotAllowed.is ∙ ap (λ (e : PatternError). Err e) c.in-Err-NotAllowed.field-0-is))))

pub returns-in-Err-AboveLargest-clause-value : goal.returns-in-Err-AboveLargest-clause-value
unfolding pattern_result pattern_number
returns-in-Err-AboveLargest-clause-value g c = c.result_of-in-Err-AboveLargest.ensures ∙ ap pattern_result (sym (told (λ (z : ℤ). pattern_answer g.T.Word.width g.T.Word.fraction z (g.T.Word.value c.args.code)) c.args.k c.ranges.k _ _ c.restored.ensures (ap (pattern_of g.T.Word.value) (c.in-Err-AboveLargest.is ∙ ap (λ (e : PatternError). Err e) c.in-Err-AboveLargest.field-0-is))))

pub returns-in-Err-AboveLargest-clause-pattern_after : goal.returns-in-Err-AboveLargest-clause-pattern_after
unfolding pattern_out
returns-in-Err-AboveLargest-clause-pattern_after g c = sym (ap (λ (a : Result ℕ PatternError). pattern_out a (g.T.Word.value c.args.pattern.now)) (told (λ (z : ℤ). pattern_answer g.T.Word.width g.T.Word.fraction z (g.T.Word.value c.args.code)) c.args.k c.ranges.k _ _ c.restored.ensures (ap (pattern_of g.T.Word.value) (c.in-Err-AboveLargest.is ∙ ap (λ (e : PatternError). Err e) c.in-Err-AboveLargest.field-0-is))))
