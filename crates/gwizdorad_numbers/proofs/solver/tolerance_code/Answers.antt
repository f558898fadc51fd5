-- `gwizdorad_numbers::solver::tolerance_code` meets its contract.
use Rattle.std.specs.Prelude.{ℕ, ℤ, Option, option_map}
use mathlib.Core.Path.{◌∙◌, sym, ap}
use Rattle.numbers.specs.Answers.{code_answer, code_number}
use Rattle.gwizdorad_numbers.specs.Result.{code_result, code_out}
use Rattle.gwizdorad_numbers.proofs.Law.Spelled.{told}
use Rattle.gwizdorad_numbers.proofs.solver.tolerance_code.Goals as goal

pub returns-in-Some-clause-value : goal.returns-in-Some-clause-value
unfolding code_result code_number
returns-in-Some-clause-value g c = c.result_of.ensures ∙ ap code_result (sym (told (λ (z : ℤ). code_answer g.T.Word.width g.T.Word.fraction c.args.halves z (g.T.Word.value c.args.pattern)) c.args.k c.ranges.k _ _ c.code.ensures (ap (option_map g.T.Word.value) c.in-Some.is)))

pub returns-in-Some-clause-code_after : goal.returns-in-Some-clause-code_after
unfolding code_out
returns-in-Some-clause-code_after g c = sym (ap (λ (a : Option ℕ). code_out a (g.T.Word.value c.args.code.now)) (told (λ (z : ℤ). code_answer g.T.Word.width g.T.Word.fraction c.args.halves z (g.T.Word.value c.args.pattern)) c.args.k c.ranges.k _ _ c.code.ensures (ap (option_map g.T.Word.value) c.in-Some.is)))

pub returns-in-None-clause-value : goal.returns-in-None-clause-value
unfolding code_result code_number
returns-in-None-clause-value g c = c.result_of-in-None.ensures ∙ ap code_result (sym (told (λ (z : ℤ). code_answer g.T.Word.width g.T.Word.fraction c.args.halves z (g.T.Word.value c.args.pattern)) c.args.k c.ranges.k _ _ c.code.ensures (ap (option_map g.T.Word.value) c.in-None.is)))

pub returns-in-None-clause-code_after : goal.returns-in-None-clause-code_after
unfolding code_out
returns-in-None-clause-code_after g c = sym (ap (λ (a : Option ℕ). code_out a (g.T.Word.value c.args.code.now)) (told (λ (z : ℤ). code_answer g.T.Word.width g.T.Word.fraction c.args.halves z (g.T.Word.value c.args.pattern)) c.args.k c.ranges.k _ _ c.code.ensures (ap (option_map g.T.Word.value) c.in-None.is)))
