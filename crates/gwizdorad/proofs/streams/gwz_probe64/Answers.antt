-- `gwizdorad::streams::gwz_probe64` meets its contract.
use mathlib.Core.Path.{◌∙◌, sym, ap, ap₂}
use Prim.Native.Nat.{ℕ}
use lib.Ieee.{Float}
use Rattle.std.specs.Prelude.{Result, Ok}
use Rattle.stream.specs.Rows.{answer_number}
use Rattle.stream.specs.declared.answers.Refusal.{Refusal}
use Rattle.stream.specs.declared.answers.Shown.{Shown}
use Rattle.stream.proofs.Law.Values.ShownNumber.{finite_is_a_number64}
use Rattle.gwizdorad_numbers.specs.Result.{result_of}
use Rattle.gwizdorad.specs.Result.{probe_detail, probe_result, probe_out64}
use Rattle.gwizdorad.proofs.streams.gwz_probe64.Goals as goal

pub float_to_bits-pattern : goal.float_to_bits-pattern
float_to_bits-pattern c = finite_is_a_number64 _ _ _ _ (sym c.probe64-answer.ensures ∙ c.in-Ok.is ∙ ap Ok c.in-Finite.is)

pub returns-in-Finite : goal.returns-in-Finite
unfolding probe_result answer_number probe_detail probe_out64
returns-in-Finite c =
    let e = sym (c.in-Ok.is ∙ ap Ok c.in-Finite.is) ∙ c.probe64-answer.ensures in
    record { value = c.result_of.ensures ∙ ap probe_result e; pattern_after = ap (λ (a : Result (Shown Float ℕ) Refusal). probe_out64 a c.args.pattern.now) e }

pub returns-in-Infinity : goal.returns-in-Infinity
unfolding probe_result answer_number probe_detail probe_out64
returns-in-Infinity c =
    let e = sym (c.in-Ok.is ∙ ap Ok c.in-Infinity.is) ∙ c.probe64-answer.ensures in
    record { value = c.result_of-in-Infinity.ensures ∙ ap probe_result e; pattern_after = c.infinity64.ensures ∙ ap (λ (a : Result (Shown Float ℕ) Refusal). probe_out64 a c.args.pattern.now) e }

pub returns-in-NotANumber : goal.returns-in-NotANumber
unfolding probe_result answer_number probe_detail probe_out64
returns-in-NotANumber c =
    let e = sym (c.in-Ok.is ∙ ap Ok c.in-NotANumber.is) ∙ c.probe64-answer.ensures in
    record { value = c.result_of-in-NotANumber.ensures ∙ ap probe_result e; pattern_after = ap (λ (a : Result (Shown Float ℕ) Refusal). probe_out64 a c.args.pattern.now) e }

pub returns-in-Err : goal.returns-in-Err
unfolding probe_result answer_number probe_detail probe_out64
returns-in-Err c =
    let e = sym c.in-Err.is ∙ c.probe64-answer.ensures in
    record {
      value = c.result_of-in-Err.ensures ∙ ap₂ result_of c.number.ensures c.detail.ensures ∙ ap probe_result e;
      pattern_after = ap (λ (a : Result (Shown Float ℕ) Refusal). probe_out64 a c.args.pattern.now) e;
    }
