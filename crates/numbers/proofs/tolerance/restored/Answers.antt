-- `numbers::tolerance::restored` meets its contract.
use Rattle.std.proofs.Common.{ℕ, ◌/◌, Option, Some, None, Err, sym, ap, ◌∙◌, arith, ltb-true, ltb-false}
use Rattle.std.proofs.lemmas.Result.{err_from_is_err_and}
use Rattle.std.specs.Ordering.{is_some_and, is_lt}
use Rattle.std.specs.Prelude.{ok_or}
use Rattle.bins.proofs.Law.Number.{less_is}
use Rattle.bins.proofs.Law.Answers.{answered}
use Rattle.numbers.specs.declared.tolerance.PatternError.{PatternError}
use Rattle.numbers.specs.declared.tolerance.PatternError.TheVariants.{NotAllowed}
use Rattle.numbers.proofs.Law.Answers.{no_pattern, above, patterned}
use Rattle.numbers.proofs.tolerance.restored.Goals as goal

pub returns-in_err-j : goal.returns-in_err-j
returns-in_err-j g c =
    let none = answered g.T.Word.width g.T.Word.fraction c.args.k c.ranges.k c.bin.result None c.bin.ensures c.in_err-j.ensures.ok_part in
    let told = err_from_is_err_and c.from_residual.result c.from_residual.ensures.1 in
    rw (no_pattern g.T.Word.width g.T.Word.fraction c.args.k none (g.T.Word.value c.args.c), told.1)
    (ap (λ (e : PatternError). Err e) told.2 ∙ c.in_err-j.ensures.value ∙ ap (λ (bin : Option ℕ). ok_or bin NotAllowed) c.in_err-j.ensures.ok_part)

pub returns-then-lt : goal.returns-then-lt
returns-then-lt g c =
    let law = g.met.T.Kernel in
    let w = g.met.T.Word in
    let some = answered g.T.Word.width g.T.Word.fraction c.args.k c.ranges.k c.bin.result (Some c.in_ok-j.j) c.bin.ensures c.in_ok-j.ensures.ok_part in
    above g.T.Word.width g.T.Word.fraction c.args.k c.in_ok-j.j some (omega (arith, law.offset_law)) (omega (arith, law.offset_law, law.bins_law, law.last_law)) _ _ _
    c.largest_u.ensures (w.div_law _ _ _ c.div.ensures ∙ ap (λ (n : ℕ). g.T.Word.value c.args.c / n) c.of.ensures)
    (ltb-true _ _ (sym (w.lt_law _ _) ∙ sym c.lt.ensures ∙ c.if-lt.true))

pub returns : goal.returns
returns g c =
    let law = g.met.T.Kernel in
    let w = g.met.T.Word in
    let some = answered g.T.Word.width g.T.Word.fraction c.args.k c.ranges.k c.bin.result (Some c.in_ok-j.j) c.bin.ensures c.in_ok-j.ensures.ok_part in
    patterned g.T.Word.width g.T.Word.fraction c.args.k c.in_ok-j.j some (omega (arith, law.offset_law)) (omega (arith, law.offset_law, law.bins_law, law.last_law)) _ _ _ _
    c.largest_u.ensures (w.div_law _ _ _ c.div.ensures ∙ ap (λ (n : ℕ). g.T.Word.value c.args.c / n) c.of.ensures)
    (ltb-false _ _ (sym (w.lt_law _ _) ∙ sym c.lt.ensures ∙ c.if-lt.false)) c.restored_at_bin.ensures
