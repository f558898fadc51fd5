use Rattle.std.proofs.Common.{ℕ, suc, ◌+◌, ◌*◌, ◌/◌, ◌++◌, take, sym, ap₂, ◌∙◌, arith, rules}
use native.Mathlib.Numerals.{one-add}
use Rattle.stream.specs.Group.{bytes_for}
use Rattle.stream.proofs.Law.Group.RoundTrip.{length_group}
use Rattle.stream.proofs.Law.Group.Records.{at_most_64, four_fit, four_counts}
use Rattle.stream.proofs.group.measured_four.Goals as goal

pub overflow_mul-result : goal.overflow_mul-result
overflow_mul-result g c = record { fits = omega (arith, four_fit _ _ _ _ _ _ c.width_four.ensures.1 (at_most_64 g.met.T.Word.formats_law) c.requires) }

pub overflow_add-result : goal.overflow_add-result
overflow_add-result g c = record { fits = omega (arith, four_fit _ _ _ _ _ _ c.width_four.ensures.1 (at_most_64 g.met.T.Word.formats_law) c.requires) }

pub overflow_add-result-2 : goal.overflow_add-result-2
overflow_add-result-2 g c = record { fits = omega (arith, four_fit _ _ _ _ _ _ c.width_four.ensures.1 (at_most_64 g.met.T.Word.formats_law) c.requires) }

pub returns : goal.returns
unfolding bytes_for
returns g c =
    let v = g.T.Word.values in
    let a = c.args in
    one-add _
    ∙ ap₂ (λ (w n : ℕ). suc ((w * n + 7) / 8)) c.width_four.ensures.0
    (sym (four_counts g.met.T.Word.values_law c.width_four.result a.a a.b a.c a.d (search rules) (search rules) (search rules) (search rules) c.requires))
    ∙ sym (length_group (take a.a.count (v a.a.codes) ++ take a.b.count (v a.b.codes) ++ take a.c.count (v a.c.codes) ++ take a.d.count (v a.d.codes)))
