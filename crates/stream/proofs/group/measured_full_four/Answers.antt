use Rattle.std.proofs.Common.{ap₂, ◌∙◌, arith, rules, max}
use Rattle.stream.proofs.Law.Group.Records.{at_most_64, blocks_of}
use Rattle.stream.proofs.group.measured_full_four.Goals as goal

pub overflow_mul-result : goal.overflow_mul-result
overflow_mul-result g c = record {
  fits = omega (arith, c.max.ensures, c.max-front.ensures, c.max-back.ensures, c.width.ensures.1, c.width-2.ensures.1, c.width-3.ensures.1, c.width-4.ensures.1, at_most_64 g.met.T.Word.formats_law);
}

pub overflow_add-result : goal.overflow_add-result
overflow_add-result g c = record {
  fits = omega (arith, c.max.ensures, c.max-front.ensures, c.max-back.ensures, c.width.ensures.1, c.width-2.ensures.1, c.width-3.ensures.1, c.width-4.ensures.1, at_most_64 g.met.T.Word.formats_law);
}

pub returns : goal.returns
returns g c =
    let a = c.args in
    (blocks_of g.met.T.Word.values_law c.max.result a.a a.b a.c a.d (search rules) (search rules) (search rules) (search rules) c.requires
    (c.max.ensures
    ∙ ap₂ max
    (c.max-front.ensures ∙ ap₂ max c.width.ensures.0 c.width-2.ensures.0)
    (c.max-back.ensures ∙ ap₂ max c.width-3.ensures.0 c.width-4.ensures.0))).length_is
