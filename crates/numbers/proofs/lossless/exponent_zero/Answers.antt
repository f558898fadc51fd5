use Rattle.std.proofs.Common.{ap, ◌∙◌, arith, nat_lt}
use Rattle.numbers.proofs.Law.Lossless.{zero_test}
use Rattle.numbers.proofs.lossless.exponent_zero.Goals as goal

pub returns : goal.returns
returns g c =
    let L = g.met.T.Word in
    c.lt.ensures ∙ L.lt_law _ _ ∙ ap (nat_lt _) c.unit.ensures ∙ zero_test g.T.Word.width g.T.Word.fraction (omega (arith, L.widths_law)) (g.T.Word.value c.args.r)
