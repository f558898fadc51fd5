use Rattle.std.proofs.Common.{ℕ, ◌<◌, refl, ◌∙◌, arith}
use Rattle.numbers.specs.Lossless.{plus}
use Rattle.numbers.specs.Difference.{difference_restored}
use Rattle.numbers.proofs.Law.Signed.{bits_told}
use Rattle.numbers.proofs.difference.restored.Goals as goal

pub returns : goal.returns
unfolding difference_restored plus
returns g c =
    let W : ℕ = g.T.Word.width in
    let some : 0 < W = omega (arith, g.met.T.Word.widths_law) in
    let b = bits_told W some (g.T.Word.signed c.unfolded.result) (g.T.Word.value c.bits.result) c.bits.ensures.natural c.bits.ensures.below_zero in
    c.wrapping_add.ensures ∙ rw (b.0, c.unfolded.ensures, c.bounded.ensures.same) refl
