use Rattle.std.proofs.Common.{◌≡◌, ℕ, ◌<◌, refl, ap, ◌∙◌, arith}
use Rattle.numbers.specs.Signed.{unfolded, bits_of}
use Rattle.numbers.specs.Lossless.{lossless_restored}
use Rattle.numbers.proofs.Law.Signed.{bits_below, bits_told}
use Rattle.numbers.proofs.Law.Lossless.{unstepped_below}
use Rattle.numbers.proofs.lossless.restored.Goals as goal

pub unstepped-requires : goal.unstepped-requires
unstepped-requires g c =
    let W : ℕ = g.T.Word.width in
    let some : 0 < W = omega (arith, g.met.T.Word.widths_law) in
    let b = bits_told W some (g.T.Word.signed c.unfolded.result) (g.T.Word.value c.bits.result) c.bits.ensures.natural c.bits.ensures.below_zero in
    rw (b.0, c.unfolded.ensures) (bits_below W some (g.T.Word.value c.bounded.result) c.bounded.ensures.below)

pub unrotated-requires : goal.unrotated-requires
unrotated-requires g c =
    let W : ℕ = g.T.Word.width in
    let some : 0 < W = omega (arith, g.met.T.Word.widths_law) in
    let b = bits_told W some (g.T.Word.signed c.unfolded.result) (g.T.Word.value c.bits.result) c.bits.ensures.natural c.bits.ensures.below_zero in
    rw (c.unstepped.ensures, b.0, c.unfolded.ensures) (unstepped_below W g.T.Word.fraction (omega (arith, g.met.T.Word.widths_law)) _ (bits_below W some (g.T.Word.value c.bounded.result) c.bounded.ensures.below))

pub returns : goal.returns
unfolding lossless_restored
returns g c =
    let W : ℕ = g.T.Word.width in
    let some : 0 < W = omega (arith, g.met.T.Word.widths_law) in
    let b = bits_told W some (g.T.Word.signed c.unfolded.result) (g.T.Word.value c.bits.result) c.bits.ensures.natural c.bits.ensures.below_zero in
    c.unrotated.ensures ∙ rw (c.unstepped.ensures, b.0, c.unfolded.ensures, c.bounded.ensures.same) refl
