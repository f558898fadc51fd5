use Rattle.std.proofs.Common.{ℕ, ◌<◌, ap, ◌∙◌, arith, refl}
use Rattle.numbers.specs.Signed.{folded}
use Rattle.numbers.specs.Lossless.{lossless_code}
use Rattle.numbers.proofs.Law.Signed.{view_told}
use Rattle.numbers.proofs.Law.Lossless.{rotated_below}
use Rattle.numbers.proofs.lossless.code.Goals as goal

pub stepped-requires : goal.stepped-requires
stepped-requires g c = rw c.rotated.ensures (rotated_below g.T.Word.width (omega (arith, g.met.T.Word.widths_law)) (g.T.Word.value c.bounded.result) c.bounded.ensures.below)

pub returns : goal.returns
unfolding lossless_code
returns g c =
    let W : ℕ = g.T.Word.width in
    let some : 0 < W = omega (arith, g.met.T.Word.widths_law) in
    c.folded.ensures
    ∙ ap folded (view_told W some (g.T.Word.value c.stepped.result) (g.T.Word.signed c.view.result) c.view.ensures.low c.view.ensures.high)
    ∙ rw (c.stepped.ensures, c.rotated.ensures, c.bounded.ensures.same) refl
