use Rattle.std.proofs.Common.{ℕ, ◌<◌, refl, ap, ◌∙◌, arith}
use Rattle.numbers.specs.Signed.{folded}
use Rattle.numbers.specs.Lossless.{minus}
use Rattle.numbers.specs.Difference.{difference_code}
use Rattle.numbers.proofs.Law.Signed.{view_told}
use Rattle.numbers.proofs.difference.code.Goals as goal

pub returns : goal.returns
unfolding difference_code minus
returns g c =
    let W : ℕ = g.T.Word.width in
    let some : 0 < W = omega (arith, g.met.T.Word.widths_law) in
    c.folded.ensures
    ∙ ap folded (view_told W some (g.T.Word.value c.wrapping_sub.result) (g.T.Word.signed c.view.result) c.view.ensures.low c.view.ensures.high)
    ∙ rw c.wrapping_sub.ensures refl
