use Rattle.std.proofs.Common.{ℕ, ◌<◌, ap, ◌∙◌, arith}
use Rattle.numbers.specs.Signed.{signed_view, folded}
use Rattle.numbers.proofs.Law.Signed.{fold_by_bits, bits_told}
use Rattle.numbers.proofs.signed.folded.Goals as goal

pub returns : goal.returns
returns g c =
    let L = g.met.T.Word in
    let W : ℕ = g.T.Word.width in
    let some : 0 < W = omega (arith, L.widths_law) in
    let b = bits_told W some (g.T.Word.signed c.args.x) (g.T.Word.value c.bits.result) c.bits.ensures.natural c.bits.ensures.below_zero in
    rw (L.bitxor_law _ _ _ c.bitxor.ensures, L.mul_law _ _ _ c.mul.ensures, L.mul_law _ _ _ c.mul-2.ensures, L.rem_law _ _ _ c.rem.ensures, L.div_law _ _ _ c.div.ensures, c.of.ensures, c.HIGHEST.ensures, c.HIGHEST-2.ensures, L.highest_law, c.ALL.ensures, L.all_law)
    (fold_by_bits W some (g.T.Word.value c.bounded-s.result) c.bounded-s.ensures.below ∙ ap (λ s. folded (signed_view W (g.T.Word.value s))) c.bounded-s.ensures.same ∙ ap folded b.1)
