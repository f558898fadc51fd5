use Rattle.std.proofs.Common.{◌≡◌, ℕ, ◌<◌, ap, ◌∙◌, arith}
use Rattle.numbers.specs.Signed.{signed_view, unfolded, bits_of}
use Rattle.numbers.proofs.Law.Signed.{unfold_by_bits, view_told, view_of_bits}
use Rattle.numbers.proofs.signed.unfolded.Goals as goal

pub returns : goal.returns
returns g c =
    let L = g.met.T.Word in
    let W : ℕ = g.T.Word.width in
    let n : ℕ = g.T.Word.value c.args.c in
    let some : 0 < W = omega (arith, L.widths_law) in
    let word : g.T.Word.value c.bitxor.result ≡ bits_of W (unfolded n) =
    rw (L.bitxor_law _ _ _ c.bitxor.ensures, L.mul_law _ _ _ c.mul.ensures, L.rem_law _ _ _ c.rem.ensures, L.div_law _ _ _ c.div.ensures, c.of.ensures, c.of-2.ensures, c.ALL.ensures, L.all_law) (unfold_by_bits W some n c.requires)
    in
    view_told W some (g.T.Word.value c.bitxor.result) (g.T.Word.signed c.view.result) c.view.ensures.low c.view.ensures.high ∙ ap (signed_view W) word ∙ view_of_bits W some n c.requires
