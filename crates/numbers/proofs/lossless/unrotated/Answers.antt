use Rattle.std.proofs.Common.{arith}
use Rattle.numbers.specs.Lossless.{unrotated}
use Rattle.numbers.proofs.Law.Lossless.{unrotated_below}
use Rattle.numbers.proofs.lossless.unrotated.Goals as goal

pub add-requires : goal.add-requires
unfolding unrotated
add-requires g c =
    let L = g.met.T.Word in
    L.can_add_law _ _ (rw (L.mul_law _ _ _ c.mul.ensures, L.rem_law _ _ _ c.rem.ensures, L.div_law _ _ _ c.div.ensures, c.of.ensures, c.of-2.ensures, c.HIGHEST.ensures, L.highest_law) (unrotated_below g.T.Word.width (omega (arith, L.widths_law)) (g.T.Word.value c.args.r) c.requires))
