-- `bins::bin::largest_u` meets its contract.
use Rattle.std.proofs.Common.{◌≡◌, ℕ, ◌-◌, ◌*◌, ◌^◌, ap, ◌∙◌, ap₂, arith}
use Rattle.bins.specs.Tolerance.{largest_u}
use Rattle.bins.proofs.Law.Tolerance.{halves}
use Rattle.bins.proofs.Law.Working.{under_last, bins_fit}
use Rattle.bins.proofs.bin.largest_u.Goals as goal

-- the part for the bin
part : (g : _) (c : goal.After-mul g) → g.T.Word.value c.mul.result ≡ c.clipped.result * 2 ^ g.T.Word.fraction
part g c =
    let w = g.met.T.Word in
    w.mul_law _ _ _ c.mul.ensures ∙ ap₂ ◌*◌ c.of_u32.ensures (ap g.T.Word.value c.UNIT.ensures ∙ w.unit_law)

-- the whole
whole : (g : _) (c : goal.After-mul g) → g.T.Word.value c.sub.result ≡ 2 ^ (g.T.Word.width - 1) - 1
whole g c =
    let w = g.met.T.Word in
    w.sub_law _ _ _ c.sub.ensures ∙ ap₂ ◌-◌ (ap g.T.Word.value c.HIGHEST.ensures ∙ w.highest_law) c.of.ensures

pub mul-requires : goal.mul-requires
mul-requires g c =
    let w = g.met.T.Word in
    let last = under_last _ c.args.bin _ c.clipped.ensures in
    w.can_mul_law _ _
    (rw (c.of_u32.ensures, c.UNIT.ensures, w.unit_law)
    (omega (arith, bins_fit g.T.Word.width g.T.Word.fraction w.widths_law c.clipped.result last, halves g.T.Word.width g.T.Word.fraction w.widths_law c.clipped.result last)))

pub sub-requires-2 : goal.sub-requires-2
sub-requires-2 g c =
    let w = g.met.T.Word in
    w.can_sub_law _ _
    (rw (part g c, whole g c) (omega (arith, bins_fit g.T.Word.width g.T.Word.fraction w.widths_law c.clipped.result (under_last _ c.args.bin _ c.clipped.ensures))))

pub returns : goal.returns
unfolding largest_u
returns g c =
    g.met.T.Word.sub_law _ _ _ c.sub-2.ensures ∙ ap₂ ◌-◌ (whole g c.before) (part g c.before ∙ ap (λ (j : ℕ). j * 2 ^ g.T.Word.fraction) c.clipped.ensures)
