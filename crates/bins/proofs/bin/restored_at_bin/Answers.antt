-- `bins::bin::restored_at_bin` meets its contract.
use Rattle.std.proofs.Common.{◌≡◌, ℕ, ◌+◌, ◌*◌, ◌/◌, ◌%◌, ◌-◌, ◌^◌, ◌<◌, ◌≤◌, ap, ◌∙◌, ap₂, arith, mod-lt, pow_pos, mul-le-mul_right}
use Rattle.bins.specs.Tolerance.{tolerance_restored, restored_ordinal}
use Rattle.bins.proofs.Law.Number.{twice_half}
use Rattle.bins.proofs.bin.restored_at_bin.Goals as goal

-- a pattern fits into a word
pattern_fits : (W o c : ℕ) → 0 < W → o % 2 ^ (W - 1) + c % 2 * 2 ^ (W - 1) < 2 ^ W
pattern_fits W o c some =
    let sign : c % 2 * 2 ^ (W - 1) ≤ 1 * 2 ^ (W - 1) = mul-le-mul_right (2 ^ (W - 1)) (omega arith) in
    omega (arith, twice_half W some, mod-lt o (pow_pos (W - 1)))

-- the sign in its place, and the ordinal cut to its bits
sign_is : (g : _) (c : goal.After-mul g) → g.T.Word.value c.mul.result ≡ g.T.Word.value c.args.c % 2 * 2 ^ (g.T.Word.width - 1)
sign_is g c =
    let w = g.met.T.Word in
    w.mul_law _ _ _ c.mul.ensures
    ∙ ap₂ ◌*◌ (w.rem_law _ _ _ c.rem-2.ensures ∙ ap (λ (n : ℕ). g.T.Word.value c.args.c % n) c.of-2.ensures) (ap g.T.Word.value c.HIGHEST-2.ensures ∙ w.highest_law)

cut_is : (g : _) (c : goal.After-mul g) → g.T.Word.value c.rem.result ≡ g.T.Word.value c.ordinal_at_bin.result % 2 ^ (g.T.Word.width - 1)
cut_is g c =
    let w = g.met.T.Word in
    w.rem_law _ _ _ c.rem.ensures ∙ ap (λ (n : ℕ). g.T.Word.value c.ordinal_at_bin.result % n) (ap g.T.Word.value c.HIGHEST.ensures ∙ w.highest_law)

pub mul-requires : goal.mul-requires
mul-requires g c =
    let w = g.met.T.Word in
    w.can_mul_law _ _
    (rw (w.rem_law _ _ _ c.rem-2.ensures, c.of-2.ensures, c.HIGHEST-2.ensures, w.highest_law)
    (omega (arith, pattern_fits g.T.Word.width 0 (g.T.Word.value c.args.c) (omega (arith, w.widths_law)))))

pub add-requires : goal.add-requires
add-requires g c =
    let w = g.met.T.Word in
    w.can_add_law _ _ (rw (cut_is g c, sign_is g c) (pattern_fits g.T.Word.width (g.T.Word.value c.ordinal_at_bin.result) (g.T.Word.value c.args.c) (omega (arith, w.widths_law))))

pub returns : goal.returns
unfolding tolerance_restored
returns g c =
    let w = g.met.T.Word in
    w.add_law _ _ _ c.add.ensures
    ∙ ap₂ ◌+◌
    (cut_is g c.before ∙ ap (λ (o : ℕ). o % 2 ^ (g.T.Word.width - 1)) (c.ordinal_at_bin.ensures ∙ ap (restored_ordinal g.T.Word.fraction _) (w.div_law _ _ _ c.div.ensures ∙ ap₂ ◌/◌ (ap g.T.Word.value c.bounded.ensures.same) c.of.ensures)))
    (sign_is g c.before)
