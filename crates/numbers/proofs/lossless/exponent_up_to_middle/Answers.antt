use Rattle.std.proofs.Common.{ap, ap₂, ◌∙◌, ◌+◌, ◌-◌, ◌^◌, ◌&&◌, ◌≡◌, ℕ, Bool, arith, refl, nat_lt, nat_le}
use Rattle.numbers.proofs.Law.Lossless.{low_test}
use Rattle.numbers.proofs.lossless.exponent_up_to_middle.Goals as goal

pub returns : goal.returns
returns g c =
    let L = g.met.T.Word in
    let w = g.T.Word.value in
    let sum : w c.add.result ≡ 2 ^ (g.T.Word.width - 1) + 2 ^ (g.T.Word.fraction + 1) = L.add_law _ _ _ c.add.ensures ∙ rw (c.HIGHEST.ensures, L.highest_law, c.unit-2.ensures) refl in
    ap₂ (λ (a b : Bool). a && b) (c.le.ensures ∙ L.le_law _ _ ∙ ap (λ (n : ℕ). nat_le n (w c.args.r)) c.unit.ensures) (c.lt.ensures ∙ L.lt_law _ _ ∙ ap (nat_lt (w c.args.r)) sum)
    ∙ low_test g.T.Word.width g.T.Word.fraction (omega (arith, L.widths_law)) (w c.args.r)
