use Rattle.std.proofs.Common.{◌≡◌, ℕ, ◌+◌, ◌-◌, ◌*◌, ◌/◌, ◌%◌, ◌^◌, ◌≤◌, ap, ap₂, ◌∙◌, arith}
use Rattle.numbers.specs.Lossless.{field, plus}
use Rattle.numbers.proofs.Law.Lossless.{added, middle_is}
use Rattle.numbers.proofs.lossless.unstepped.Goals as goal

pub returns : goal.returns
unfolding plus field
returns g c =
    let L = g.met.T.Word in
    let W = g.T.Word.width in
    let m = g.T.Word.fraction in
    let room : m + 2 ≤ W = omega (arith, L.widths_law) in
    let s : ℕ = g.T.Word.value c.args.s in
    let n : ℕ = g.T.Word.value c.added.result in
    let exponent : g.T.Word.value c.div.result ≡ s / 2 ^ (m + 1) = L.div_law _ _ _ c.div.ensures ∙ ap (λ (u : ℕ). s / u) c.unit.ensures in
    let middle : g.T.Word.value c.div-2.result ≡ 2 ^ (W - 2 - m) = L.div_law _ _ _ c.div-2.ensures ∙ ap₂ ◌/◌ (ap g.T.Word.value c.HIGHEST.ensures ∙ L.highest_law) c.unit-2.ensures ∙ middle_is W m room in
    let units : g.T.Word.value c.mul.result ≡ n * 2 ^ (m + 1) = L.mul_law _ _ _ c.mul.ensures ∙ ap (λ (u : ℕ). n * u) c.unit-3.ensures in
    let told = c.added.ensures in
    c.wrapping_add.ensures
    ∙ ap (λ (x : ℕ). (s + x) % 2 ^ W) units
    ∙ added W m room s n c.requires
    (λ e. told.zero (exponent ∙ e))
    (λ a b. told.above_zero (rw exponent a) (rw (exponent, middle) b) ∙ middle)
    (λ a b. told.below_zero (rw exponent a) (rw (exponent, middle) b) ∙ ap (λ (x : ℕ). x + 1) middle)
