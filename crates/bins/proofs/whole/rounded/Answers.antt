-- `bins::whole::rounded` meets its contract.
use Rattle.std.proofs.Common.{◌≡◌, ℕ, zero, suc, ◌+◌, ◌-◌, ◌*◌, ◌/◌, ◌%◌, ◌^◌, ◌<◌, ◌≤◌, sym, ap, ◌∙◌, ap₂, arith, lit≤, eqb-true}
use Rattle.std.proofs.lemmas.Bool.{eqb-false}
use native.Mathlib.Nat.{two-pow-succ}
use Rattle.bins.proofs.Law.Nearest.{over}
use Rattle.bins.proofs.Law.Working.{rounded_fits, rounded_half, rounded_other}
use Rattle.bins.proofs.whole.rounded.Goals as goal

fits : (W m s q : ℕ) → q < 2 ^ (m + 1) → s ≤ m + 2 → m + 3 ≤ W → 2 * q + 1 * 2 ^ s % 2 ^ W < 2 ^ W
fits W m s q h l room = rounded_fits W (m + 1) s q h (omega arith) (omega arith)

pub mul-requires : goal.mul-requires
mul-requires g c =
    let w = g.met.T.Word in
    w.can_mul_law _ _ (rw c.of.ensures (omega (arith, fits g.T.Word.width g.T.Word.fraction (g.T.Word.value c.args.s) (g.T.Word.value c.args.q) c.requires.0 c.requires.1 w.widths_law)))

pub add-sum-requires : goal.add-sum-requires
add-sum-requires g c =
    let w = g.met.T.Word in
    w.can_add_law _ _
    (rw (w.mul_law _ _ _ c.mul.ensures, c.of.ensures, w.shl_law _ _ _ c.shl.ensures, c.of-2.ensures)
    (fits g.T.Word.width g.T.Word.fraction (g.T.Word.value c.args.s) (g.T.Word.value c.args.q) c.requires.0 c.requires.1 w.widths_law))

lt_pow : (n : ℕ) → n < 2 ^ n
lt_pow zero = lit≤ tt
lt_pow (suc n) = omega (arith, two-pow-succ n, lt_pow n)

-- a number of places is a word
places_fit : (W s : ℕ) → s + 1 < W → s + 1 < 2 ^ W
places_fit W s h = omega (arith, lt_pow W)

pub add-requires : goal.add-requires
add-requires g c = let w = g.met.T.Word in w.can_add_law _ _ (rw c.of-3.ensures (places_fit g.T.Word.width _ c.requires.2))

pub add-requires-2 : goal.add-requires-2
add-requires-2 g c = let w = g.met.T.Word in w.can_add_law _ _ (rw c.of-4.ensures (places_fit g.T.Word.width _ c.requires.2))

sum_is : (g : _) (c : goal.After-of-4 g)
    → g.T.Word.value c.add-sum.result ≡ 2 * g.T.Word.value c.args.q + 1 * 2 ^ g.T.Word.value c.args.s % 2 ^ g.T.Word.width
sum_is g c =
    let w = g.met.T.Word in
    w.add_law _ _ _ c.add-sum.ensures
    ∙ ap₂ ◌+◌ (w.mul_law _ _ _ c.mul.ensures ∙ ap (λ (n : ℕ). n * g.T.Word.value c.args.q) c.of.ensures)
    (w.shl_law _ _ _ c.shl.ensures ∙ ap (λ (n : ℕ). n * 2 ^ g.T.Word.value c.args.s % 2 ^ g.T.Word.width) c.of-2.ensures)

upper_is : (g : _) (c : goal.After-of-4 g)
    → g.T.Word.value c.shr-upper.result ≡ (2 * g.T.Word.value c.args.q + 1 * 2 ^ g.T.Word.value c.args.s % 2 ^ g.T.Word.width) / 2 ^ (g.T.Word.value c.args.s + 1)
upper_is g c =
    let w = g.met.T.Word in
    w.shr_law _ _ _ c.shr-upper.ensures
    ∙ ap₂ (λ (a b : ℕ). a / 2 ^ b) (sum_is g c) (w.add_law _ _ _ c.add.ensures ∙ ap (λ (n : ℕ). g.T.Word.value c.args.s + n) c.of-3.ensures)

-- and shifted back
shifted_back : (g : _) (c : goal.After-of-4 g) (places back : _) → g.T.Add.add_gives c.args.s c.of-4.result places → g.T.Shl.shl_gives c.shr-upper.result places back
    → g.T.Word.value back ≡ (2 * g.T.Word.value c.args.q + 1 * 2 ^ g.T.Word.value c.args.s % 2 ^ g.T.Word.width) / 2 ^ (g.T.Word.value c.args.s + 1) * 2 ^ (g.T.Word.value c.args.s + 1) % 2 ^ g.T.Word.width
shifted_back g c places back added shifted =
    let w = g.met.T.Word in
    w.shl_law _ _ _ shifted
    ∙ ap₂ (λ (a b : ℕ). a * 2 ^ b % 2 ^ g.T.Word.width) (upper_is g c) (w.add_law _ _ _ added ∙ ap (λ (n : ℕ). g.T.Word.value c.args.s + n) c.of-4.ensures)

pub returns-then-eq : goal.returns-then-eq
returns-then-eq g c =
    let w = g.met.T.Word in
    let e = c.before.before.before.before.before.before.before in
    let back = shifted_back g e _ _ c.add-2.ensures c.shl-2.ensures in
    w.sub_law _ _ _ c.sub.ensures ∙ ap (λ (n : ℕ). n - g.T.Word.value c.odd.result) (upper_is g e)
    ∙ rounded_half g.T.Word.width (g.T.Word.fraction + 1) (g.T.Word.value c.args.s) (g.T.Word.value c.args.q) c.requires.0 (omega (arith, c.requires.1)) (omega (arith, w.widths_law))
    c.args.halves (g.T.Word.value c.odd.result) (c.odd.ensures ∙ ap (over c.args.halves) (upper_is g e))
    (sym (sum_is g e) ∙ eqb-true _ _ (sym (w.eq_law _ _) ∙ sym c.eq.ensures ∙ c.if-eq.true) ∙ back)

pub returns-else-eq : goal.returns-else-eq
returns-else-eq g c =
    let w = g.met.T.Word in
    let e = c.before.before.before.before.before in
    let back = shifted_back g e _ _ c.add-2.ensures c.shl-2.ensures in
    upper_is g e
    ∙ rounded_other g.T.Word.width (g.T.Word.fraction + 1) (g.T.Word.value c.args.s) (g.T.Word.value c.args.q) c.requires.0 (omega (arith, c.requires.1)) (omega (arith, w.widths_law))
    c.args.halves (λ h. eqb-false _ _ (sym (w.eq_law _ _) ∙ sym c.eq.ensures ∙ c.if-eq.false) (sum_is g e ∙ h ∙ sym (back)))
