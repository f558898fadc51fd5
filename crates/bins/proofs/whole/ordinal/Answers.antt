-- `bins::whole::ordinal` meets its contract.
use Rattle.std.proofs.Common.{◌≡◌, ℕ, suc, ◌+◌, ◌-◌, ◌*◌, ◌/◌, ◌%◌, ◌^◌, ◌<◌, ◌≤◌, ◌⊎◌, sym, ap, ◌∙◌, ap₂, arith, pow_pos}
use native.Mathlib.Nat.{two-pow-succ}
use lib.Count.{count_leading_zeros, leading_unique}
use Rattle.bins.specs.Tolerance.{restored_ordinal}
use Rattle.bins.proofs.Law.Straight.{some_is, some_small, restored_straight, restored_fits, exponent_fits, rest_fits, shift_small}
use Rattle.bins.proofs.whole.ordinal.Goals as goal

-- the leading zeros of the implicit one
unit_zeros : (W m : ℕ) → m + 3 ≤ W → count_leading_zeros W (2 ^ m) ≡ W - suc m
unit_zeros W m room = sym (leading_unique W (2 ^ m) (W - suc m) (suc m) (omega arith) (omega (arith, two-pow-succ m, pow_pos m)) (omega (arith, two-pow-succ m)))

-- `some`, and what of j the significand has no room for
abbrev some : (g : _) → goal.After-past-rest g → ℕ
some g c = (g.T.Word.value c.args.u + (2 ^ (g.T.Word.width - 1) - 1)) / 2 ^ (g.T.Word.width - 1)

abbrev rest : (g : _) → goal.After-past-rest g → ℕ
rest g c = g.T.Word.value c.args.j - (count_leading_zeros g.T.Word.width (g.T.Word.value c.args.u) - (g.T.Word.width - suc g.T.Word.fraction))

one : (g : _) (c : goal.After-past-rest g) → ((g.T.Word.value c.args.u ≡ 0) × (some g c ≡ 0)) ⊎ ((0 < g.T.Word.value c.args.u) × (some g c ≡ 1))
one g c = some_is (2 ^ (g.T.Word.width - 1)) (g.T.Word.value c.args.u) c.requires.0

some_value : (g : _) (c : goal.After-past-rest g) → g.T.Word.value c.div-some.result ≡ some g c
some_value g c =
    let w = g.met.T.Word in
    w.div_law _ _ _ c.div-some.ensures
    ∙ ap₂ ◌/◌
    (w.add_law _ _ _ c.add.ensures
    ∙ ap (λ (n : ℕ). g.T.Word.value c.args.u + n) (w.sub_law _ _ _ c.sub.ensures ∙ ap₂ ◌-◌ (ap g.T.Word.value c.HIGHEST.ensures ∙ w.highest_law) c.of.ensures))
    (ap g.T.Word.value c.HIGHEST-2.ensures ∙ w.highest_law)

rest_value : (g : _) (c : goal.After-past-rest g) → g.T.Word.value c.past-rest.result ≡ rest g c
rest_value g c =
    let w = g.met.T.Word in
    c.past-rest.ensures
    ∙ ap (λ (n : ℕ). g.T.Word.value c.args.j - n)
    (c.of_u32.ensures ∙ c.past-room.ensures
    ∙ ap₂ ◌-◌ c.leading_zeros.ensures
    (c.leading_zeros-2.ensures ∙ ap (λ (n : ℕ). count_leading_zeros g.T.Word.width n) (ap g.T.Word.value c.UNIT.ensures ∙ w.unit_law)
    ∙ unit_zeros g.T.Word.width g.T.Word.fraction w.widths_law))

pub mul-requires : goal.mul-requires
mul-requires g c =
    let w = g.met.T.Word in
    w.can_mul_law _ _
    (rw (some_value g c, rest_value g c)
    (rest_fits g.T.Word.width g.T.Word.fraction w.widths_law (g.T.Word.value c.args.u) (g.T.Word.value c.args.j) c.requires.0 c.requires.1 (some g c) (some_small (one g c))))

pub mul-requires-2 : goal.mul-requires-2
mul-requires-2 g c =
    let w = g.met.T.Word in
    let e = c.before.before in
    w.can_mul_law _ _
    (rw (w.mul_law _ _ _ c.mul.ensures, some_value g e, rest_value g e, c.UNIT-2.ensures, w.unit_law)
    (exponent_fits g.T.Word.width g.T.Word.fraction w.widths_law (g.T.Word.value c.args.u) (g.T.Word.value c.args.j) c.requires.0 c.requires.1 (some g e) (some_small (one g e))))

shift_value : (g : _) (c : goal.After-sub-2 g) → let e = c.before.before.before.before in g.T.Word.value c.sub-2.result ≡ g.T.Word.value c.args.j - rest g e
shift_value g c = g.met.T.Word.sub_law _ _ _ c.sub-2.ensures ∙ ap (λ (n : ℕ). g.T.Word.value c.args.j - n) (rest_value g c.before.before.before.before)

pub shl-requires : goal.shl-requires
shl-requires g c =
    let w = g.met.T.Word in
    w.can_shl_law _ _
    (rw (shift_value g c) (shift_small g.T.Word.width g.T.Word.fraction w.widths_law (g.T.Word.value c.args.u) (g.T.Word.value c.args.j) c.requires.0 c.requires.1))

-- both parts: the exponent and the significand
exponent_value : (g : _) (c : goal.After-shl g) → let e = c.before.before.before.before.before in
    g.T.Word.value c.mul-2.result ≡ some g e * rest g e * 2 ^ g.T.Word.fraction
exponent_value g c =
    let w = g.met.T.Word in
    let e = c.before.before.before.before.before in
    w.mul_law _ _ _ c.mul-2.ensures ∙ ap₂ ◌*◌ (w.mul_law _ _ _ c.mul.ensures ∙ ap₂ ◌*◌ (some_value g e) (rest_value g e)) (ap g.T.Word.value c.UNIT-2.ensures ∙ w.unit_law)

moved_value : (g : _) (c : goal.After-shl g) → let e = c.before.before.before.before.before in
    g.T.Word.value c.shl.result ≡ g.T.Word.value c.args.u * 2 ^ (g.T.Word.value c.args.j - rest g e) % 2 ^ g.T.Word.width
moved_value g c =
    g.met.T.Word.shl_law _ _ _ c.shl.ensures ∙ ap (λ (n : ℕ). g.T.Word.value c.args.u * 2 ^ n % 2 ^ g.T.Word.width) (shift_value g c.before)

sum_is : (g : _) (c : goal.After-shl g) → g.T.Word.value c.mul-2.result + g.T.Word.value c.shl.result ≡ restored_ordinal g.T.Word.fraction (g.T.Word.value c.args.j) (g.T.Word.value c.args.u)
sum_is g c =
    let e = c.before.before.before.before.before in
    ap₂ ◌+◌ (exponent_value g c) (moved_value g c)
    ∙ restored_straight g.T.Word.width g.T.Word.fraction g.met.T.Word.widths_law (g.T.Word.value c.args.u) (g.T.Word.value c.args.j) c.requires.0 c.requires.1 (some g e) (one g e)

pub add-requires-2 : goal.add-requires-2
add-requires-2 g c =
    let w = g.met.T.Word in
    w.can_add_law _ _
    (rw (sum_is g c) (restored_fits g.T.Word.width g.T.Word.fraction w.widths_law (g.T.Word.value c.args.u) (g.T.Word.value c.args.j) c.requires.0 c.requires.1))

pub returns : goal.returns
returns g c = g.met.T.Word.add_law _ _ _ c.add-2.ensures ∙ sum_is g c.before
