-- `numbers::bound::bound_at` meets its contract.
use Rattle.std.proofs.Common.{◌≡◌, ℕ, suc, ◌-◌, ◌^◌, ◌<◌, ℤ, min, Ok, to_z-of_z, sym, ap, ◌∙◌, ap₂, arith, w32}
use lib.IntN.{sub_ℕ}
use lib.Ieee.{size}
use Rattle.bins.specs.Tolerance.{k_offset, last_bin, magnitude}
use Rattle.numbers.specs.Bound.{exponent_of}
use Rattle.numbers.proofs.Law.Bound.{tolerance_some, refused_is, bound_none, bound_is, magnitude_some, difference_is}
use Rattle.numbers.proofs.bound.bound_at.Goals as goal

pub returns-then-not-some : goal.returns-then-not-some
returns-then-not-some g c = refused_is g.T.Word.width g.T.Word.fraction c.args.t (sym c.is_tolerance-some.ensures ∙ c.if-not-some.true)

pub returns-then-d-LIFT : goal.returns-then-d-LIFT
returns-then-d-LIFT g c =
    let some = sym c.is_tolerance-some.ensures ∙ c.if-not-some.false in
    sym
    (bound_none g.T.Word.width g.T.Word.fraction c.args.t (magnitude_some 52 c.args.t (tolerance_some c.args.t some)) some
    (omega (arith, c.digits_of-d.ensures, c.LIFT.ensures, g.met.T.Kernel.lift_law, c.if-d-LIFT.true)))

pub returns : goal.returns
unfolding exponent_of
returns g c =
    let law = g.met.T.Kernel in
    let some = sym c.is_tolerance-some.ensures ∙ c.if-not-some.false in
    let least = to_z-of_z {w = w32} (record { sfits = c.LEAST.type_inv }) ∙ c.LEAST.ensures ∙ law.least_law in
    let lift = c.LIFT-2.ensures ∙ law.lift_law in
    let small : c.clipped.result < 2 ^ 31 = omega (arith, c.clipped.ensures, law.last_law, law.few_law) in
    let fits : suc g.T.Kernel.least < 2 ^ 31 = omega (arith, law.bins_law, law.few_law) in
    let bin : sub_ℕ c.clipped.result (suc g.T.Kernel.least) ≡ exponent_of g.T.Word.width g.T.Word.fraction (min (size (magnitude 52 c.args.t) - (k_offset 64 52 - k_offset g.T.Word.width g.T.Word.fraction)) (last_bin g.T.Word.width g.T.Word.fraction)) =
    ap₂ sub_ℕ (c.clipped.ensures ∙ ap₂ (λ (d l : ℕ). min (d - l) (last_bin g.T.Word.width g.T.Word.fraction)) c.digits_of-d.ensures lift) law.offset_law in
    rw least
    (ap (λ (k : ℤ). Ok k) (difference_is w32 c.clipped.result g.T.Kernel.least small fits ∙ bin)
    ∙ sym (bound_is g.T.Word.width g.T.Word.fraction c.args.t (magnitude_some 52 c.args.t (tolerance_some c.args.t some)) some
    (omega (arith, c.digits_of-d.ensures, c.LIFT.ensures, law.lift_law, c.if-d-LIFT.false))))
