-- What the machine asks of a signed number that is cast to unsigned, once over its width.
use Rattle.std.proofs.Common.{◌≡◌, ℕ, ◌+◌, ◌*◌, ◌^◌, ◌<◌, T, ℤ, pos, nat_abs, ◌∙◌, arith, Fits}
use lib.Signed.{non_neg}
use mir.Syntax.{Width}
use mir.Val.{bits, hbits}
use mir.ValLaws.{pow-bits}

module _ (w : Width) where
  pub half_twice : 2 ^ bits w ≡ 2 ^ hbits w + 2 ^ hbits w
  half_twice = let e : 2 ^ hbits w * 2 ≡ 2 ^ hbits w + 2 ^ hbits w = omega arith in pow-bits w ∙ e

  -- y is cast where it is a natural number of the lower half
  pub cast_fits : (y : ℤ) (n : ℕ) → y ≡ pos n → n < 2 ^ hbits w → T (non_neg y) × Fits w (nat_abs y)
  cast_fits y n is small = rw is (tt, record { fits = omega (arith, half_twice) })
