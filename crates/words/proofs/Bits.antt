-- The bit length of a number from the zeros above it.
use mathlib.Core.Path.{◌≡◌}
use Prim.Native.Nat.{ℕ, suc, ◌-◌, ◌^◌, ◌≤◌, ◌<◌}
use native.Mathlib.Nat.{lt_of_not-le, le_of_suc-le-suc, two-pow-succ}
use native.Mathlib.Omega.{arith}
use lib.Count.{count_leading_zeros, leading_length}
use lib.Ieee.{size}
use lib.Ieee.Digits.{size-lt, size-le}
use lib.Pow.{pow_mono}

-- "Width less leading zeros"
pub size_leading : (k a : ℕ) → a < 2 ^ k → k - count_leading_zeros k a ≡ size a
size_leading k a h =
    let l = leading_length k a h in
    let least : l.0 ≤ size a =
    le_of_suc-le-suc (lt_of_not-le (λ (g : suc (size a) ≤ l.0). omega (arith, pow_mono g, l.3, size-lt a, two-pow-succ (size a)))) in
    omega (arith, size-le a l.0 l.2, l.1)
