-- `stream::group_checked::as_wide` meets its contract: width less leading zeros is the bit length.
-- Assumes nothing.
use mathlib.Core.Path.{ap}
use Prim.Native.Nat.{ℕ}
use native.Mathlib.Omega.{arith}
use lib.Count.{leading_le}
use lib.Dec.{eqb}
use Rattle.words.proofs.Bits.{size_leading}
use Rattle.stream.proofs.group_checked.as_wide.Goals as goal

pub overflow_cast-result : goal.overflow_cast-result
overflow_cast-result c = omega (arith, leading_le 64 c.args.code)

pub overflow_sub-result : goal.overflow_sub-result
overflow_sub-result c = leading_le 64 c.args.code

pub returns : goal.returns
returns c = ap (λ (d : ℕ). eqb d c.args.w) (size_leading 64 c.args.code c.ranges.code.fits)
