-- `blocks::block64::packed64_wide` meets its contract: what the arms leave of 33 to 64 is 64.
use mathlib.Core.Path.{◌≡◌}
use native.Mathlib.Omega.{arith}
use Rattle.blocks.proofs.block64.packed64_wide.Goals as goal

pub returns-in_default : goal.returns-in_default
returns-in_default c =
    let left : c.args.w ≡ 64 = omega (arith, c.in_default.in_default-own.rest) in
    rw left c.runs-in_default.ensures
