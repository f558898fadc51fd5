-- `blocks::block32::block32` meets its contract: four words more at each call.
use Prim.Native.Nat.{◌*◌, ◌^◌}
use native.Mathlib.Omega.{arith}
use Rattle.blocks.specs.Bytes.{number}
use Rattle.blocks.proofs.Law.Put.{standing_none, standing_all, stands_four}
use Rattle.blocks.proofs.block32.block32.Goals as goal

pub returns : goal.returns
returns c =
    let w = c.args.w in
    let n = number (2 ^ w) c.args.c.now in
    let base = c.args.out.now in
    let one = stands_four w n base 0 base _ (standing_none (4 * w) n base) c.four32.ensures in
    let two = stands_four w n base 4 _ _ one c.four32-2.ensures in
    let three = stands_four w n base 8 _ _ two c.four32-3.ensures in
    standing_all (4 * w) 128 n base _ (omega (arith, c.requires.1)) (stands_four w n base 12 _ _ three c.four32-4.ensures)
