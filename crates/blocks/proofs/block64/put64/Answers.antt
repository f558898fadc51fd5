-- `blocks::block64::put64` meets its contract: a word at the next place, or at the last that has room for it, or none.
use Prim.Native.Nat.{◌-◌, ◌^◌}
use native.Mathlib.Omega.{arith}
use Rattle.blocks.specs.Bytes.{number}
use Rattle.blocks.proofs.Law.Put.{standing_word}
use Rattle.blocks.proofs.block64.put64.Goals as goal

pub returns-then-at-w : goal.returns-then-at-w
returns-then-at-w c base s =
    let a = c.args in
    standing_word a.w a.at a.at (number (2 ^ a.w) a.c.now) _ base a.out.now _ (omega arith) (omega arith) (omega arith) (omega arith) c.word64.ensures c.store.ensures s

pub returns-then-at-w-2 : goal.returns-then-at-w-2
returns-then-at-w-2 c base s =
    let a = c.args in
    standing_word a.w a.at (a.w - 8) (number (2 ^ a.w) a.c.now) _ base a.out.now _
    (omega arith) (omega arith) (omega arith) (omega arith) c.word64-then-at-w-2.ensures c.store-then-at-w-2.ensures s
