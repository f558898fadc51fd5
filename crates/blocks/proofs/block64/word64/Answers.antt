-- `blocks::block64::word64` meets its contract: the code that the bit stands in, without the bits before it, and two codes above it.
use native.Mathlib.Omega.{arith}
use Rattle.blocks.proofs.Law.Word.{second_fits, third_fits, third_full}
use Rattle.blocks.proofs.block64.word64.Goals as goal

pub overflow_add-result : goal.overflow_add-result
overflow_add-result c =
    let a = c.args in
    record { fits = second_fits a.w a.c.now c.requires.4 a.bit (omega arith) c.requires.1 _ c.more64.ensures }

pub overflow_add-result-2 : goal.overflow_add-result-2
overflow_add-result-2 c =
    let a = c.args in
    record { fits = third_fits a.w a.c.now c.requires.4 a.bit (omega arith) c.requires.1 _ c.more64.ensures _ c.more64-2.ensures }

pub returns : goal.returns
returns c =
    let a = c.args in
    third_full a.w a.c.now c.requires.4 a.bit (omega arith) c.requires.1 _ c.more64.ensures _ c.more64-2.ensures c.requires.0
