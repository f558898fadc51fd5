-- `blocks::block32::put32` meets its contract: a word, or half of one, or none.
use mathlib.Core.Path.{refl, ◌∙◌}
use Prim.Native.Nat.{◌*◌, ◌^◌}
use native.Mathlib.Omega.{arith}
use Rattle.blocks.specs.Bytes.{number}
use Rattle.blocks.proofs.Law.Put.{put_word, put_half, put_none}
use Rattle.blocks.proofs.block32.put32.Goals as goal

pub returns-then-k-w : goal.returns-then-k-w
returns-then-k-w c =
    let a = c.args in
    c.store.ensures ∙ put_word a.w a.k (number (2 ^ a.w) a.c.now) a.out.now (8 * a.k) _ refl c.word32.ensures c.if-k-w.true

pub returns-then-k-w-2 : goal.returns-then-k-w-2
returns-then-k-w-2 c =
    let a = c.args in
    c.half.ensures ∙ put_half a.w a.k (number (2 ^ a.w) a.c.now) a.out.now (8 * a.k) _ refl c.word32-then-k-w-2.ensures c.if-k-w-2.true

pub returns-else-k-w-2 : goal.returns-else-k-w-2
returns-else-k-w-2 c = let a = c.args in put_none a.w a.k (number (2 ^ a.w) a.c.now) a.out.now (omega arith)
