use Prim.Native.Nat.{◌*◌, ◌^◌}
use Rattle.blocks.specs.Bytes.{number}
use Rattle.blocks.specs.Put.{Standing}
use Rattle.blocks.proofs.block64.run.Given as goal

abbrev pub invariant-loop-k : goal.invariant-loop-k
invariant-loop-k l = Standing l.w (8 * l.k) (number (2 ^ l.w) l.c) l.initial.out l.out
