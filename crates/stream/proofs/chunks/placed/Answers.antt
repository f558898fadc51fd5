-- `stream::chunks::placed` meets its contract.
use Prim.Native.Nat.{ℕ, ◌-◌}
use mathlib.Core.Bool.{◌&&◌}
use mathlib.Core.Path.{ap₂}
use lib.Dec.{leb, ltb}
use Rattle.stream.specs.Access.{chunk_placed}
use Rattle.stream.specs.Tables.{start_right}
use Rattle.stream.proofs.chunks.placed.Goals as goal

pub returns : goal.returns
unfolding chunk_placed start_right
returns c =
    let h = c.args.h in
    ap₂ (λ (a b : ℕ). ltb a b && leb b (h.end - h.start)) c.start_at-from.ensures c.start_at-to.ensures
