-- `stream::header::layout_right` meets its contract.
use mathlib.Core.Path.{◌≡◌, ap}
use mathlib.Core.Bool.{◌&&◌, not}
use Prim.Native.Nat.{ℕ, ◌+◌, ◌*◌, ◌/◌}
use lib.Dec.{leb, ltb, eqb}
use native.Mathlib.Omega.{arith}
use Rattle.stream.specs.Header.{chunks_in, too_many, layout_right}
use Rattle.stream.proofs.header.layout_right.Goals as goal

pub returns : goal.returns
unfolding layout_right too_many chunks_in
returns c =
    let h = c.args.h in
    let is : c.div_ceil.result ≡ (h.count + 1023) / 1024 = omega (arith, c.div_ceil.ensures) in
    ap (λ (n : ℕ). not (ltb 1048576 h.count) && eqb h.chunks n && eqb h.table 48 && eqb h.start (48 + 4 * h.chunks) && leb h.sides 64 && leb h.start h.end && leb h.end c.args.size) is
