-- `stream::chunks::chunk_on` meets its contract.
use mathlib.Core.Path.{ap, ◌∙◌}
use Prim.Native.Nat.{ℕ, ◌+◌, ◌≤◌}
use native.Mathlib.Omega.{arith}
use lib.ListN.{length, drop}
use Rattle.stream.proofs.Law.Chunk.Checking.{part_is}
use Rattle.stream.proofs.chunks.chunk_on.Goals as goal
use Rattle.stream.proofs.chunks.chunk_on.Lts as lts
use Rattle.stream.proofs.chunks.chunk_on.Reads as reads
use Rattle.stream.proofs.chunks.chunk_on.Tie as tie

abbrev After-start_at : Type 0
After-start_at = lts.After-start_at tie.the-claims reads.Pre reads.Post

inside : (c : After-start_at) → let a = c.args in a.h.start + c.start_at.result ≤ length a.bytes.now
inside c =
    let s = c in
    omega (arith, s.requires.1, c.start_at.ensures, s.requires.0.within)

pub overflow_add-from : goal.overflow_add-from
overflow_add-from c = let s = c.before in omega (arith, inside c.before.before, s.well_formed)

pub slice_bounds-result-count : goal.slice_bounds-result-count
slice_bounds-result-count c = inside c.before.before

pub slice_bounds-result-start : goal.slice_bounds-result-start
slice_bounds-result-start c = inside c.before.before

pub returns : goal.returns
returns c =
    let a = c.args in
    part_is a.bytes.now (a.h.start + c.start_at.result) ∙ ap (λ (n : ℕ). drop (a.h.start + n) a.bytes.now) c.start_at.ensures
