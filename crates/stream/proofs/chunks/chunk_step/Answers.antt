-- `stream::chunks::chunk_step` meets its contract.
use Rattle.stream.proofs.Law.Tables.Starts.{placed}
use Rattle.stream.proofs.Law.Rows.Chunks.{found_is, good_row, bad_row}
use Rattle.stream.proofs.Law.Rows.Place.{group_small}
use Rattle.stream.specs.Chunk.{Verdict}
use Rattle.stream.specs.Stream.{chunk_state}
use mathlib.Core.Path.{◌≡◌}
use native.Mathlib.Omega.{arith}
use Rattle.stream.proofs.chunks.chunk_step.Goals as goal
use Rattle.stream.proofs.chunks.chunk_step.Lts as lts
use Rattle.stream.proofs.chunks.chunk_step.Reads as reads
use Rattle.stream.proofs.chunks.chunk_step.Tie as tie

abbrev After-checked : Type 0
After-checked = lts.After-checked tie.the-claims reads.Pre reads.Post

-- what the check found is the chunk's state
state_is : (c : After-checked) (a : Verdict) → c.checked-found.result ≡ a → let s = c.args in chunk_state s.h s.bytes.now s.j ≡ a
state_is c a e =
    let at-setting-in = c.before.before.before in
    let s = c.args in
    found_is s.h s.bytes.now s.j at-setting-in.setting_in-t.result c.count_at.result _ at-setting-in.setting_in-t.ensures.0 c.count_at.ensures.0 c.chunk_at-part.ensures c.checked-found.result a c.checked-found.ensures e

pub setting_in-t-requires : goal.setting_in-t-requires
setting_in-t-requires c = (c.requires.0.words, c.requires.0.setting)

pub chunk_at-part-requires : goal.chunk_at-part-requires
chunk_at-part-requires c =
    let s = c.before in
    let p = s.requires in
    (p.0.layout, placed _ s.args.h s.args.bytes.now p.0.layout p.1 s.args.j p.2, p.2)

pub checked-found-requires : goal.checked-found-requires
checked-found-requires c = (c.setting_in-t.ensures.1, c.count_at.ensures.1)

-- a bad group is below 32
pub overflow_add-result : goal.overflow_add-result
overflow_add-result c =
    let s = c.args in
    let p = c.requires in
    let small = group_small s.h s.bytes.now _ p.0.layout s.j p.2 _ (state_is c.before.before _ c.in-Err.is) in
    omega (arith, small, p.0.layout.few, p.0.layout.chunks)

pub returns-in-Ok : goal.returns-in-Ok
returns-in-Ok c = let s = c.args in good_row s.h s.bytes.now s.j (state_is c.before.before _ c.in-Ok.is)

pub returns-in-Err : goal.returns-in-Err
returns-in-Err c =
    let s = c.args in
    bad_row s.h s.bytes.now s.j _ (state_is c.before.before _ c.in-Err.is)
