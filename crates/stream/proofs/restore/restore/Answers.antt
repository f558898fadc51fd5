use Rattle.std.proofs.Common.{List, ℕ, ◌≡◌, ◌≤◌, length, refl, ◌∙◌, arith}
use Rattle.stream.specs.Lent.{chosen}
use Rattle.stream.specs.Rows.{first}
use Rattle.stream.specs.Operations.{chunk_rows}
use Rattle.stream.specs.Relied.{Readable}
use Rattle.std.specs.Prelude.{Ok}
use Rattle.stream.proofs.Law.Lent.Chosen.{chosen_long}
use Rattle.stream.proofs.Law.Lent.Landing.{begun, asked_chunk, asked_room, turned_landed, ended}
use Rattle.stream.proofs.restore.restore.Goals as goal
use Rattle.stream.proofs.restore.restore.Lts as lts
use Rattle.stream.proofs.restore.restore.Reads as reads
use Rattle.stream.proofs.restore.restore.Tie as tie

abbrev Start : Type 0
Start = lts.Start tie.the-claims reads.Pre reads.Post goal.the-invariant-loop-j goal.the-decreases-loop-j tie.handed_clauses

abbrev At-loop : Type 0
At-loop = lts.At-loop tie.the-claims reads.Pre reads.Post goal.the-invariant-loop-j goal.the-decreases-loop-j tie.handed_clauses

abbrev start : At-loop → Start
start c = c.before.before.before.before.before.before

abbrev base : Start → List ℕ
base s = let a = s.args in chosen a.h.width a.o32.now a.o64.now

abbrev out : At-loop → List ℕ
out c = chosen (start c).args.h.width c.loop-j.o32 c.loop-j.o64

ready : (s : Start) → let a = s.args in
    Readable a.h.width a.h a.bytes.now × (first (chunk_rows a.h a.bytes.now) ≡ Ok tt) × (a.h.count ≤ length (base s))
ready s = (s.requires.0, s.requires.1, s.requires.2)

pub loop-j-init : goal.loop-j-init
loop-j-init c =
    let a = c.args in
    let q = c.requires in
    (begun a.h.width a.h a.bytes.now (chosen a.h.width a.o32.now a.o64.now) (q.0, q.1, q.2), refl, refl, refl, refl)

pub restore_chunk-requires : goal.restore_chunk-requires
restore_chunk-requires c =
    let a = c.args in
    let q = c.requires in
    let l = c.loop-j in
    let base : List ℕ = chosen a.h.width a.o32.now a.o64.now in
    let out : List ℕ = chosen a.h.width l.o32 l.o64 in
    let chunk = asked_chunk a.h.width a.h a.bytes.now base (q.0, q.1, q.2) l.j out l.invariant.0 c.loop-j-test.true in
    let room = asked_room a.h.width a.h a.bytes.now base (q.0, q.1, q.2) l.j out l.invariant.0 c.loop-j-test.true in record {
      opened = (q.0.opened, c.loop-j-test.true, chunk.0, chunk.1);
      place_bound = (room.0, room.1, omega (arith, q.3, chosen_long a.h.width a.c32.now a.c64.now l.c32 l.c64 l.invariant.3 l.invariant.4));
    }

pub loop-j-preserved : goal.loop-j-preserved
loop-j-preserved c =
    let a = c.args in
    let q = c.requires in
    let l = c.loop-j in
    let r = c.restore_chunk in
    let base : List ℕ = chosen a.h.width a.o32.now a.o64.now in
    let out : List ℕ = chosen a.h.width l.o32 l.o64 in (
      turned_landed a.h.width a.h a.bytes.now base (q.0, q.1, q.2) l.j out l.invariant.0 c.loop-j-test.true _ r.ensures,
      r.auto.o32 ∙ l.invariant.1,
      r.auto.o64 ∙ l.invariant.2,
      r.auto.c32 ∙ l.invariant.3,
      r.auto.c64 ∙ l.invariant.4,
    )

pub returns : goal.returns
returns c =
    let a = c.args in
    let q = c.requires in
    let l = c.loop-j in
    ended a.h.width a.h a.bytes.now (chosen a.h.width a.o32.now a.o64.now) (q.0, q.1, q.2) l.j (chosen a.h.width l.o32 l.o64) l.invariant.0 c.loop-j-test.false
