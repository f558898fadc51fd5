-- What the layout of a header says of its places: all that everything behind the header needs.
use mathlib.Core.Path.{◌≡◌}
use Prim.Native.Nat.{ℕ, ◌+◌, ◌*◌, ◌/◌, ◌%◌, ◌<◌}
use native.Mathlib.Omega.{arith}
use mathlib.Core.Bool.{Bool, true, ◌&&◌, not}
use borrow.Author.Tests.{ltb-false, leb-true, eqb-true, not-true}
use lib.Dec.{leb, ltb, eqb}
use Rattle.stream.specs.Header.{chunks_in, too_many, layout_right}
use Rattle.stream.specs.Relied.{Layout}
use Rattle.stream.specs.Stream.{count_of}
use Rattle.stream.specs.declared.header.Header.{Header}
use Rattle.stream.proofs.Law.Plain.Truth.{and_left, and_right}

all_seven : (a b c d e f g : Bool) → a && b && c && d && e && f && g ≡ true
    → (a ≡ true) × (b ≡ true) × (c ≡ true) × (d ≡ true) × (e ≡ true) × (f ≡ true) × (g ≡ true)
all_seven a b c d e f g t =
    let t6 = and_left (a && b && c && d && e && f) g t in
    let t5 = and_left (a && b && c && d && e) f t6 in
    let t4 = and_left (a && b && c && d) e t5 in
    let t3 = and_left (a && b && c) d t4 in
    let t2 = and_left (a && b) c t3 in (
      and_left a b t2,
      and_right a b t2,
      and_right (a && b) c t3,
      and_right (a && b && c) d t4,
      and_right (a && b && c && d) e t5,
      and_right (a && b && c && d && e) f t6,
      and_right (a && b && c && d && e && f) g t,
    )

pub laid_out : (size : ℕ) (h : Header) → layout_right size h ≡ true → Layout size h
unfolding layout_right too_many chunks_in
laid_out size h e =
    let all =
    all_seven (not (ltb 1048576 h.count)) (eqb h.chunks ((h.count + 1023) / 1024)) (eqb h.table 48)
    (eqb h.start (48 + 4 * h.chunks)) (leb h.sides 64) (leb h.start h.end) (leb h.end size) e in
    record {
      few = ltb-false 1048576 h.count (not-true (ltb 1048576 h.count) all.0);
      chunks = eqb-true h.chunks ((h.count + 1023) / 1024) all.1;
      table = eqb-true h.table 48 all.2;
      start = eqb-true h.start (48 + 4 * h.chunks) all.3;
      sides = leb-true h.sides 64 all.4;
      ordered = leb-true h.start h.end all.5;
      within = leb-true h.end size all.6;
    }

-- a value's place in its chunk is below the chunk's count
pub own_place : (h : Header) (i : ℕ) → i < h.count → i % 1024 < count_of h (i / 1024)
unfolding count_of
own_place h i below = omega arith
