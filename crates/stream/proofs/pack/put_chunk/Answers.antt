-- `stream::pack::put_chunk` meets its contract.
use Prim.Native.Nat.{ℕ, ◌+◌, ◌*◌, ◌≤◌}
use Rattle.stream.proofs.Law.Lent.Chosen.{chosen_below}
use Rattle.stream.proofs.Law.Lent.Codes.{chosen_parts, lent_piece}
use Rattle.stream.proofs.Law.Written.Unfinished.{Turn, turn, start_put, chunk_put}
use Rattle.stream.proofs.Law.Written.Pieces.{length_piece}
use Rattle.stream.specs.Chunk.{chunk_bytes}
use Rattle.stream.specs.Header.{chunks_in}
use Rattle.stream.specs.Lent.{chosen, lent_codes}
use Rattle.stream.specs.Setting.{group_size}
use Rattle.stream.specs.Writing.{piece_bytes}
use lib.ListN.{length, length-take, length-drop}
use mathlib.Core.List.{List}
use mathlib.Core.Path.{◌≡◌, refl, ap, ◌∙◌}
use native.Mathlib.Omega.{arith}
use Rattle.stream.proofs.pack.put_chunk.Goals as goal
use Rattle.stream.proofs.pack.put_chunk.Lts as lts
use Rattle.stream.proofs.pack.put_chunk.Reads as reads
use Rattle.stream.proofs.pack.put_chunk.Tie as tie

abbrev Start : Type 0
Start = lts.Start tie.the-claims reads.Pre reads.Post tie.handed_clauses

abbrev After-chunks_of : Type 0
After-chunks_of = lts.After-chunks_of tie.the-claims reads.Pre reads.Post tie.handed_clauses

abbrev After-part64 : Type 0
After-part64 = lts.After-part64 tie.the-claims reads.Pre reads.Post tie.handed_clauses

-- the call's own, where the chunks are counted, and the list of the width
abbrev start : After-chunks_of → Start
start c = c.before.before.before.before.before.before

abbrev values : After-chunks_of → List ℕ
values c = let a = (start c).args in chosen a.t.width a.v32.now a.v64.now

counts : (c : After-chunks_of) → c.chunks_of.result ≡ chunks_in (length (values c))
counts c = c.chunks_of.ensures.0 ∙ ap chunks_in c.count.ensures

few : (c : After-chunks_of) → (start c).args.j ≤ 1024
few c = omega (arith, counts c, (start c).requires.allowed.2, c.chunks_of.ensures.1)

here : (c : After-chunks_of) → let a = (start c).args in Turn a.t (values c) a.j a.start c.chunks_of.result (length a.out.now)
here c =
    let s = start c in
    let a = s.args in
    let known = s.requires.allowed.0.known in
    turn a.t (values c) a.j a.start c.chunks_of.result (length a.out.now) known
    (chosen_below a.t.width a.v32.now a.v64.now known (λ i. (c.shared_slice_known-1.given i).fits) (λ i. (c.shared_slice_known-2-1.given i).fits))
    s.requires.allowed.1 s.requires.allowed.2 s.requires.start_value.0 (counts c) s.requires.start_value.1

-- what is lent to the chunk's writer is the piece
bytes : (c : After-part64) → let e = c.before.before.before.before.before.before in let a = (start e).args in
    chunk_bytes (group_size a.t) (lent_codes a.t c.part32.result.now c.part64.result.now) ≡ piece_bytes a.t (values e) a.j
bytes c = let a = (start c.before.before.before.before.before.before).args in lent_piece a.t a.v32.now a.v64.now _ _ a.j c.part32.ensures c.part64.ensures

-- the place is within the output, which kept its length
within : (c : After-part64) → let p = c.before.before.before.before.before.before in 48 + 4 * p.chunks_of.result + (start p).args.start ≤ length c.put_word.new.out
within c = let t = here c.before.before.before.before.before.before in omega (arith, t.next_place, t.fits, c.put_word.auto.out)

pub overflow_add-at-2 : goal.overflow_add-at-2
overflow_add-at-2 c = omega (arith, (here c.before).next_place, (here c.before).small)

pub overflow_mul-j : goal.overflow_mul-j
overflow_mul-j c = omega (arith, few c.before.before)

pub overflow_add-j : goal.overflow_add-j
overflow_add-j c = omega (arith, few c.before.before)

pub overflow_cast-start : goal.overflow_cast-start
overflow_cast-start c = omega (arith, (here c.before.before).next_place, (here c.before.before).small)

pub put_word-requires : goal.put_word-requires
put_word-requires c = (here c.before.before).table

pub part32-requires : goal.part32-requires
part32-requires c = few c.before.before.before.before.before

pub part64-requires : goal.part64-requires
part64-requires c = few c.before.before.before.before.before.before

pub slice_bounds-written-count : goal.slice_bounds-written-count
slice_bounds-written-count c = within c.before.before

pub slice_bounds-written-start : goal.slice_bounds-written-start
slice_bounds-written-start c = within c.before.before

pub written-requires : goal.written-requires
written-requires c =
    let p = c.before.before.before in
    let e = p.before.before.before.before.before.before in
    let s = start e in
    let a = s.args in
    let t = here e in record {
      allowed = (
        s.requires.allowed.0,
        rw (chosen_parts a.t.width a.v32.now a.v64.now _ _ a.j p.part32.ensures p.part64.ensures, length_piece) (omega arith),
        rw (p.part32.ensures, length_piece) (omega (arith, s.requires.allowed.3)),
      );
      v64_in_bounds = rw (bytes p, length-take, length-drop) (omega (arith, t.next_place, t.fits, p.put_word.auto.out));
    }

pub overflow_add-result : goal.overflow_add-result
overflow_add-result c =
    let p = c.before.before.before.before.before.before.before.before in
    let t = here p.before.before.before.before.before.before in
    omega (arith, t.next_place, t.small, c.written.ensures.value ∙ ap length (bytes p))

pub returns : goal.returns
returns c =
    let r = c.written in
    let p = c.before.before.before.before.before.before.before.before in
    let put = p.put_word in
    let e = p.before.before.before.before.before.before in
    let t = here e in
    let s = start e in
    let a = s.args in record {
      value = ap (λ (n : ℕ). a.start + n) (r.ensures.value ∙ ap length (bytes p)) ∙ t.next;
      by_index = λ level base from.
          chunk_put level a.t (values e) base a.j s.requires.allowed.2 put.new.out _ r.new.out _ r.result
          (put.ensures ∙ start_put level a.t (values e) base a.j s.requires.allowed.2 (48 + 4 * a.j) a.start a.out.now refl s.requires.start_value.0 from)
          (bytes p) t.place (omega (arith, t.fits, put.auto.out)) r.ensures.value r.ensures.out_after;
    }
