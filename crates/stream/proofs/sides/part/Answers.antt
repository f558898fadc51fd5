-- `stream::sides::part` meets its contract.
use Prim.Native.Nat.{ℕ, ◌+◌, ◌*◌, ◌≤◌, ◌<◌}
use mathlib.Core.Bool.{true}
use mathlib.Core.List.{List}
use mathlib.Core.Path.{◌≡◌, sym, ◌∙◌}
use native.Mathlib.Omega.{arith}
use lib.ListN.{length}
use Rattle.stream.specs.Access.{header_right, has_id, entry_of}
use Rattle.stream.specs.Tables.{side_place, side_length, ids_in}
use Rattle.stream.specs.Relied.{Layout}
use Rattle.stream.specs.declared.header.Header.{Header}
use Rattle.stream.proofs.Law.Access.{header_long, header_opened, found_entry, no_header, no_table, no_entry, past_the_bytes, a_part}
use Rattle.stream.proofs.Law.Plain.Truth.{given_none}
use Rattle.stream.proofs.sides.part.Goals as goal
use Rattle.stream.proofs.sides.part.Lts as lts
use Rattle.stream.proofs.sides.part.Reads as reads
use Rattle.stream.proofs.sides.part.Tie as tie

abbrev After-header_of : Type 0
After-header_of = lts.After-header_of tie.the-claims reads.Pre reads.Post tie.handed_clauses

abbrev Past-After-known_told : Type 0
Past-After-known_told = lts.Past-After-known_told tie.the-claims reads.Pre reads.Post tie.handed_clauses

-- the header keeps its rules
layout : (c : After-header_of) → Layout (length c.args.bytes.now) c.header_of-h.result
layout c = (header_opened c.args.bytes.now (sym c.right.ensures ∙ c.if-not-right.false) (λ i. (c.shared_slice_known-1.given i).fits) c.header_of-h.result c.header_of-h.ensures).layout

-- the table lies within the bytes, and an entry has the id
module _ (c : Past-After-known_told) where
  abbrev bytes : List ℕ
  bytes = c.args.bytes.now

  abbrev id : ℕ
  id = c.args.id

  abbrev h : Header
  h = c.header_of-h.result

  kept : header_right bytes ≡ true
  kept = sym c.right.ensures ∙ c.if-not-right.false

  table : h.end + 12 * h.sides ≤ length bytes
  table = omega (arith, c.if-bytes-h.false)

  entry : (has_id id (ids_in h bytes) ≡ true) × (c.in_ok-i.i ≡ entry_of id (ids_in h bytes)) × (c.in_ok-i.i < h.sides)
  entry = found_entry h bytes id _ (sym c.entry_with.ensures ∙ c.in_ok-i.was)

pub returns-then-not-right : goal.returns-then-not-right
returns-then-not-right c = let a = c.args in no_header a.bytes.now a.id (sym c.right.ensures ∙ c.if-not-right.true)

pub header_of-h-requires : goal.header_of-h-requires
header_of-h-requires c = header_long c.args.bytes.now (sym c.right.ensures ∙ c.if-not-right.false)

pub overflow_mul-h : goal.overflow_mul-h
overflow_mul-h c = omega (arith, (layout c.before.before).sides)

pub overflow_add-h : goal.overflow_add-h
overflow_add-h c = omega (arith, layout c.before.before.before, c.well_formed)

pub returns-then-bytes-h : goal.returns-then-bytes-h
returns-then-bytes-h c =
    let a = c.args in
    no_table a.bytes.now a.id c.header_of-h.result c.header_of-h.ensures (sym c.right.ensures ∙ c.if-not-right.false) (omega (arith, c.if-bytes-h.true))

pub entry_with-requires : goal.entry_with-requires
entry_with-requires c = (layout c.before.before.before.before, omega (arith, c.if-bytes-h.false))

pub returns-in_err-i : goal.returns-in_err-i
returns-in_err-i c =
    let a = c.args in
    c.from_residual.ensures
    ∙ no_entry a.bytes.now a.id c.header_of-h.result c.header_of-h.ensures (sym c.right.ensures ∙ c.if-not-right.false) (omega (arith, c.if-bytes-h.false))
    (given_none _ _ (sym c.entry_with.ensures ∙ c.in_err-i.was))

pub overflow_mul-at : goal.overflow_mul-at
overflow_mul-at c = omega (arith, (entry c.before).2)

pub overflow_add-at : goal.overflow_add-at
overflow_add-at c = let d = c.before.before in omega (arith, (entry d).2, table d, c.well_formed)

pub overflow_add-at-2 : goal.overflow_add-at-2
overflow_add-at-2 c = let d = c.before.before in omega (arith, (entry d).2, table d, c.well_formed)

pub word_at-place-requires : goal.word_at-place-requires
word_at-place-requires c = let d = c.before.before in omega (arith, (entry d).2, table d)

pub overflow_add-at-3 : goal.overflow_add-at-3
overflow_add-at-3 c = let d = c.before.before.before in omega (arith, (entry d).2, table d, c.well_formed)

pub word_at-length-requires : goal.word_at-length-requires
word_at-length-requires c = let d = c.before.before.before in omega (arith, (entry d).2, table d)

pub returns-then-bytes-place : goal.returns-then-bytes-place
unfolding side_place side_length
returns-then-bytes-place c =
    let d = c.before.before.before.before.before in
    past_the_bytes (bytes d) (id d) (h d) c.header_of-h.ensures (kept d) (table d) (entry d).0 c.in_ok-i.i c.word_at-place.result c.word_at-length.result
    (entry d).1 c.word_at-place.ensures.0 c.word_at-length.ensures.0 (omega (arith, c.if-bytes-place.true))

pub returns : goal.returns
unfolding side_place side_length
returns c =
    let d = c.before.before.before.before.before in
    a_part (bytes d) (id d) (h d) c.header_of-h.ensures (kept d) (table d) (entry d).0 c.in_ok-i.i c.word_at-place.result c.word_at-length.result
    (entry d).1 c.word_at-place.ensures.0 c.word_at-length.ensures.0 (omega (arith, c.if-bytes-place.false))
