-- A stream that a check has accepted: every chunk of it is there to be read, and every side part lies within its bytes.
use Rattle.std.specs.Prelude.{Some}
use mathlib.Core.Path.{◌≡◌, refl, ap}
use mathlib.Core.Bool.{Bool, true, false, ◌&&◌}
use mathlib.Core.List.{List, ◌++◌}
use Prim.Native.Nat.{ℕ, zero, suc, ◌+◌, ◌-◌, ◌*◌, ◌≤◌, ◌<◌}
use native.Mathlib.Nat.{le_of_eq}
use native.Mathlib.Omega.{arith}
use borrow.Author.Tests.{le-leb, lt-ltb, eq-eqb, eqb-true}
use lib.Dec.{leb, eqb}
use lib.ListN.{length, drop}
use Rattle.stream.specs.Header.{header_of}
use Rattle.stream.specs.Tables.{every, start_at, start_right, id_floor, side_id, side_place, side_length, part_at, entry_right, side_table_right, ids_in}
use Rattle.stream.specs.Stream.{count_of, chunk_values}
use Rattle.stream.specs.Access.{header_right, chunk_placed, chunk_there, chunk_fits, chunk_readable, chunk_read, chunk_out, has_id, entry_of, place_of, length_of, part_there}
use Rattle.stream.specs.Rows.{first}
use Rattle.stream.specs.Operations.{check_rows}
use Rattle.stream.specs.Relied.{Layout}
use Rattle.std.specs.Prelude.{Ok}
use Rattle.stream.specs.declared.header.Header.{Header}
use Rattle.stream.proofs.Law.Plain.Truth.{and_left, and_right}
use Rattle.stream.proofs.Law.Plain.Scan.{every_at}
use Rattle.stream.proofs.Law.Header.Layout.{laid_out}
use Rattle.stream.proofs.Law.Tables.Starts.{placed}
use Rattle.stream.proofs.Law.Tables.Sides.{table_within}
use Rattle.stream.proofs.Law.Chunk.LongerBytes.{state_whole}
use Rattle.stream.proofs.Law.Rows.Chunks.{all_good}
use Rattle.stream.proofs.Law.Rows.Passed.{checking}
use Rattle.stream.proofs.Law.Access.{entry_inside}

-- a right side table: each part lies where the ones before it end, and the last one ends with the bytes
module _ (h : Header) (s : List ℕ) (right : side_table_right h s ≡ true) where
  abbrev front : Bool
  front = leb (h.end + 12 * h.sides) (length s) && every (entry_right h s) h.sides 0

  last_ends : part_at h s h.sides ≡ length s
  unfolding side_table_right
  last_ends = eqb-true (part_at h s h.sides) (length s) (and_right front (eqb (part_at h s h.sides) (length s)) right)

  lies : (i : ℕ) → i < h.sides → side_place h s i ≡ part_at h s i
  unfolding side_table_right entry_right
  lies i l =
      let all = and_right (leb (h.end + 12 * h.sides) (length s)) (every (entry_right h s) h.sides 0) (and_left front (eqb (part_at h s h.sides) (length s)) right) in
      let one = every_at (entry_right h s) h.sides 0 i all (omega arith) (omega arith) in
      eqb-true (side_place h s i) (part_at h s i) (and_right (leb (id_floor h s i) (side_id h s i)) (eqb (side_place h s i) (part_at h s i)) one)

  -- a part starts no earlier than one before it
  parts_rise : (i d : ℕ) → part_at h s i ≤ part_at h s (i + d)
  unfolding part_at
  parts_rise i zero = le_of_eq (ap (part_at h s) (let e : i ≡ i + 0 = omega arith in e))
  parts_rise i (suc d) = omega (arith, parts_rise i d, ap (part_at h s) (let e : i + suc d ≡ suc (i + d) = omega arith in e))

  pub side_inside : (i : ℕ) → i < h.sides → side_place h s i + side_length h s i ≤ length s
  unfolding part_at
  side_inside i l =
      let e : suc i + (h.sides - suc i) ≡ h.sides = omega arith in
      omega (arith, lies i l, parts_rise (suc i) (h.sides - suc i), ap (part_at h s) e, last_ends)

module _ (level : ℕ) (s : List ℕ) (pass : first (check_rows level s) ≡ Ok tt) where
  abbrev h : Header
  h = header_of s

  pub accepted_layout : Layout (length s) h
  accepted_layout = laid_out (length s) h (checking level s pass).0.layout

  pub accepted_header : header_right s ≡ true
  unfolding header_right
  accepted_header = let o = (checking level s pass).0 in rw (le-leb 48 (length s) o.long, o.setting, o.layout)

  -- ---- its chunks

  chunk_there_lem : (j : ℕ) → j < h.chunks → chunk_there h s j ≡ true
  unfolding chunk_there chunk_placed start_right
  chunk_there_lem j below =
      let c = checking level s pass in
      let p = placed (length s) h s accepted_layout c.1.chunks j below in
      rw (
        lt-ltb (start_at h s j) (start_at h s (j + 1)) p.0,
        le-leb (start_at h s (j + 1)) (h.end - h.start) (omega (arith, p.1)),
        state_whole h s j (all_good h s c.2 j below),
      )

  module _ (j : ℕ) (below : j < h.chunks) (out : List ℕ) (room : count_of h j ≤ length out) where
    readable : chunk_readable h.width s j (length out) ≡ true
    unfolding chunk_readable chunk_fits
    readable =
        rw (accepted_header, lt-ltb j h.chunks below, eq-eqb h.width h.width refl, le-leb (count_of h j) (length out) room, chunk_there_lem j below)

    pub accepted_chunk : (chunk_read h.width s j (length out) ≡ Some (count_of h j)) × (chunk_out h.width s j out ≡ chunk_values h s j ++ drop (count_of h j) out)
    unfolding chunk_read chunk_out
    accepted_chunk = (rw readable, rw readable)

  -- ---- its side parts

  pub accepted_part : (id : ℕ) → part_there s id ≡ has_id id (ids_in h s)
  unfolding part_there place_of length_of
  accepted_part id = go (has_id id (ids_in h s)) refl
    where
      go : (b : Bool) → has_id id (ids_in h s) ≡ b → part_there s id ≡ has_id id (ids_in h s)
      go true e =
          let sides = (checking level s pass).1.sides in
          rw (
            accepted_header,
            le-leb (h.end + 12 * h.sides) (length s) (table_within h s sides),
            e,
            le-leb (place_of h s id + length_of h s id) (length s) (side_inside h s sides (entry_of id (ids_in h s)) (entry_inside h s id e)),
          )
      go false e =
          rw (accepted_header, le-leb (h.end + 12 * h.sides) (length s) (table_within h s (checking level s pass).1.sides), e)
