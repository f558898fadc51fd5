-- The side table, entry by entry.
use mathlib.Core.Path.{◌≡◌, ap}
use mathlib.Core.Bool.{true, false, ◌&&◌}
use mathlib.Core.List.{List}
use Prim.Native.Nat.{ℕ, suc, ◌+◌, ◌*◌, ◌≤◌, ◌<◌}
use native.Mathlib.Numerals.{add-one}
use borrow.Author.Tests.{leb-true, le-leb, lt-leb, eq-eqb, ne_eqb}
use lib.Dec.{leb, eqb}
use lib.ListN.{length}
use Rattle.stream.specs.Header.{word}
use Rattle.stream.specs.Tables.{every, side_id, side_place, side_length, id_floor, part_at, entry_right, side_table_right}
use Rattle.stream.specs.declared.header.Header.{Header}
use Rattle.stream.proofs.Law.Plain.Truth.{and_left, and_false}

module _ (h : Header) (s : List ℕ) where
  -- a table that runs past the bytes
  pub side_short : length s < h.end + 12 * h.sides → false ≡ side_table_right h s
  unfolding side_table_right
  side_short l = rw (lt-leb (h.end + 12 * h.sides) (length s) l)

  pub side_scan : h.end + 12 * h.sides ≤ length s
      → side_table_right h s ≡ every (entry_right h s) h.sides 0 && eqb (part_at h s h.sides) (length s)
  unfolding side_table_right
  side_scan l = rw (le-leb (h.end + 12 * h.sides) (length s) l)

  -- a right table lies within the bytes
  pub table_within : side_table_right h s ≡ true → h.end + 12 * h.sides ≤ length s
  unfolding side_table_right
  table_within right =
      leb-true (h.end + 12 * h.sides) (length s)
      (and_left (leb (h.end + 12 * h.sides) (length s)) (every (entry_right h s) h.sides 0)
      (and_left (leb (h.end + 12 * h.sides) (length s) && every (entry_right h s) h.sides 0) (eqb (part_at h s h.sides) (length s)) right))

  -- the entry i, from its id, its place, the least id and the part's start
  module _ (i id place floor : ℕ) (ids : id ≡ word s (h.end + 12 * i)) (floors : floor ≡ id_floor h s i) (places : place ≡ part_at h s i) where
    pub entry_low : id < floor → entry_right h s i ≡ false
    unfolding entry_right side_id
    entry_low l = rw (← floors, ← ids, lt-leb floor id l)

    pub entry_elsewhere : (word s (h.end + 12 * i + 4) ≡ place → ⊥) → entry_right h s i ≡ false
    unfolding entry_right side_place
    entry_elsewhere n = rw (← places, ne_eqb (word s (h.end + 12 * i + 4)) place n) (and_false (leb (id_floor h s i) (side_id h s i)))

    pub entry_good : floor ≤ id → word s (h.end + 12 * i + 4) ≡ place → entry_right h s i ≡ true
    unfolding entry_right side_id side_place
    entry_good l e = rw (← places, ← floors, ← ids, le-leb floor id l, eq-eqb (word s (h.end + 12 * i + 4)) place e)

    pub next_floor : id + 1 ≡ id_floor h s (i + 1)
    unfolding id_floor side_id
    next_floor = rw (add-one i, add-one id) (ap suc ids)

    pub next_place : place + word s (h.end + 12 * i + 8) ≡ part_at h s (i + 1)
    unfolding part_at side_length
    next_place = rw (add-one i, places)
