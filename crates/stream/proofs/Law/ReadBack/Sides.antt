-- The side table that stands behind a written stream's data, entry by entry.
use mathlib.Core.Path.{◌≡◌, refl, sym, ap, ap₂, ◌∙◌}
use mathlib.Core.Bool.{true}
use mathlib.Core.List.{List, [], ◌∷◌, ◌++◌}
use Prim.Native.Nat.{ℕ, suc, ◌+◌, ◌*◌, ◌≤◌, ◌<◌}
use native.Mathlib.Nat.{add-zero, zero-add}
use native.Mathlib.Omega.{arith}
use borrow.Author.Tests.{leb-true, le-leb, eq-eqb}
use lib.Dec.{leb}
use lib.ListN.{length, take, drop, get_or, length-append}
use lib.Seq.{drop-append-add}
use Rattle.blocks.specs.Bytes.{number}
use Rattle.stream.specs.Header.{word}
use Rattle.stream.specs.Tables.{every, side_id, side_place, side_length, id_floor, part_at, entry_right, side_table_right, ids_from, ids_in}
use Rattle.stream.specs.Writing.{spell, Side, entries, parts, ids_of, increasing, WellFormedSides}
use Rattle.stream.specs.declared.header.Header.{Header}
use Rattle.stream.proofs.Law.Plain.Truth.{and_left, and_right}
use Rattle.stream.proofs.Law.Written.Numbers.{length_spell, word_spelled}

-- ---- the entries as numbers

length_entries : (place : ℕ) (ps : List Side) → length (entries place ps) ≡ 3 * length ps
unfolding entries
length_entries place [] = refl
length_entries place (p ∷ ps) = let e = length_entries (place + length p.bytes) ps in omega arith

-- ---- and as a table

module _ (h : Header) (s : List ℕ) where
  entry_right_lem : (i : ℕ) → id_floor h s i ≤ side_id h s i → side_place h s i ≡ part_at h s i → entry_right h s i ≡ true
  unfolding entry_right
  entry_right_lem i l e = rw (le-leb (id_floor h s i) (side_id h s i) l, eq-eqb (side_place h s i) (part_at h s i) e)

  -- the entries from i on, of which the first part has to start at the place and the first id to reach the floor
  table_right : (ps : List Side) (i place floor : ℕ)
      → ((x : ℕ) → x < 3 * length ps → word s (h.end + 12 * i + 4 * x) ≡ get_or (entries place ps) x 0)
      → part_at h s i ≡ place → id_floor h s i ≡ floor → increasing floor ps ≡ true
      → (every (entry_right h s) (length ps) i ≡ true) × (part_at h s (i + length ps) ≡ place + length (parts ps))
  unfolding every entries parts increasing side_id side_place side_length id_floor part_at
  table_right [] i place floor at starts floors ordered = (refl, ap (part_at h s) (add-zero i) ∙ starts ∙ sym (add-zero place))
  table_right (p ∷ ps) i place floor at starts floors ordered =
      let next = place + length p.bytes in
      let id-is : side_id h s i ≡ p.id = ap (word s) (let e : h.end + 12 * i ≡ h.end + 12 * i + 4 * 0 = omega arith in e) ∙ at 0 (omega arith) in
      let place_is : side_place h s i ≡ place = at 1 (omega arith) in
      let length_is : side_length h s i ≡ length p.bytes = at 2 (omega arith) in
      let rest =
      table_right ps (suc i) next (suc p.id)
      (λ x l.
      ap (word s) (let e : h.end + 12 * suc i + 4 * x ≡ h.end + 12 * i + 4 * suc (suc (suc x)) = omega arith in e)
      ∙ at (suc (suc (suc x))) (omega arith))
      (ap₂ ◌+◌ starts length_is) (ap suc id-is) (and_right (leb floor p.id) (increasing (suc p.id) ps) ordered) in
      let right : entry_right h s i ≡ true =
      entry_right_lem i (rw (floors, id-is) (leb-true floor p.id (and_left (leb floor p.id) (increasing (suc p.id) ps) ordered))) (place_is ∙ sym starts) in (
        rw (right, rest.0),
        ap (part_at h s) (let e : i + suc (length ps) ≡ suc i + length ps = omega arith in e) ∙ rest.1
            ∙ (let e : next + length (parts ps) ≡ place + length (p.bytes ++ parts ps) = omega (arith, length-append p.bytes (parts ps)) in e),
      )

  -- their ids
  ids_are : (ps : List Side) (i place : ℕ) → ((x : ℕ) → x < 3 * length ps → word s (h.end + 12 * i + 4 * x) ≡ get_or (entries place ps) x 0)
      → ids_from h s (length ps) i ≡ ids_of ps
  unfolding entries ids_from ids_of side_id
  ids_are [] i place at = refl
  ids_are (p ∷ ps) i place at =
      ap₂ (λ (id : ℕ) (ids : List ℕ). id ∷ ids)
      (ap (word s) (let e : h.end + 12 * i ≡ h.end + 12 * i + 4 * 0 = omega arith in e) ∙ at 0 (omega arith))
      (ids_are ps (suc i) (place + length p.bytes)
      λ x l.
      ap (word s) (let e : h.end + 12 * suc i + 4 * x ≡ h.end + 12 * i + 4 * suc (suc (suc x)) = omega arith in e)
      ∙ at (suc (suc (suc x))) (omega arith))

-- a number behind the first bytes
word_behind : (b r : List ℕ) (end n : ℕ) → length b ≡ end → word (b ++ r) (end + n) ≡ word r n
unfolding word
word_behind b r end n e = ap (λ (l : List ℕ). number 256 (take 4 l)) (ap (λ (m : ℕ). drop (m + n) (b ++ r)) (sym e) ∙ drop-append-add b r n)

module _ (h : Header) (front : List ℕ) (ps : List Side) (well : WellFormedSides (h.end + 12 * length ps) ps) (ends : length front ≡ h.end) (sides : h.sides ≡ length ps) where
  abbrev place : ℕ
  place = h.end + 12 * length ps

  abbrev bytes : List ℕ
  bytes = front ++ (spell (entries place ps) ++ parts ps)

  pub length_sided : length bytes ≡ place + length (parts ps)
  length_sided =
      length-append front (spell (entries place ps) ++ parts ps)
      ∙ ap₂ ◌+◌ ends (length-append (spell (entries place ps)) (parts ps) ∙ ap (λ (n : ℕ). n + length (parts ps)) (length_spell (entries place ps) ∙ ap (λ (n : ℕ). 4 * n) (length_entries place ps)))
      ∙ (let e : h.end + (4 * (3 * length ps) + length (parts ps)) ≡ place + length (parts ps) = omega arith in e)

  -- the numbers of the entries, from the first on
  entries_read : (x : ℕ) → x < 3 * length ps → word bytes (h.end + 12 * 0 + 4 * x) ≡ get_or (entries place ps) x 0
  entries_read x l =
      ap (word bytes) (let e : h.end + 12 * 0 + 4 * x ≡ h.end + 4 * x = omega arith in e)
      ∙ word_behind front (spell (entries place ps) ++ parts ps) h.end (4 * x) ends
      ∙ word_spelled (entries place ps) (parts ps) x well.numbers (omega (arith, length_entries place ps))

  pub ids_read : ids_in h bytes ≡ ids_of ps
  unfolding ids_in
  ids_read = ap (λ (n : ℕ). ids_from h bytes n 0) sides ∙ ids_are h bytes ps 0 place entries_read

  pub side_table_right_lem : side_table_right h bytes ≡ true
  unfolding side_table_right id_floor part_at
  side_table_right_lem =
      rw (
        le-leb (h.end + 12 * h.sides) (length bytes) (omega (arith, length_sided)),
        ap (λ (n : ℕ). every (entry_right h bytes) n 0) sides ∙ table.0,
        eq-eqb (part_at h bytes h.sides) (length bytes) (ap (part_at h bytes) (sides ∙ sym (zero-add (length ps))) ∙ table.1 ∙ sym length_sided),
      )
    where
      table : (every (entry_right h bytes) (length ps) 0 ≡ true) × (part_at h bytes (0 + length ps) ≡ place + length (parts ps))
      table =
          table_right h bytes ps 0 place 0 entries_read
          (ap (λ (n : ℕ). h.end + 12 * n) sides) refl well.ordered
