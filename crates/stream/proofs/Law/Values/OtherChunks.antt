-- Two streams that differ only in the data of other chunks than one have the same header, the same tables, and that chunk.
use mathlib.Core.Path.{◌≡◌, refl, sym, ap, ap₂, ◌∙◌, fun_ext}
use mathlib.Core.Logic.{◌⊎◌, inl, inr}
use mathlib.Core.Bool.{Bool, true, ◌&&◌}
use mathlib.Core.List.{List, ◌∷◌}
use Prim.Native.Nat.{ℕ, zero, suc, ◌+◌, ◌-◌, ◌*◌, ◌/◌, ◌≤◌, ◌<◌}
use native.Mathlib.Omega.{arith}
use borrow.Author.Tests.{lt-ltb, le-ltb}
use lib.Dec.{leb, ltb, eqb}
use lib.ListN.{length, take, drop, set, length-set}
use lib.Seq.{drop-drop, take-set-le, drop-set-lt, drop-set-add}
use Rattle.blocks.specs.Bytes.{number}
use Rattle.stream.specs.Setting.{group_size, limit_of, patterns_of}
use Rattle.stream.specs.Chunk.{chunk_answer, chunk_codes}
use Rattle.stream.specs.Header.{word, header_of, setting_in}
use Rattle.stream.specs.Tables.{every, start_at, start_right, chunk_table_right, side_id, side_place, side_length, id_floor, part_at, entry_right, side_table_right, ids_from, ids_in}
use Rattle.stream.specs.Stream.{count_of, chunk_of, chunk_state, chunk_values, value_in, value_at}
use Rattle.stream.specs.Operations.{opening_rows, table_rows, fault_row, chunk_row, own_rows, probe_rows}
use Rattle.stream.specs.Relied.{Layout}
use Rattle.stream.specs.Theorem.{at_chunk, Apart, InChunk}
use Rattle.blocks.proofs.Law.Truth.{le_or_lt}
use Rattle.stream.proofs.Law.Header.Front.{word_front, header_front}
use Rattle.stream.proofs.Law.Tables.Starts.{rising, ends_before, placed}

module _ (s t : List ℕ) where
  word_behind : (n p : ℕ) → drop n s ≡ drop n t → n ≤ p → word s p ≡ word t p
  unfolding word
  word_behind n p e h =
      let at : n + (p - n) ≡ p = omega arith in
      let moved : (l : List ℕ) → drop p l ≡ drop (p - n) (drop n l) = λ l. sym (drop-drop (p - n) n l ∙ ap (λ (q : ℕ). drop q l) at) in
      ap (λ (l : List ℕ). number 256 (take 4 l)) (moved s ∙ ap (drop (p - n)) e ∙ sym (moved t))

every_same : (f g : ℕ → Bool) → ((i : ℕ) → f i ≡ g i) → (k i : ℕ) → every f k i ≡ every g k i
every_same f g e k i = ap (λ (f : ℕ → Bool). every f k i) (fun_ext e)

module _ (j : ℕ) (s t : List ℕ) (apart : Apart j s t) where
  front_word : (p : ℕ) → p + 4 ≤ 48 + 4 * (header_of s).chunks → word s p ≡ word t p
  front_word = word_front s t (48 + 4 * (header_of s).chunks) apart.front

  -- the header
  pub header_same : header_of s ≡ header_of t
  header_same = header_front s t (48 + 4 * (header_of s).chunks) apart.front (omega arith)

  -- the chunk table
  start_same : (i : ℕ) → start_at (header_of s) s i ≡ start_at (header_of s) t i
  unfolding start_at
  start_same i = go (le_or_lt (header_of s).chunks i)
    where
      go : ((header_of s).chunks ≤ i) ⊎ (i < (header_of s).chunks) → start_at (header_of s) s i ≡ start_at (header_of s) t i
      go (inl l) = rw (le-ltb i (header_of s).chunks l)
      go (inr l) = rw (lt-ltb i (header_of s).chunks l) (front_word (48 + 4 * i) (omega arith))

  chunk_table_same : chunk_table_right (header_of s) s ≡ chunk_table_right (header_of s) t
  unfolding chunk_table_right start_right
  chunk_table_same =
      ap₂ (λ (a b : Bool). a && b)
      (ap (λ (n : ℕ). eqb n 0) (start_same 0))
      (every_same (start_right (header_of s) s) (start_right (header_of s) t) (λ i. ap₂ (λ (a b : ℕ). ltb a b) (start_same i) (start_same (i + 1))) (header_of s).chunks 0)

  -- the side table
  back_word : (p : ℕ) → (header_of s).end ≤ p → word s p ≡ word t p
  back_word p b = word_behind s t (header_of s).end p apart.behind b

  id_same : (i : ℕ) → side_id (header_of s) s i ≡ side_id (header_of s) t i
  unfolding side_id
  id_same i = back_word ((header_of s).end + 12 * i) (omega arith)

  ids_from_same : (k i : ℕ) → ids_from (header_of s) s k i ≡ ids_from (header_of s) t k i
  unfolding ids_from
  ids_from_same zero i = refl
  ids_from_same (suc k) i = ap₂ (λ (id : ℕ) (ids : List ℕ). id ∷ ids) (id_same i) (ids_from_same k (suc i))

  ids_same : ids_in (header_of s) s ≡ ids_in (header_of s) t
  unfolding ids_in
  ids_same = ids_from_same (header_of s).sides 0

  floor_same : (i : ℕ) → id_floor (header_of s) s i ≡ id_floor (header_of s) t i
  unfolding id_floor
  floor_same zero = refl
  floor_same (suc i) = ap suc (id_same i)

  part_same : (i : ℕ) → part_at (header_of s) s i ≡ part_at (header_of s) t i
  unfolding part_at side_length
  part_same zero = refl
  part_same (suc i) = ap₂ (λ (a b : ℕ). a + b) (part_same i) (back_word ((header_of s).end + 12 * i + 8) (omega arith))

  entry_same : (i : ℕ) → entry_right (header_of s) s i ≡ entry_right (header_of s) t i
  unfolding entry_right side_place
  entry_same i =
      ap₂ (λ (a b : Bool). a && b)
      (ap₂ (λ (a b : ℕ). leb a b) (floor_same i) (id_same i))
      (ap₂ (λ (a b : ℕ). eqb a b) (back_word ((header_of s).end + 12 * i + 4) (omega arith)) (part_same i))

  side_table_same : side_table_right (header_of s) s ≡ side_table_right (header_of s) t
  unfolding side_table_right
  side_table_same =
      ap₂ (λ (a b : Bool). a && b)
      (ap₂ (λ (a b : Bool). a && b)
      (ap (λ (n : ℕ). leb ((header_of s).end + 12 * (header_of s).sides) n) apart.lengths)
      (every_same (entry_right (header_of s) s) (entry_right (header_of s) t) entry_same (header_of s).sides 0))
      (ap₂ (λ (a b : ℕ). eqb a b) (part_same (header_of s).sides) apart.lengths)

  -- the chunk
  chunk_same : chunk_of (header_of s) s j ≡ chunk_of (header_of s) t j
  unfolding chunk_of at_chunk
  chunk_same =
      apart.own
      ∙ ap₂ (λ (a b : ℕ). take (b - a) (drop ((header_of s).start + a) t)) (start_same j) (start_same (j + 1))

  row_same : chunk_row (header_of s) s j ≡ chunk_row (header_of s) t j
  unfolding chunk_row chunk_state
  row_same =
      ap (λ (part : List ℕ). fault_row j (chunk_answer (header_of s).width (limit_of (setting_in (header_of s))) (group_size (setting_in (header_of s))) (count_of (header_of s) j) part))
      chunk_same

  values_same : chunk_values (header_of s) s j ≡ chunk_values (header_of s) t j
  unfolding chunk_values
  values_same =
      ap (λ (part : List ℕ). patterns_of (setting_in (header_of s)) (chunk_codes (group_size (setting_in (header_of s))) (count_of (header_of s) j) part))
      chunk_same

-- A byte in the data of another chunk: with any other in its place, the streams are apart.
module _ (s : List ℕ) (l : Layout (length s) (header_of s)) (right : chunk_table_right (header_of s) s ≡ true) (i j p b : ℕ)
    (inside : InChunk s i p) (within : j < (header_of s).chunks) (other : i ≡ j → ⊥) where
  own_kept : (at k : ℕ) → at ≡ (header_of s).start + start_at (header_of s) s j → k ≡ start_at (header_of s) s (j + 1) - start_at (header_of s) s j
      → take k (drop at s) ≡ take k (drop at (set s p b))
  own_kept at k ats ks = go (le_or_lt j i)
    where
      go : (j ≤ i) ⊎ (i < j) → take k (drop at s) ≡ take k (drop at (set s p b))
      go (inl m) =
          let less = ends_before (header_of s) s right j i (omega arith) (omega arith) in
          let rises = rising (header_of s) s right j within in
          let place : at + (p - at) ≡ p = omega arith in
          sym (ap (λ (q : ℕ). take k (drop at (set s q b))) (sym place) ∙ ap (take k) (drop-set-add at s (p - at) b) ∙ take-set-le k (drop at s) (p - at) b (omega arith))
      go (inr m) =
          let less = ends_before (header_of s) s right i j m (omega arith) in
          ap (take k) (sym (drop-set-lt at s p b (omega arith)))

  pub byte_apart : Apart j s (set s p b)
  unfolding at_chunk
  byte_apart =
      record {
        lengths = sym (length-set s p b);
        front = sym (take-set-le (48 + 4 * (header_of s).chunks) s p b (omega arith));
        own = own_kept ((header_of s).start + start_at (header_of s) s j) (start_at (header_of s) s (j + 1) - start_at (header_of s) s j) refl refl;
        behind = sym (drop-set-lt (header_of s).end s p b (omega (arith, placed (length s) (header_of s) s l right i inside.is_chunk)));
      }

-- the rows of probe, and its value
module _ (s t : List ℕ) (i : ℕ) (apart : Apart (i / 1024) s t) where
  opening_same : (level : ℕ) → opening_rows level s ≡ opening_rows level t
  unfolding opening_rows
  opening_same level = rw (apart.lengths, header_same (i / 1024) s t apart)

  own_same : own_rows (header_of s) s i ≡ own_rows (header_of t) t i
  unfolding own_rows table_rows
  own_same =
      rw (
        chunk_table_same (i / 1024) s t apart,
        side_table_same (i / 1024) s t apart,
        ids_same (i / 1024) s t apart,
        row_same (i / 1024) s t apart,
        header_same (i / 1024) s t apart,
      )

  pub probe_same : (W level : ℕ) → probe_rows W level s i ≡ probe_rows W level t i
  unfolding probe_rows
  probe_same W level = rw (opening_same level, own_same, header_same (i / 1024) s t apart)

  pub value_same : value_at s i ≡ value_at t i
  unfolding value_at value_in
  value_same = rw (values_same (i / 1024) s t apart, header_same (i / 1024) s t apart)
