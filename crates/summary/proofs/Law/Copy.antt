-- Side parts added to an accepted stream that has none (`add_sides`). Of the bytes that were there only the header's number of side parts is another,
-- so every reader makes of the new stream what it makes of the old one, at every level; and a part is found by its id.
use mathlib.Core.Path.{◌≡◌, refl, sym, ap, ap₂, subst, ◌∙◌, fun_ext}
use mathlib.Core.Logic.{◌⊎◌, inl, inr}
use mathlib.Core.Bool.{Bool, true, false, ◌&&◌}
use mathlib.Core.List.{List, [], ◌∷◌, ◌++◌, append_assoc}
use Prim.Native.Nat.{ℕ, ◌+◌, ◌-◌, ◌*◌, ◌/◌, ◌%◌, ◌^◌, ◌≤◌, ◌<◌}
use native.Mathlib.Nat.{lt_of_le_of_lt}
use native.Mathlib.Omega.{arith}
use borrow.Author.Tests.{lt-ltb, le-ltb, le-leb, eq-eqb, eqb-true}
use lib.Dec.{leb, ltb, eqb, lit<}
use lib.ListN.{length, take, drop, get_or, length-append, length-drop}
use lib.Seq.{length-take-le, take_at, drop_at, take-append-le, drop-append-le, drop-append-add, take-append_seam, drop-drop}
use Rattle.blocks.specs.Bytes.{number, digits}
use Rattle.blocks.proofs.Law.Truth.{le_or_lt}
use Rattle.blocks.proofs.Law.Digits.{byte, length_digits, number_digits_whole}
use Rattle.stream.specs.Setting.{stream_need}
use Rattle.stream.specs.Header.{word, header_of, k_of, setting_in, too_many, chunks_in, need_right, setting_right, layout_right}
use Rattle.stream.specs.Tables.{every, start_at, start_right, chunk_table_right}
use Rattle.stream.specs.Tables.{side_place, side_length, part_at, entry_right, side_table_right, ids_in, some_high}
use Rattle.stream.specs.Stream.{joined, count_of, chunk_of, chunk_state, chunk_values, values_in, values, value_in, value_at}
use Rattle.stream.specs.Writing.{spell, Side, entries, parts, placed, add_sides, ids_of, WellFormedSides}
use Rattle.stream.specs.Access.{has_id, entry_of, place_of, length_of, side_bytes}
use Rattle.stream.specs.Rows.{Row, rows_from, first, answer, after}
use Rattle.stream.specs.Relied.{Layout}
use Rattle.stream.specs.Operations.{header_rows, opening_rows, table_rows, fault_row, chunk_row, chunk_rows, content_rows}
use Rattle.stream.specs.Operations.{width_row, room_row, index_row, own_rows}
use Rattle.stream.specs.Operations.{check_rows, check_answer, unpack_rows, unpack_answer, unpack_out, probe_rows, probe_answer32, probe_answer64}
use Rattle.stream.specs.Probe.{shown32, shown64}
use Rattle.std.specs.Prelude.{⊤, Result, Ok}
use Rattle.stream.specs.declared.answers.Refusal.{Refusal}
use Rattle.stream.specs.declared.header.Header.{Header}
use Rattle.stream.proofs.Law.Plain.Truth.{and_right}
use Rattle.stream.proofs.Law.Header.Front.{word_front}
use Rattle.stream.proofs.Law.Tables.Starts as starts
use Rattle.stream.proofs.Law.Written.Numbers.{length_spell, word_spelled}
use Rattle.stream.proofs.Law.ReadBack.Sides.{ids_read, side_table_right_lem}
use Rattle.stream.proofs.Law.Rows.First.{and_then, first_append, opened}
use Rattle.stream.proofs.Law.Rows.Passed.{Tables, tables_passed, checking}
use Rattle.stream.proofs.Law.Accepted.{accepted_layout}
use Rattle.summary.specs.Theorem.{counted, ReadAs}

-- ---- the bytes

-- another number put in its place
module _ (at n : ℕ) (b : List ℕ) (long : at + 4 ≤ length b) where
  abbrev head : List ℕ
  head = take at b ++ digits 256 4 n

  take_long : length (take at b) ≡ at
  take_long = length-take-le at b (omega arith)

  head_long : length head ≡ at + 4
  head_long = length-append (take at b) (digits 256 4 n) ∙ ap₂ ◌+◌ take_long (length_digits 256 4 n)

  regrouped : placed at n b ≡ take at b ++ (digits 256 4 n ++ drop (at + 4) b)
  unfolding placed
  regrouped = append_assoc (take at b) (digits 256 4 n) (drop (at + 4) b)

  pub length_placed : length (placed at n b) ≡ length b
  unfolding placed
  length_placed =
      length-append head (drop (at + 4) b)
      ∙ ap₂ ◌+◌ head_long (length-drop (at + 4) b)
      ∙ (let e : at + 4 + (length b - (at + 4)) ≡ length b = omega arith in e)

  take_placed : take at (placed at n b) ≡ take at b
  take_placed = ap (take at) regrouped ∙ take_at (take at b) (digits 256 4 n ++ drop (at + 4) b) at take_long

  word_placed : n < 2 ^ 32 → word (placed at n b) at ≡ n
  unfolding word
  word_placed h =
      ap (λ (l : List ℕ). number 256 (take 4 l)) (ap (drop at) regrouped ∙ drop_at (take at b) (digits 256 4 n ++ drop (at + 4) b) at take_long)
      ∙ ap (number 256) (take_at (digits 256 4 n) (drop (at + 4) b) 4 (length_digits 256 4 n))
      ∙ number_digits_whole 256 byte 4 n h

  drop_placed : (p : ℕ) → at + 4 ≤ p → drop p (placed at n b) ≡ drop p b
  unfolding placed
  drop_placed p h =
      let e : at + 4 + (p - (at + 4)) ≡ p = omega arith in
      ap (λ (q : ℕ). drop q (head ++ drop (at + 4) b)) (sym (ap (λ (k : ℕ). k + (p - (at + 4))) head_long ∙ e))
      ∙ drop-append-add head (drop (at + 4) b) (p - (at + 4))
      ∙ drop-drop (p - (at + 4)) (at + 4) b
      ∙ ap (λ (q : ℕ). drop q b) e

module _ (s : List ℕ) (ps : List Side) (long : 48 ≤ length s) where
  abbrev front : List ℕ
  front = placed 40 (length ps) s

  abbrev table : List ℕ
  table = entries (length s + 12 * length ps) ps

  -- what comes behind the old bytes
  abbrev added : List ℕ
  added = spell table ++ parts ps

  split : add_sides s ps ≡ front ++ added
  unfolding add_sides
  split = append_assoc front (spell table) (parts ps)

  front_long : length front ≡ length s
  front_long = length_placed 40 (length ps) s (omega arith)

  pub length_added : length (add_sides s ps) ≡ length s + (4 * length table + length (parts ps))
  length_added =
      ap length split ∙ length-append front added
      ∙ ap₂ ◌+◌ front_long (length-append (spell table) (parts ps) ∙ ap (λ (n : ℕ). n + length (parts ps)) (length_spell table))

  -- what stands behind the number of side parts
  window_kept : (p k : ℕ) → 44 ≤ p → p + k ≤ length s → take k (drop p (add_sides s ps)) ≡ take k (drop p s)
  window_kept p k h l =
      ap (λ (b : List ℕ). take k (drop p b)) split
      ∙ ap (take k)
      (drop-append-le p front added (omega (arith, front_long)) ∙ ap (λ (b : List ℕ). b ++ added) (drop_placed 40 (length ps) s (omega arith) p h))
      ∙ take-append-le k (drop p s) added (rw (length-drop p s) (omega arith))

  word_kept : (p : ℕ) → 44 ≤ p → p + 4 ≤ length s → word (add_sides s ps) p ≡ word s p
  unfolding word
  word_kept p h l = ap (number 256) (window_kept p 4 h l)

  -- and before it
  front_kept : take 40 (add_sides s ps) ≡ take 40 s
  front_kept = ap (take 40) split ∙ take-append-le 40 front added (omega (arith, front_long)) ∙ take_placed 40 (length ps) s (omega arith)

  sides_put : length ps < 2 ^ 32 → word (add_sides s ps) 40 ≡ length ps
  unfolding word
  sides_put h =
      ap (λ (b : List ℕ). number 256 (take 4 (drop 40 b))) split
      ∙ ap (λ (b : List ℕ). number 256 (take 4 b)) (drop-append-le 40 front added (omega (arith, front_long)))
      ∙ ap (number 256) (take-append-le 4 (drop 40 front) added (rw (length-drop 40 front) (omega (arith, front_long))))
      ∙ word_placed 40 (length ps) s (omega arith) h

  header_kept : length ps < 2 ^ 32 → header_of (add_sides s ps) ≡ counted (header_of s) (length ps)
  unfolding header_of
  header_kept h =
      let same : (p : ℕ) → p + 4 ≤ 40 → word (add_sides s ps) p ≡ word s p = word_front (add_sides s ps) s 40 front_kept in
      λ i.
      record {
        major = same 0 (omega arith) i;
        written = same 4 (omega arith) i;
        needed = same 8 (omega arith) i;
        width = same 12 (omega arith) i;
        mode = same 16 (omega arith) i;
        exponent = same 20 (omega arith) i;
        count = same 24 (omega arith) i;
        chunks = same 28 (omega arith) i;
        table = same 32 (omega arith) i;
        start = same 36 (omega arith) i;
        sides = sides_put h i;
        end = word_kept 44 (omega arith) (omega arith) i;
      }

-- ---- an accepted stream without side parts

-- rows that begin alike and go on alike
behind_same : (before a b : List Row) → first a ≡ first b → first (before ++ a) ≡ first (before ++ b)
behind_same before a b e = first_append before a ∙ ap (and_then (first before)) e ∙ sym (first_append before b)

module _ (level : ℕ) (s : List ℕ) (pass : first (check_rows level s) ≡ Ok tt) (none : (header_of s).sides ≡ 0) where
  abbrev h : Header
  h = header_of s

  laid : Layout (length s) h
  laid = accepted_layout level s pass

  tables : Tables h s
  tables = (checking level s pass).1

  long : 48 ≤ length s
  long = (checking level s pass).0.long

  -- it ends with its data
  pub no_sides_end : length s ≡ h.end
  unfolding side_table_right part_at
  no_sides_end =
      let before = leb (h.end + 12 * h.sides) (length s) && every (entry_right h s) h.sides 0 in
      let last = eqb (part_at h s h.sides) (length s) in
      let is : part_at h s h.sides ≡ length s = eqb-true (part_at h s h.sides) (length s) (and_right before last tables.sides) in
      sym is ∙ ap (part_at h s) none ∙ (let e : h.end + 12 * h.sides ≡ h.end = omega arith in e)

  module _ (ps : List Side) (well : WellFormedSides (length s + 12 * length ps) ps) (low : some_high (ids_of ps) ≡ false) where
    abbrev t : List ℕ
    t = add_sides s ps

    pub header_copied : header_of t ≡ counted h (length ps)
    header_copied = header_kept s ps long (lt_of_le_of_lt well.few (lit< tt))

    -- ---- the chunks

    pub starts_copied : (j : ℕ) → start_at (header_of t) t j ≡ start_at h s j
    unfolding start_at
    starts_copied j = ap (λ (x : Header). start_at x t j) header_copied ∙ go (le_or_lt h.chunks j)
      where
        go : (h.chunks ≤ j) ⊎ (j < h.chunks) → start_at (counted h (length ps)) t j ≡ start_at h s j
        go (inl l) = rw (le-ltb j h.chunks l)
        go (inr l) = rw (lt-ltb j h.chunks l) (word_kept s ps long (48 + 4 * j) (omega arith) (omega (arith, laid)))

    -- behind the last chunk there are no bytes
    past_end : (j : ℕ) → h.chunks ≤ j → start_at h s (j + 1) - start_at h s j ≡ 0
    unfolding start_at
    past_end j l = rw (le-ltb j h.chunks l, le-ltb (j + 1) h.chunks (omega arith)) (omega arith)

    pub chunk_copied : (j : ℕ) → chunk_of (header_of t) t j ≡ chunk_of h s j
    unfolding chunk_of
    chunk_copied j =
        rw (starts_copied (j + 1), starts_copied j, ap (λ (x : Header). x.start) header_copied)
        (go (h.start + start_at h s j) (start_at h s (j + 1) - start_at h s j) refl refl (le_or_lt h.chunks j))
      where
        go : (at k : ℕ) → at ≡ h.start + start_at h s j → k ≡ start_at h s (j + 1) - start_at h s j → (h.chunks ≤ j) ⊎ (j < h.chunks)
            → take k (drop at t) ≡ take k (drop at s)
        go at k a e (inl l) = rw (e ∙ past_end j l)
        go at k a e (inr l) =
            let p = starts.placed (length s) h s laid tables.chunks j l in
            window_kept s ps long at k (omega (arith, laid)) (omega (arith, laid, p.0, p.1))

    pub state_copied : (j : ℕ) → chunk_state (header_of t) t j ≡ chunk_state h s j
    unfolding chunk_state k_of count_of
    state_copied j = rw (chunk_copied j, header_copied)

    pub values_copied : (j : ℕ) → chunk_values (header_of t) t j ≡ chunk_values h s j
    unfolding chunk_values k_of count_of
    values_copied j = rw (chunk_copied j, header_copied)

    pub all_values_copied : values t ≡ values s
    unfolding values values_in
    all_values_copied =
        ap₂ (λ (f : ℕ → List ℕ) (k : ℕ). joined f k) (fun_ext values_copied) (ap (λ (x : Header). x.chunks) header_copied)

    pub value_copied : (i : ℕ) → value_at t i ≡ value_at s i
    unfolding value_at value_in
    value_copied i = ap (λ (vs : List ℕ). get_or vs (i % 1024) 0) (values_copied (i / 1024))

    -- ---- the tables

    pub chunk_table_copied : chunk_table_right (header_of t) t ≡ chunk_table_right h s
    unfolding chunk_table_right start_right
    chunk_table_copied =
        ap₂ (λ (a b : Bool). a && b)
        (ap (λ (n : ℕ). eqb n 0) (starts_copied 0))
        (ap₂ (λ (f : ℕ → Bool) (k : ℕ). every f k 0)
        (fun_ext (λ j. ap₂ (λ (a b : ℕ). ltb a b) (starts_copied j) (starts_copied (j + 1))))
        (ap (λ (x : Header). x.chunks) header_copied))

    -- the side table stands behind the data
    well_placed : WellFormedSides (h.end + 12 * length ps) ps
    well_placed = subst (λ (n : ℕ). WellFormedSides (n + 12 * length ps) ps) no_sides_end well

    behind_data_lem : t ≡ front s ps long ++ (spell (entries (h.end + 12 * length ps) ps) ++ parts ps)
    behind_data_lem = split s ps long ∙ ap (λ (n : ℕ). front s ps long ++ (spell (entries (n + 12 * length ps) ps) ++ parts ps)) no_sides_end

    data_ends : length (front s ps long) ≡ h.end
    data_ends = front_long s ps long ∙ no_sides_end

    pub ids_copied : ids_in (header_of t) t ≡ ids_of ps
    ids_copied = ap₂ ids_in header_copied behind_data_lem ∙ ids_read (counted h (length ps)) (front s ps long) ps well_placed data_ends refl

    pub side_table_copied : side_table_right (header_of t) t ≡ true
    side_table_copied =
        ap₂ side_table_right header_copied behind_data_lem ∙ side_table_right_lem (counted h (length ps)) (front s ps long) ps well_placed data_ends refl

    pub tables_copied : Tables (header_of t) t
    unfolding k_of
    tables_copied =
        record {
          chunks = chunk_table_copied ∙ tables.chunks;
          sides = side_table_copied;
          needed = rw (ids_copied, low, header_copied) (tables.needed ∙ ap (stream_need (setting_in h)) tables.low);
          low = rw ids_copied low;
        }

    -- ---- the rows

    grows : length s ≤ length t
    grows = omega (arith, length_added s ps long)

    setting_copied : setting_right (header_of t) ≡ setting_right h
    unfolding setting_right need_right k_of
    setting_copied = rw header_copied

    layout_copied : layout_right (length t) (header_of t) ≡ true
    unfolding layout_right too_many chunks_in
    layout_copied =
        rw header_copied
        (rw (
          le-ltb 1048576 h.count laid.few,
          eq-eqb h.chunks ((h.count + 1023) / 1024) laid.chunks,
          eq-eqb h.table 48 laid.table,
          eq-eqb h.start (48 + 4 * h.chunks) laid.start,
          le-leb (length ps) 64 well.few,
          le-leb h.start h.end laid.ordered,
          le-leb h.end (length t) (omega (arith, laid, grows)),
        ))

    opening_copied : (L : ℕ) → opening_rows L t ≡ opening_rows L s
    unfolding opening_rows header_rows
    opening_copied L =
        rw (
          le-ltb (length t) 48 (omega (arith, long, grows)),
          le-ltb (length s) 48 long,
          layout_copied,
          (checking level s pass).0.layout,
          setting_copied,
          header_copied,
        )

    chunk_row_copied : (j : ℕ) → chunk_row (header_of t) t j ≡ chunk_row h s j
    unfolding chunk_row
    chunk_row_copied j = ap (fault_row j) (state_copied j)

    content_copied : first (content_rows (header_of t) t) ≡ first (content_rows h s)
    unfolding content_rows chunk_rows
    content_copied =
        opened (table_rows (header_of t) t) (chunk_rows (header_of t) t) (tables_passed (header_of t) t tables_copied)
        ∙ ap₂ (λ (f : ℕ → Row) (k : ℕ). first (rows_from f k 0)) (fun_ext chunk_row_copied) (ap (λ (x : Header). x.chunks) header_copied)
        ∙ sym (opened (table_rows h s) (chunk_rows h s) (tables_passed h s tables))

    own_copied : (i : ℕ) → first (own_rows (header_of t) t i) ≡ first (own_rows h s i)
    unfolding own_rows
    own_copied i =
        opened (table_rows (header_of t) t) (chunk_row (header_of t) t (i / 1024) ∷ []) (tables_passed (header_of t) t tables_copied)
        ∙ ap (λ (r : Row). first (r ∷ [])) (chunk_row_copied (i / 1024))
        ∙ sym (opened (table_rows h s) (chunk_row h s (i / 1024) ∷ []) (tables_passed h s tables))

    pub check_copied : (L : ℕ) → first (check_rows L t) ≡ first (check_rows L s)
    unfolding check_rows
    check_copied L =
        ap (λ (o : List Row). first (o ++ content_rows (header_of t) t)) (opening_copied L)
        ∙ behind_same (opening_rows L s) (content_rows (header_of t) t) (content_rows h s) content_copied

    unpack_copied : (W L room : ℕ) → first (unpack_rows W L t room) ≡ first (unpack_rows W L s room)
    unfolding unpack_rows width_row room_row
    unpack_copied W L room =
        let two = width_row W h ∷ room_row room h ∷ [] in
        ap₂ (λ (o : List Row) (x : Header). first (o ++ (width_row W x ∷ room_row room x ∷ content_rows (header_of t) t)))
        (opening_copied L) header_copied
        ∙ behind_same (opening_rows L s) (two ++ content_rows (header_of t) t) (two ++ content_rows h s)
        (behind_same two (content_rows (header_of t) t) (content_rows h s) content_copied)

    probe_copied : (W L i : ℕ) → first (probe_rows W L t i) ≡ first (probe_rows W L s i)
    unfolding probe_rows width_row index_row
    probe_copied W L i =
        let two = width_row W h ∷ index_row i h ∷ [] in
        ap₂ (λ (o : List Row) (x : Header). first (o ++ (width_row W x ∷ index_row i x ∷ own_rows (header_of t) t i)))
        (opening_copied L) header_copied
        ∙ behind_same (opening_rows L s) (two ++ own_rows (header_of t) t i) (two ++ own_rows h s i)
        (behind_same two (own_rows (header_of t) t i) (own_rows h s i) (own_copied i))

    count_copied : (header_of t).count ≡ h.count
    count_copied = ap (λ (x : Header). x.count) header_copied

    -- every reader, at every level
    pub read_as : ReadAs s t
    unfolding check_answer unpack_answer unpack_out probe_answer32 probe_answer64
    read_as =
        record {
          check = λ L. ap₂ answer (check_copied L) count_copied;
          unpack = λ W L out. (
            ap₂ answer (unpack_copied W L (length out)) count_copied,
            ap₂ (λ (a : Result ⊤ Refusal) (new : List ℕ). after a new out) (unpack_copied W L (length out))
                (ap₂ (λ (vs : List ℕ) (n : ℕ). vs ++ drop n out) all_values_copied count_copied),
          );
          probe32 = λ L i. ap₂ (λ (a : Result ⊤ Refusal) (v : ℕ). answer a (shown32 v)) (probe_copied 32 L i) (value_copied i);
          probe64 = λ L i. ap₂ (λ (a : Result ⊤ Refusal) (v : ℕ). answer a (shown64 v)) (probe_copied 64 L i) (value_copied i);
        }

-- ---- one part

module _ (level : ℕ) (s : List ℕ) (pass : first (check_rows level s) ≡ Ok tt) (none : (header_of s).sides ≡ 0) (p : Side)
    (well : WellFormedSides (length s + 12 * 1) (p ∷ [])) (low : some_high (ids_of (p ∷ [])) ≡ false) where
  abbrev one : List ℕ
  one = add_sides s (p ∷ [])

  abbrev numbers : List ℕ
  numbers = p.id ∷ (length s + 12 * 1) ∷ length p.bytes ∷ []

  is_long : 48 ≤ length s
  is_long = (checking level s pass).0.long

  ids_one : ids_in (header_of one) one ≡ p.id ∷ []
  unfolding ids_of
  ids_one = ids_copied level s pass none (p ∷ []) well low

  pub has_copied : has_id p.id (ids_in (header_of one) one) ≡ true
  unfolding has_id
  has_copied = rw (ids_one, eq-eqb p.id p.id refl)

  first_entry : entry_of p.id (ids_in (header_of one) one) ≡ 0
  unfolding entry_of
  first_entry = rw (ids_one, eq-eqb p.id p.id refl)

  -- what stands behind the old bytes
  behind_old : (n : ℕ) → drop (length s + n) one ≡ drop n (spell numbers ++ (p.bytes ++ []))
  unfolding entries parts
  behind_old n =
      ap₂ (λ (k : ℕ) (b : List ℕ). drop (k + n) b) (sym (front_long s (p ∷ []) is_long)) (split s (p ∷ []) is_long)
      ∙ drop-append-add (front s (p ∷ []) is_long) (spell numbers ++ (p.bytes ++ [])) n

  number_read : (x : ℕ) → x < 3 → word one (length s + 4 * x) ≡ get_or numbers x 0
  unfolding word entries
  number_read x l =
      ap (λ (b : List ℕ). number 256 (take 4 b)) (behind_old (4 * x))
      ∙ word_spelled numbers (p.bytes ++ []) x well.numbers l

  old_end : (header_of one).end ≡ length s
  old_end = ap (λ (x : Header). x.end) (header_copied level s pass none (p ∷ []) well low) ∙ sym (no_sides_end level s pass none)

  pub place_copied : place_of (header_of one) one p.id ≡ length s + 12
  unfolding place_of side_place
  place_copied =
      ap (λ (i : ℕ). word one ((header_of one).end + 12 * i + 4)) first_entry
      ∙ ap (word one) (let e : (header_of one).end + 12 * 0 + 4 ≡ length s + 4 * 1 = omega (arith, old_end) in e)
      ∙ number_read 1 (lit< tt)

  pub length_copied : length_of (header_of one) one p.id ≡ length p.bytes
  unfolding length_of side_length
  length_copied =
      ap (λ (i : ℕ). word one ((header_of one).end + 12 * i + 8)) first_entry
      ∙ ap (word one) (let e : (header_of one).end + 12 * 0 + 8 ≡ length s + 4 * 2 = omega (arith, old_end) in e)
      ∙ number_read 2 (lit< tt)

  pub part_copied : side_bytes (header_of one) one p.id ≡ p.bytes
  unfolding side_bytes
  part_copied =
      ap₂ (λ (n at : ℕ). take n (drop at one)) length_copied place_copied
      ∙ ap (take (length p.bytes)) (behind_old 12 ∙ drop_at (spell numbers) (p.bytes ++ []) 12 (length_spell numbers))
      ∙ take-append_seam p.bytes []
