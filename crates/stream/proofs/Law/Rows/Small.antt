-- What an operation answers is small: its number, and the detail or the answer beside it, have 32 bits, and a value has W bits. One law
-- over rows: where each number is small, and the detail of each row that can be given, so is what the first given row says.
use Rattle.std.specs.Prelude.{Ok, Err}
use mathlib.Core.Path.{◌≡◌, refl, sym, ◌∙◌, subst}
use mathlib.Core.Bool.{Bool, true, false}
use mathlib.Core.List.{List, [], ◌∷◌, ◌++◌, map}
use Prim.Native.Nat.{ℕ, zero, suc, ◌+◌, ◌-◌, ◌*◌, ◌/◌, ◌%◌, ◌^◌, ◌≤◌, ◌<◌}
use native.Mathlib.Omega.{arith}
use borrow.Author.Tests.{ltb-true, not-false}
use lib.Dec.{ltb, lit<}
use lib.IntN.{ℤ}
use lib.ListN.{length, drop}
use Rattle.blocks.specs.Bytes.{Below}
use Rattle.stream.specs.Setting.{known_width, setting_at, group_size, limit_of}
use Rattle.stream.specs.Chunk.{Verdict, chunk_codes}
use Rattle.stream.specs.Header.{header_of, setting_in, chunks_in}
use Rattle.stream.specs.Tables.{start_at, side_id, ids_from, ids_in}
use Rattle.stream.specs.Stream.{count_of, chunk_of, chunk_state, chunk_values, value_in, value_at}
use Rattle.stream.specs.Rows.{number_of, detail_of, Row, row, rows_from, first, answer}
use Rattle.stream.specs.Writing.{stream}
use Rattle.stream.specs.Relied.{Layout}
use Rattle.stream.specs.Operations.{header_rows, opening_rows, need_row, id_row, side_rows, table_rows, fault_detail, fault_row, chunk_row, chunk_rows, content_rows, width_row, room_row, index_row, own_rows, check_rows, check_answer, unpack_rows, unpack_answer, probe_rows, length_rows, length_answer, pack_rows, pack_answer}
use Rattle.std.specs.Prelude.{⊤, Result, Ok, Err}
use Rattle.stream.specs.declared.answers.Refusal.{Refusal}
use Rattle.stream.specs.declared.answers.Refusal.TheVariants.{UnknownLevel, NotAllowed, TooManyValues, NoRoom, NoHeader, OtherMajor, NeedsMinor, BrokenHeader, BrokenTable, BrokenChunk, NoSuchIndex, OtherWidth, MustBeUnderstood, HasSideParts, NoTrueSummary}
use Rattle.stream.specs.declared.header.Header.{Header}
use Rattle.blocks.proofs.Law.Digits.{below_take, below_drop}
use Rattle.stream.proofs.Law.Rows.First.{opened, opened_both, shut}
use Rattle.stream.proofs.Law.Header.Numbers.{word_small}
use Rattle.stream.proofs.Law.Setting.Allowed.{settled, size_some}
use Rattle.stream.proofs.Law.Header.Layout.{laid_out}
use Rattle.stream.proofs.Law.Rows.Passed.{opening, probing}
use Rattle.stream.proofs.Law.Rows.Place.{group_small}
use Rattle.stream.proofs.Law.Chunk.Groups.{good_is_exact}
use Rattle.stream.proofs.Law.Setting.Codes.{patterns_under}
use Rattle.stream.proofs.Law.Setting.Widths.{width_bytes}
use Rattle.stream.proofs.Law.Written.Pieces.{end_small}
use Rattle.stream.proofs.Law.Rows.Packing.{length_passed, length_stream}

-- ---- rows

-- a refusal's number is not 0, which is success, and it and its detail are below b
pub record Told (b : ℕ) (refusal : Refusal) : Type 0 where
  pub some : 0 < number_of refusal
  pub number_small : number_of refusal < b
  pub detail_small : detail_of refusal < b

-- so is what the first given row says
abbrev pub Small : ℕ → List Row → Type 0
Small b rows = (refusal : Refusal) → first rows ≡ Err refusal → Told b refusal

-- an answer: the refusal's number and detail, or 0 and what success says
abbrev pub SmallAnswer : ℕ → Result ℕ Refusal → Type 0
SmallAnswer b (Ok n) = n < b
SmallAnswer b (Err refusal) = Told b refusal

-- no number of the table is 0, and 17 is the largest
numbered : (refusal : Refusal) → (0 < number_of refusal) × (number_of refusal < 2 ^ 32)
numbered UnknownLevel = (lit< tt, lit< tt)
numbered NotAllowed = (lit< tt, lit< tt)
numbered TooManyValues = (lit< tt, lit< tt)
numbered (NoRoom needed) = (lit< tt, lit< tt)
numbered NoHeader = (lit< tt, lit< tt)
numbered OtherMajor = (lit< tt, lit< tt)
numbered (NeedsMinor needed) = (lit< tt, lit< tt)
numbered BrokenHeader = (lit< tt, lit< tt)
numbered BrokenTable = (lit< tt, lit< tt)
numbered (BrokenChunk place) = (lit< tt, lit< tt)
numbered NoSuchIndex = (lit< tt, lit< tt)
numbered OtherWidth = (lit< tt, lit< tt)
numbered (MustBeUnderstood id) = (lit< tt, lit< tt)
numbered HasSideParts = (lit< tt, lit< tt)
numbered NoTrueSummary = (lit< tt, lit< tt)

pub told : (refusal : Refusal) → detail_of refusal < 2 ^ 32 → Told (2 ^ 32) refusal
told refusal d = let n = numbered refusal in record { some = n.0; number_small = n.1; detail_small = d }

-- a row asks for its detail where it is given, and for the rows behind it where it is not
pub row_small : (refusal : Refusal) (given : Bool) (rows : List Row) → (given ≡ true → detail_of refusal < 2 ^ 32) → (given ≡ false → Small (2 ^ 32) rows)
    → Small (2 ^ 32) (row refusal given ∷ rows)
unfolding first
row_small refusal true rows d r x e =
    let z : Err refusal ≡ Err x = e in
    let same : refusal ≡ x = cc in
    subst (λ (y : Refusal). Told (2 ^ 32) y) same (told refusal (d refl))
row_small refusal false rows d r x e = r refl x e

-- a row whose detail is 0
pub plain : (refusal : Refusal) (given : Bool) (rows : List Row) → detail_of refusal ≡ 0 → Small (2 ^ 32) rows → Small (2 ^ 32) (row refusal given ∷ rows)
plain refusal given rows z r = row_small refusal given rows (λ _. rw z (lit< tt)) (λ _. r)

module _ {b : ℕ} where
  pub no_rows : Small b []
  unfolding first
  no_rows refusal e = let z : Ok tt ≡ Err refusal = e in let y : ◌≡◌ {A = ℕ} 0 1 = cc in absurd (omega arith)

  pub append_small : (before rows : List Row) → Small b before → (first before ≡ Ok tt → Small b rows) → Small b (before ++ rows)
  append_small before rows s r refusal e = go (first before) refl
    where
      go : (a : Result ⊤ Refusal) → first before ≡ a → Told b refusal
      go (Ok u) p = r p refusal (sym (opened before rows p) ∙ e)
      go (Err x) p = s refusal (p ∙ sym (shut x before rows p) ∙ e)

  from_small : (f : ℕ → Row) (k i : ℕ) → ((j : ℕ) → i ≤ j → j < i + k → Small b (f j ∷ [])) → Small b (rows_from f k i)
  unfolding rows_from
  from_small f zero i h = no_rows
  from_small f (suc k) i h =
      append_small (f i ∷ []) (rows_from f k (suc i)) (h i (omega arith) (omega arith))
      (λ _. from_small f k (suc i) (λ j l m. h j (omega arith) (omega arith)))

  pub answer_small : (rows : List Row) (n : ℕ) → Small b rows → (first rows ≡ Ok tt → n < b) → SmallAnswer b (answer (first rows) n)
  unfolding answer
  answer_small rows n s done = go (first rows) refl
    where
      go : (a : Result ⊤ Refusal) → first rows ≡ a → SmallAnswer b (answer a n)
      go (Ok u) p = done p
      go (Err refusal) p = s refusal p

-- ---- reading

module _ (level : ℕ) (s : List ℕ) (bytes : Below 256 s) where
  -- 1 5 6 7 8, of which 7 has the needed minor, four bytes of the header
  opening_small : Small (2 ^ 32) (opening_rows level s)
  unfolding opening_rows header_rows header_of
  opening_small =
      plain UnknownLevel _ _ refl
      (plain NoHeader _ _ refl
      (plain OtherMajor _ _ refl
      (row_small (NeedsMinor _) _ _ (λ _. word_small s 8 bytes) (λ _. plain BrokenHeader _ _ refl no_rows))))

  -- the count, four bytes of the header too
  pub count_small : (header_of s).count < 2 ^ 32
  unfolding header_of
  count_small = word_small s 24 bytes

  -- 15 has an id, four bytes of the side table
  ids_small : (h : Header) (k i : ℕ) → Small (2 ^ 32) (map id_row (ids_from h s k i))
  unfolding ids_from side_id id_row
  ids_small h zero i = no_rows
  ids_small h (suc k) i = row_small (MustBeUnderstood _) _ _ (λ _. word_small s (h.end + 12 * i) bytes) (λ _. ids_small h k (suc i))

  tables_small : Small (2 ^ 32) (table_rows (header_of s) s)
  unfolding table_rows side_rows need_row ids_in
  tables_small = plain BrokenTable _ _ refl (plain BrokenHeader _ _ refl (ids_small (header_of s) (header_of s).sides 0))

  -- 10, with the place
  fault_small : (j : ℕ) (a : Verdict) → ((g : ℕ) → a ≡ Err g → fault_detail j g < 2 ^ 32) → Small (2 ^ 32) (fault_row j a ∷ [])
  unfolding fault_row
  fault_small j (Ok kept) small = plain (BrokenChunk 0) false [] refl no_rows
  fault_small j (Err group) small = row_small (BrokenChunk (fault_detail j group)) true [] (λ _. small group refl) (λ _. no_rows)

  -- behind the opening: a chunk's number is below the number of chunks, and an index below the number of values
  module _ (pass : first (opening_rows level s) ≡ Ok tt) where
    layout : Layout (length s) (header_of s)
    layout = laid_out (length s) (header_of s) (opening level s pass).layout

    chunk_small : (j : ℕ) → j < (header_of s).chunks → Small (2 ^ 32) (chunk_row (header_of s) s j ∷ [])
    unfolding chunk_row fault_detail
    chunk_small j l =
        fault_small j (chunk_state (header_of s) s j)
        (λ g e. omega (arith, group_small (header_of s) s (length s) layout j l g e, layout.few, layout.chunks))

    pub content_small : Small (2 ^ 32) (content_rows (header_of s) s)
    unfolding content_rows chunk_rows
    content_small =
        append_small (table_rows (header_of s) s) (chunk_rows (header_of s) s) tables_small
        (λ _. from_small (chunk_row (header_of s) s) (header_of s).chunks 0 (λ j l m. chunk_small j (omega arith)))

    own_small : (i : ℕ) → i < (header_of s).count → Small (2 ^ 32) (own_rows (header_of s) s i)
    unfolding own_rows
    own_small i below =
        append_small (table_rows (header_of s) s) (chunk_row (header_of s) s (i / 1024) ∷ []) tables_small
        (λ _. chunk_small (i / 1024) (omega (arith, layout.chunks)))

  pub check_small : Small (2 ^ 32) (check_rows level s)
  unfolding check_rows
  check_small = append_small (opening_rows level s) (content_rows (header_of s) s) opening_small content_small

  unpack_small : (W room : ℕ) → Small (2 ^ 32) (unpack_rows W level s room)
  unfolding unpack_rows width_row room_row
  unpack_small W room =
      append_small (opening_rows level s) _ opening_small
      (λ pass. plain OtherWidth _ _ refl (row_small (NoRoom _) _ _ (λ _. count_small) (λ _. content_small pass)))

  pub probe_small : (W i : ℕ) → Small (2 ^ 32) (probe_rows W level s i)
  unfolding probe_rows width_row index_row
  probe_small W i =
      append_small (opening_rows level s) _ opening_small
      (λ pass.
      plain OtherWidth _ _ refl
      (row_small NoSuchIndex _ _ (λ _. lit< tt)
      (λ e. own_small pass i (ltb-true i (header_of s).count (not-false (ltb i (header_of s).count) e)))))

  pub check_answer_small : SmallAnswer (2 ^ 32) (check_answer level s)
  unfolding check_answer
  check_answer_small = answer_small (check_rows level s) (header_of s).count check_small (λ _. count_small)

  pub unpack_answer_small : (W room : ℕ) → SmallAnswer (2 ^ 32) (unpack_answer W level s room)
  unfolding unpack_answer
  unpack_answer_small W room = answer_small (unpack_rows W level s room) (header_of s).count (unpack_small W room) (λ _. count_small)

  -- ---- a value that probe shows has W bits: it is restored from a code that its chunk's width allows
  module _ (W i : ℕ) (pass : first (probe_rows W level s i) ≡ Ok tt) where
    pub value_small : value_at s i < 2 ^ W
    unfolding value_at value_in chunk_values chunk_state chunk_of
    value_small =
        let p = probing W level s i pass in
        let g = header_of s in
        let j = i / 1024 in
        let part = chunk_of g s j in
        let part_bytes =
        below_take 256 (start_at g s (j + 1) - start_at g s j) (drop (g.start + start_at g s j) s) (below_drop 256 (g.start + start_at g s j) s bytes) in
        let set = setting_in g in
        let codes = (good_is_exact (group_size set) (size_some set) g.width (limit_of set) (count_of g j) part part_bytes p.chunk).below in
        let known = (settled g p.opening.setting).known in
        rw (← p.width) (patterns_under set (width_bytes g.width known).format 0 (chunk_codes (group_size set) (count_of g j) part) codes (i % 1024))

-- ---- writing

module _ (W level mode : ℕ) (k : ℤ) (size : ℕ) (vs : List ℕ) (known : known_width W ≡ true) (below : Below (2 ^ W) vs) where
  length_small : Small (2 ^ 32) (length_rows W level mode k size (length vs))
  unfolding length_rows
  length_small = plain UnknownLevel _ _ refl (plain NotAllowed _ _ refl (plain TooManyValues _ _ refl no_rows))

  -- behind 3 the values are few, and so are the bytes
  stream_small : first (length_rows W level mode k size (length vs)) ≡ Ok tt → length (stream level (setting_at level W mode k size) vs) < 2 ^ 32
  stream_small pass =
      rw (length_stream level (setting_at level W mode k size) vs)
      (omega (arith, end_small (setting_at level W mode k size) vs known below (length_passed W level mode k size (length vs) pass).few (chunks_in (length vs)) (omega arith)))

  pub length_answer_small : SmallAnswer (2 ^ 32) (length_answer W level mode k size vs)
  unfolding length_answer
  length_answer_small = answer_small (length_rows W level mode k size (length vs)) (length (stream level (setting_at level W mode k size) vs)) length_small stream_small

  -- 4, which has that length, stands behind 3
  module _ (room : ℕ) where
    abbrev short : List Row
    short = row (NoRoom (length (stream level (setting_at level W mode k size) vs))) (ltb room (length (stream level (setting_at level W mode k size) vs))) ∷ []

    pack_small : Small (2 ^ 32) (length_rows W level mode k size (length vs) ++ short)
    pack_small =
        append_small (length_rows W level mode k size (length vs)) short length_small
        (λ pass. row_small (NoRoom _) _ _ (λ _. stream_small pass) (λ _. no_rows))

    pub pack_answer_small : SmallAnswer (2 ^ 32) (pack_answer W level mode k size vs room)
    unfolding pack_answer pack_rows
    pack_answer_small =
        answer_small (pack_rows W level mode k size vs room) (length (stream level (setting_at level W mode k size) vs)) pack_small
        (λ pass. stream_small (opened_both (length_rows W level mode k size (length vs)) short pass).0)
