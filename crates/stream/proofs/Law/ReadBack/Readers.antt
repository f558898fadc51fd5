-- A written stream, with any well-formed side parts and any needed minor, before every reader: row 7 is given where the level does not reach that minor.
-- Where it does, what the ids of its side parts say is all that is left: row 8 where they ask for another need or the written minor is below it, row 15
-- for the first high one, and else no row.
use mathlib.Core.Path.{◌≡◌, refl, sym, ap, ap₂, subst, ◌∙◌}
use mathlib.Core.Logic.{◌⊎◌, inl, inr}
use mathlib.Core.Bool.{Bool, true, false, ◌&&◌, not, cond}
use mathlib.Core.List.{List, [], ◌∷◌, ◌++◌, append_assoc, append-nil, map}
use Prim.Native.Nat.{ℕ, zero, suc, ◌+◌, ◌*◌, ◌/◌, ◌^◌, ◌≤◌, ◌<◌, zero-le}
use native.Mathlib.Nat.{lt_of_le_of_lt}
use native.Mathlib.Omega.{arith}
use borrow.Author.Tests.{lt-ltb, le-ltb, lt-leb, le-leb, eq-eqb, ne_eqb}
use lib.Dec.{leb, eqb, lit<}
use lib.ListN.{length, drop, get_or, length-append, get_or-append}
use Rattle.blocks.specs.Bytes.{Below}
use Rattle.stream.specs.Chunk.{good}
use Rattle.stream.specs.Setting.{known_level, need, stream_need, k_bits, group_size, codes_of, mode_number}
use Rattle.stream.specs.Rows.{Row, rows_from, first}
use Rattle.stream.specs.Header.{word, header_of, k_of, chunks_in, setting_right, layout_right}
use Rattle.stream.specs.Tables.{chunk_table_right, side_table_right, ids_in, some_high, first_high}
use Rattle.stream.specs.Stream.{chunk_state, values_in, values}
use Rattle.stream.specs.Writing.{spell, piece, piece_bytes, data_of, starts_of, header_numbers, end_of, body, stream, Side, entries, parts, placed, add_sides, ids_of, increasing, WellFormedSides}
use Rattle.stream.specs.Packing.{Sent}
use Rattle.stream.specs.Theorem.{coming_back}
use Rattle.stream.specs.Operations.{header_rows, opening_rows, need_row, id_row, side_rows, table_rows, chunk_row, chunk_rows, content_rows, own_rows, check_rows, unpack_rows, probe_rows}
use Rattle.std.specs.Prelude.{⊤, Result, Ok, Err}
use Rattle.stream.specs.declared.answers.Refusal.{Refusal}
use Rattle.stream.specs.declared.answers.Refusal.TheVariants.{NeedsMinor, BrokenHeader, MustBeUnderstood}
use Rattle.stream.specs.declared.header.Header.{Header}
use Rattle.stream.specs.declared.setting.Setting.{Setting}
use Rattle.stream.proofs.Law.Rows.First.{and_then, then_none, first_append, passed}
use Rattle.stream.proofs.Law.Rows.Ids.{low_pass, high_stop}
use Rattle.stream.proofs.Law.Rows.Chunks.{good_row, tables_pass}
use Rattle.stream.proofs.Law.Rows.Given.{check_shut, unpack_shut, probe_shut, check_content, unpack_content, probe_own}
use Rattle.blocks.proofs.Law.Digits.{byte, below_append}
use Rattle.blocks.proofs.Law.Truth.{le_or_lt}
use Rattle.stream.proofs.Law.Setting.Codes.{codes_under}
use Rattle.stream.proofs.Law.Setting.Allowed.{Storable, width_most, ruled_stream_need}
use Rattle.stream.proofs.Law.Setting.Widths.{width_bytes, need_small, low_need, need_most}
use Rattle.stream.proofs.Law.Setting.Exponent.{setting_back}
use Rattle.stream.proofs.Law.Plain.Joined.{joined_below}
use Rattle.stream.proofs.Law.Written.Numbers.{length_spell, spell_below, spell_put}
use Rattle.stream.proofs.Law.ReadBack.Values.{chunk_below}
use Rattle.stream.proofs.Law.Written.Pieces.{piece_below, end_is}
use Rattle.stream.proofs.Law.Rows.Packing.{length_stream}
use Rattle.stream.proofs.Law.ReadBack.Header.{header_for, Front, front_numbers, length_numbers, front_word, header_is, setting_right_lem, setting_wrong, layout_right_lem}
use Rattle.stream.proofs.Law.ReadBack.Chunks.{chunk_table_right_lem, chunk_good, values_back}
use Rattle.stream.proofs.Law.ReadBack.Sides.{length_sided, ids_read, side_table_right_lem}

-- ---- side parts and the minors are put in

-- what comes behind the data
abbrev behind_data : Setting → List ℕ → List Side → List ℕ
behind_data t vs ps = spell (entries (end_of t vs (chunks_in (length vs)) + 12 * length ps) ps) ++ parts ps

-- the whole stream, with a needed minor
abbrev whole : ℕ → ℕ → Setting → List ℕ → List Side → List ℕ
whole level needed t vs ps = spell (front_numbers level needed t vs (length ps)) ++ (data_of t vs (chunks_in (length vs)) ++ behind_data t vs ps)

module _ (level : ℕ) (t : Setting) (vs : List ℕ) (ps : List Side) where
  -- side parts come behind the data, and the header counts them
  sided : add_sides (stream level t vs) ps ≡ whole level (need t) t vs ps
  unfolding placed add_sides stream body header_numbers
  sided =
      let c = chunks_in (length vs) in
      let ten : List ℕ = 1 ∷ level ∷ need t ∷ t.width ∷ mode_number t ∷ k_bits t ∷ length vs ∷ c ∷ 48 ∷ (48 + 4 * c) ∷ [] in
      let front = spell (front_numbers level (need t) t vs (length ps)) in
      let table = spell (entries (end_of t vs c + 12 * length ps) ps) in
      ap₂ (λ (b : List ℕ) (n : ℕ). b ++ spell (entries (n + 12 * length ps) ps) ++ parts ps)
      (spell_put ten (end_of t vs c ∷ starts_of t vs c) (data_of t vs c) 40 refl 0 (length ps))
      (length_stream level t vs)
      ∙ append_assoc (front ++ data_of t vs c) table (parts ps)
      ∙ append_assoc front (data_of t vs c) (table ++ parts ps)

  -- another needed minor is put in its place
  pub needing : (needed : ℕ) → placed 8 needed (add_sides (stream level t vs) ps) ≡ whole level needed t vs ps
  unfolding placed header_numbers
  needing needed =
      let c = chunks_in (length vs) in
      ap (placed 8 needed) sided
      ∙ spell_put (1 ∷ level ∷ []) (drop 3 (header_numbers level t (length vs) (length ps) (end_of t vs c)) ++ starts_of t vs c) (data_of t vs c ++ behind_data t vs ps) 8 refl (need t) needed

  -- where it is the one that stood there, nothing changes
  pub same_need : placed 8 (need t) (add_sides (stream level t vs) ps) ≡ add_sides (stream level t vs) ps
  same_need = needing (need t) ∙ sym sided

  pub sided_sent : WellFormedSides (length (stream level t vs) + 12 * length ps) ps → Sent level t vs ps (need t) (add_sides (stream level t vs) ps)
  sided_sent well = record { well_formed = well; fits = lt_of_le_of_lt (need_small t) (lit< tt); bytes = sym same_need }

-- with another written minor it is the stream of that minor
pub rewritten : (level written : ℕ) (t : Setting) (vs : List ℕ) (ps : List Side) → placed 4 written (add_sides (stream level t vs) ps) ≡ add_sides (stream written t vs) ps
unfolding placed header_numbers
rewritten level written t vs ps =
    let c = chunks_in (length vs) in
    ap (placed 4 written) (sided level t vs ps)
    ∙ spell_put (1 ∷ []) (need t ∷ drop 3 (header_numbers level t (length vs) (length ps) (end_of t vs c)) ++ starts_of t vs c) (data_of t vs c ++ behind_data t vs ps) 4 refl level written
    ∙ sym (sided written t vs ps)

-- the plain stream has none
module _ (level : ℕ) (t : Setting) (vs : List ℕ) where
  plain_is : stream level t vs ≡ add_sides (stream level t vs) []
  unfolding stream body header_numbers entries parts spell
  plain_is =
      let c = chunks_in (length vs) in
      sym (sided level t vs [] ∙ ap (λ (l : List ℕ). spell (front_numbers level (need t) t vs 0) ++ l) (append-nil (data_of t vs c)))

  no_sides : (place : ℕ) → WellFormedSides place []
  unfolding increasing entries parts
  no_sides place = record { few = zero-le; ordered = refl; numbers = λ i. lit< tt; are_bytes = λ i. byte }

  pub plain_sent : Sent level t vs [] (need t) (stream level t vs)
  plain_sent = subst (Sent level t vs [] (need t)) (sym plain_is) (sided_sent level t vs [] (no_sides (length (stream level t vs) + 12 * 0)))

turned : (b : Bool) (x y : Result ⊤ Refusal) → cond (not b) x y ≡ cond b y x
turned true x y = refl
turned false x y = refl

-- rows of which none is given
all_pass : (f : ℕ → Row) (k i : ℕ) → ((j : ℕ) → i ≤ j → j < i + k → first (f j ∷ []) ≡ Ok tt) → first (rows_from f k i) ≡ Ok tt
unfolding rows_from first
all_pass f zero i h = refl
all_pass f (suc k) i h = passed (f i) (rows_from f k (suc i)) (h i (omega arith) (omega arith)) ∙ all_pass f k (suc i) (λ j l m. h j (omega arith) (omega arith))

module _ (level : ℕ) (t : Setting) (vs : List ℕ) (p : Storable level t vs) (ps : List Side) (needed : ℕ) (s : List ℕ) (sent : Sent level t vs ps needed s) where
  abbrev well : WellFormedSides (end_of t vs (chunks_in (length vs)) + 12 * length ps) ps
  well = subst (λ (n : ℕ). WellFormedSides (n + 12 * length ps) ps) (length_stream level t vs) sent.well_formed

  abbrev chunks : ℕ
  chunks = chunks_in (length vs)

  abbrev behind : List ℕ
  behind = behind_data t vs ps

  abbrev numbers : List ℕ
  numbers = front_numbers level needed t vs (length ps)

  fits : Front level needed t vs (length ps)
  fits = record { list = p; fits = sent.fits; few = well.few }

  -- the parts of the stream, as the header and the tables see them
  after_front : s ≡ spell numbers ++ (data_of t vs chunks ++ behind)
  after_front = sent.bytes ∙ needing level t vs ps needed

  after_data : s ≡ (spell numbers ++ data_of t vs chunks) ++ behind
  after_data = after_front ∙ sym (append_assoc (spell numbers) (data_of t vs chunks) behind)

  data_ends : length (spell numbers ++ data_of t vs chunks) ≡ end_of t vs chunks
  data_ends =
      length-append (spell numbers) (data_of t vs chunks)
      ∙ ap (λ (n : ℕ). n + length (data_of t vs chunks))
      (length_spell numbers ∙ ap (λ (n : ℕ). 4 * n) (length_numbers level needed t vs (length ps)) ∙ (let e : 4 * (12 + chunks) ≡ 48 + 4 * chunks = omega arith in e))
      ∙ end_is t vs chunks

  pub length_is : length s ≡ end_of t vs chunks + 12 * length ps + length (parts ps)
  length_is = ap length after_data ∙ length_sided (header_for level needed t vs (length ps)) (spell numbers ++ data_of t vs chunks) ps well data_ends refl

  pub header_read : header_of s ≡ header_for level needed t vs (length ps)
  header_read = ap header_of after_front ∙ header_is level needed t vs (length ps) fits (data_of t vs chunks ++ behind)

  pub header_words : (j : ℕ) → j < 12 → word s (4 * j) ≡ get_or (1 ∷ level ∷ needed ∷ drop 3 (header_numbers level t (length vs) (length ps) (end_of t vs chunks))) j 0
  unfolding header_numbers
  header_words j h =
      let header : List ℕ = 1 ∷ level ∷ needed ∷ drop 3 (header_numbers level t (length vs) (length ps) (end_of t vs chunks)) in
      ap (λ (l : List ℕ). word l (4 * j)) after_front
      ∙ front_word level needed t vs (length ps) fits (data_of t vs chunks ++ behind) j (omega arith)
      ∙ get_or-append header (starts_of t vs chunks) 0 j h

  -- every byte is below 256: the numbers' digits, the chunks, and the side parts
  pub bytes_sent : Below 256 s
  unfolding data_of piece_bytes
  bytes_sent =
      let data-below : Below 256 (data_of t vs chunks) =
      joined_below (piece_bytes t vs) 256 byte
      (λ j. chunk_below (group_size t) t.width (codes_of t (piece vs j)) (lt_of_le_of_lt (width_most t.width p.setting.known) (lit< tt))
      (codes_under t (width_bytes t.width p.setting.known).format 0 (piece vs j) (piece_below (2 ^ t.width) vs j p.patterns)))
      chunks in
      let table = entries (end_of t vs chunks + 12 * length ps) ps in
      λ i. rw after_front
      (below_append 256 (spell numbers) (data_of t vs chunks ++ behind) (spell_below numbers)
      (below_append 256 (data_of t vs chunks) behind data-below (below_append 256 (spell table) (parts ps) (spell_below table) well.are_bytes)) i)

  -- ---- the rules

  pub setting_kept : need t ≤ needed → needed ≤ level → setting_right (header_of s) ≡ true
  setting_kept least reached = rw header_read (setting_right_lem level needed t vs (length ps) fits least reached)

  setting_broken : (needed < need t) ⊎ (level < needed) → setting_right (header_of s) ≡ false
  setting_broken wrong = rw header_read (setting_wrong level needed t vs (length ps) fits wrong)

  pub layout_kept : layout_right (length s) (header_of s) ≡ true
  layout_kept = rw header_read (layout_right_lem level needed t vs (length ps) fits (length s) (omega (arith, length_is)))

  pub chunk_table_kept : chunk_table_right (header_of s) s ≡ true
  chunk_table_kept = ap₂ chunk_table_right header_read after_front ∙ chunk_table_right_lem level needed t vs (length ps) fits behind

  pub side_table_kept : side_table_right (header_of s) s ≡ true
  side_table_kept =
      ap₂ side_table_right header_read after_data
      ∙ side_table_right_lem (header_for level needed t vs (length ps)) (spell numbers ++ data_of t vs chunks) ps well data_ends refl

  pub ids_kept : ids_in (header_of s) s ≡ ids_of ps
  ids_kept =
      ap₂ ids_in header_read after_data
      ∙ ids_read (header_for level needed t vs (length ps)) (spell numbers ++ data_of t vs chunks) ps well data_ends refl

  pub chunks_kept : (j : ℕ) → j < chunks → chunk_state (header_of s) s j ≡ good
  chunks_kept j h = ap₂ (λ (x : Header) (l : List ℕ). chunk_state x l j) header_read after_front ∙ chunk_good level needed t vs (length ps) fits behind j h

  pub values_read : values s ≡ coming_back t vs
  unfolding values
  values_read = ap₂ values_in header_read after_front ∙ values_back level needed t vs (length ps) fits behind

  long : 48 ≤ length s
  long = omega (arith, length_is, end_is t vs chunks)

  -- ---- the rows

  -- what the tables and the chunks say is what the ids say
  abbrev late : Result ⊤ Refusal
  late = cond (not (eqb needed (stream_need t (some_high (ids_of ps))))) (Err BrokenHeader) (first (map id_row (ids_of ps)))

  tables_read : first (table_rows (header_of s) s) ≡ late
  unfolding side_rows need_row first k_of
  tables_read =
      sym (tables_pass (header_of s) s true true (sym chunk_table_kept) (sym side_table_kept) refl)
      ∙ rw (ids_kept, header_read, setting_back t p.setting, ruled_stream_need 0 t (some_high (ids_of ps)))

  -- and with the early 8: where both minors are right the ids decide, and else it is 8
  abbrev pub told : Result ⊤ Refusal
  told = cond (leb needed level && eqb needed (stream_need t (some_high (ids_of ps)))) (first (map id_row (ids_of ps))) (Err BrokenHeader)

  pub told_low : some_high (ids_of ps) ≡ false → needed ≡ need t → told ≡ Ok tt
  told_low low is =
      rw (low, le-leb needed level (omega (arith, p.needs, is)), eq-eqb needed (stream_need t false) (is ∙ sym (low_need t))) (low_pass (ids_of ps) low)

  pub told_high : some_high (ids_of ps) ≡ true → needed ≡ stream_need t true → needed ≤ level → told ≡ Err (MustBeUnderstood (first_high (ids_of ps)))
  told_high high is reached = rw (high, le-leb needed level reached, eq-eqb needed (stream_need t true) is) (high_stop (ids_of ps) high)

  pub told_wrong : ((needed ≡ stream_need t (some_high (ids_of ps))) × (needed ≤ level) → ⊥) → told ≡ Err BrokenHeader
  told_wrong other = go (le_or_lt needed level)
    where
      go : (needed ≤ level) ⊎ (level < needed) → told ≡ Err BrokenHeader
      go (inl reached) = rw (le-leb needed level reached, ne_eqb needed (stream_need t (some_high (ids_of ps))) (λ is. other (is, reached)))
      go (inr exceeds) = rw (lt-leb needed level exceeds)

  told_early : (needed < need t) ⊎ (level < needed) → told ≡ Err BrokenHeader
  told_early (inl short) = told_wrong (λ right. omega (arith, need_most t (some_high (ids_of ps)), right.0))
  told_early (inr exceeds) = told_wrong (λ right. omega (arith, right.1))

  told_late : needed ≤ level → late ≡ told
  told_late reached = rw (le-leb needed level reached) (turned (eqb needed (stream_need t (some_high (ids_of ps)))) (Err BrokenHeader) (first (map id_row (ids_of ps))))

  -- so a reader says this, if it says the early 8 by the minors and else what is late
  either_time : (x : Result ⊤ Refusal) → (need t ≤ needed → needed ≤ level → x ≡ late) → ((needed < need t) ⊎ (level < needed) → x ≡ Err BrokenHeader) → x ≡ told
  either_time x good broken = go (le_or_lt (need t) needed) (le_or_lt needed level)
    where
      go : (need t ≤ needed) ⊎ (needed < need t) → (needed ≤ level) ⊎ (level < needed) → x ≡ told
      go (inl least) (inl reached) = good least reached ∙ told_late reached
      go (inl least) (inr exceeds) = broken (inr exceeds) ∙ sym (told_early (inr exceeds))
      go (inr short) r = broken (inl short) ∙ sym (told_early (inl short))

  then_good : (rows : List Row) → first rows ≡ Ok tt → first (table_rows (header_of s) s ++ rows) ≡ late
  then_good rows good =
      first_append (table_rows (header_of s) s) rows
      ∙ ap₂ and_then tables_read good
      ∙ then_none late

  content_read : first (content_rows (header_of s) s) ≡ late
  unfolding content_rows chunk_rows
  content_read =
      then_good (chunk_rows (header_of s) s)
      (all_pass (chunk_row (header_of s) s) (header_of s).chunks 0
      (λ j l m. sym (good_row (header_of s) s j (chunks_kept j (let e = ap (λ (x : Header). x.chunks) header_read in omega arith)))))

  own_read : (i : ℕ) → i < length vs → first (own_rows (header_of s) s i) ≡ late
  unfolding own_rows chunks_in
  own_read i l = then_good (chunk_row (header_of s) s (i / 1024) ∷ []) (sym (good_row (header_of s) s (i / 1024) (chunks_kept (i / 1024) (omega arith))))

  module _ (L : ℕ) (known : known_level L ≡ true) where
    opening_pass : needed ≤ L → need t ≤ needed → needed ≤ level → first (opening_rows L s) ≡ Ok tt
    unfolding opening_rows header_rows first
    opening_pass h least reached =
        rw (known, le-ltb (length s) 48 long, setting_kept least reached, layout_kept) (rw (header_read, le-ltb L needed h))

    opening_broken : needed ≤ L → (needed < need t) ⊎ (level < needed) → first (opening_rows L s) ≡ Err BrokenHeader
    unfolding opening_rows header_rows first
    opening_broken h wrong =
        rw (known, le-ltb (length s) 48 long, setting_broken wrong) (rw (header_read, le-ltb L needed h))

    opening_stop : L < needed → first (opening_rows L s) ≡ Err (NeedsMinor needed)
    unfolding opening_rows header_rows first
    opening_stop h =
        rw (known, le-ltb (length s) 48 long) (rw (header_read, lt-ltb L needed h))

    pub check_read : needed ≤ L → first (check_rows L s) ≡ told
    check_read h =
        either_time (first (check_rows L s))
        (λ least reached. sym (check_content L s (opening_pass h least reached) (header_of s) refl) ∙ content_read)
        (λ wrong. sym (check_shut L s BrokenHeader (opening_broken h wrong)))

    pub check_stop : L < needed → first (check_rows L s) ≡ Err (NeedsMinor needed)
    check_stop h = sym (check_shut L s (NeedsMinor needed) (opening_stop h))

    pub unpack_read : (room : ℕ) → length vs ≤ room → needed ≤ L → first (unpack_rows t.width L s room) ≡ told
    unpack_read room l h =
        let width = ap (λ (x : Header). x.width) header_read in
        let count = ap (λ (x : Header). x.count) header_read in
        either_time (first (unpack_rows t.width L s room))
        (λ least reached. sym (unpack_content L s (opening_pass h least reached) (header_of s) refl t.width room width (omega (arith, count))) ∙ content_read)
        (λ wrong. sym (unpack_shut L s BrokenHeader (opening_broken h wrong) t.width room))

    pub unpack_stop : (W room : ℕ) → L < needed → first (unpack_rows W L s room) ≡ Err (NeedsMinor needed)
    unpack_stop W room h = sym (unpack_shut L s (NeedsMinor needed) (opening_stop h) W room)

    pub probe_read : (i : ℕ) → i < length vs → needed ≤ L → first (probe_rows t.width L s i) ≡ told
    probe_read i l h =
        let width = ap (λ (x : Header). x.width) header_read in
        let count = ap (λ (x : Header). x.count) header_read in
        either_time (first (probe_rows t.width L s i))
        (λ least reached. sym (probe_own L s (opening_pass h least reached) (header_of s) refl t.width i width (omega (arith, count))) ∙ own_read i l)
        (λ wrong. sym (probe_shut L s BrokenHeader (opening_broken h wrong) t.width i))

    pub probe_stop : (W i : ℕ) → L < needed → first (probe_rows W L s i) ≡ Err (NeedsMinor needed)
    probe_stop W i h = sym (probe_shut L s (NeedsMinor needed) (opening_stop h) W i)
