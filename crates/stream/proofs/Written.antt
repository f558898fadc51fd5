-- What is written, and that it is read back: the theorems on packed streams, plain or with well-formed side parts behind the data, for
-- any width that document 01 knows. The proofs are citations of the laws in proofs/Law/. The words are those of specs/.
use mathlib.Core.Path.{◌≡◌, refl, sym, ap, subst, ◌∙◌}
use mathlib.Core.Logic.{◌⊎◌, inl, inr, ◌↔◌}
use mathlib.Core.Bool.{true, false, ◌&&◌, cond}
use mathlib.Core.List.{List, [], ◌∷◌, ◌++◌, map}
use Prim.Native.Nat.{ℕ, ◌+◌, ◌-◌, ◌*◌, ◌/◌, ◌^◌, ◌≤◌, ◌<◌}
use native.Mathlib.Omega.{arith}
use borrow.Author.Tests.{eq-eqb, lt-ltb, le-ltb}
use lib.Dec.{leb, ltb, eqb, lit<}
use lib.IntN.{ℤ}
use lib.ListN.{length, take, drop, get_or}
use lib.Seq.{take_at}
use Rattle.bins.specs.Tolerance.{bin_of, ordinal, tolerance_code, tolerance_restored}
use Rattle.numbers.specs.Theorem.{Within}
use Rattle.blocks.specs.Bytes.{Below}
use Rattle.stream.specs.Setting.{known_level, known_width, fraction_bits, lossless_mode, bin_for, setting_of, ruled, setting_at, need, stream_need}
use Rattle.stream.specs.Chunk.{good, groups_in}
use Rattle.stream.specs.Rows.{row, first, Decides, numbers_of, answer, after}
use Rattle.stream.specs.Header.{word, header_of, chunks_in, setting_right, layout_right}
use Rattle.stream.specs.Tables.{chunk_table_right, side_table_right, ids_in, some_high, first_high}
use Rattle.stream.specs.Stream.{chunk_state, values}
use Rattle.stream.specs.Writing.{header_numbers, end_of, stream, Side, placed, add_sides, ids_of, WellFormedSides}
use Rattle.stream.specs.Packing.{Packable, Sent, most_bytes}
use Rattle.stream.specs.Theorem.{coming_back, TooNew, RefusedBy}
use Rattle.stream.specs.Operations.{id_row, check_rows, check_answer, unpack_rows, unpack_answer, unpack_out, probe_rows, probe_answer32, probe_answer64, length_rows, length_answer, pack_rows, pack_answer, pack_out}
use Rattle.std.specs.Prelude.{⊤, Result, Ok, Err}
use Rattle.stream.specs.declared.answers.Refusal.{Refusal}
use Rattle.stream.specs.declared.answers.Refusal.TheVariants.{NoRoom, NeedsMinor, BrokenHeader, MustBeUnderstood}
use Rattle.stream.specs.declared.header.Header.{Header}
use Rattle.blocks.proofs.Law.Truth.{le_or_lt}
use Rattle.stream.proofs.Law.Rows.First.{opened_both, decides, decided, done_pass, refused_stop}
use Rattle.stream.proofs.Law.Written.Pieces.{end_most}
use Rattle.stream.proofs.Law.Rows.Packing.{Passed, length_passed, rows_pass, room_enough, length_stream, length_done, pack_done}
use Rattle.stream.proofs.Law.ReadBack.Readers.{same_need, rewritten, sided_sent, plain_sent, bytes_sent, header_words, header_read, setting_kept, layout_kept, chunk_table_kept, side_table_kept, ids_kept, chunks_kept, values_read, told_low, told_high, told_wrong, check_read, check_stop, unpack_read, unpack_stop, probe_read, probe_stop}
use Rattle.stream.proofs.Law.Setting.Allowed.{level_small, group_size_is, size_cases, size_known, mode_allowed, mode_small, made_allowed, ruled_allowed, storable}
use Rattle.stream.proofs.Law.ReadBack.Values.{lossless_back, length_back, ruled_back, tolerance_back, special_back}

-- Demand 1: a refused pack leaves its output as it was.
pub refused_pack_untouched : (W level mode : ℕ) (k : ℤ) (size : ℕ) (vs out : List ℕ) (refusal : Refusal)
    → pack_answer W level mode k size vs (length out) ≡ Err refusal → pack_out W level mode k size vs out ≡ out
unfolding pack_answer pack_out after
refused_pack_untouched W level mode k size vs out refusal e =
    rw (refused_stop (first (pack_rows W level mode k size vs (length out))) (length (stream level (setting_at level W mode k size) vs)) refusal e)

-- a refusal is the first row that is given: "given exactly when"
pub refused_length : (W level mode : ℕ) (k : ℤ) (size : ℕ) (vs : List ℕ) (refusal : Refusal)
    → length_answer W level mode k size vs ≡ Err refusal ↔ Decides (length_rows W level mode k size (length vs)) refusal
unfolding length_answer answer
refused_length W level mode k size vs refusal =
    let rows = length_rows W level mode k size (length vs) in
    let long = length (stream level (setting_at level W mode k size) vs) in
    (λ e. decides rows refusal (refused_stop (first rows) long refusal e), λ d. ap (λ (a : Result ⊤ Refusal). answer a long) (decided rows refusal d))

pub refused_pack : (W level mode : ℕ) (k : ℤ) (size : ℕ) (vs : List ℕ) (room : ℕ) (refusal : Refusal)
    → pack_answer W level mode k size vs room ≡ Err refusal ↔ Decides (pack_rows W level mode k size vs room) refusal
unfolding pack_answer answer
refused_pack W level mode k size vs room refusal =
    let rows = pack_rows W level mode k size vs room in
    let long = length (stream level (setting_at level W mode k size) vs) in
    (λ e. decides rows refusal (refused_stop (first rows) long refusal e), λ d. ap (λ (a : Result ⊤ Refusal). answer a long) (decided rows refusal d))

-- the stated order: "Pack: 1 2 3 4. Length: 1 2 3"
pub length_order : (W level mode : ℕ) (k : ℤ) (size : ℕ) (n : ℕ) → numbers_of (length_rows W level mode k size n) ≡ 1 ∷ 2 ∷ 3 ∷ []
unfolding length_rows numbers_of
length_order W level mode k size n = refl

pub pack_order : (W level mode : ℕ) (k : ℤ) (size : ℕ) (vs : List ℕ) (room : ℕ) → numbers_of (pack_rows W level mode k size vs room) ≡ 1 ∷ 2 ∷ 3 ∷ 4 ∷ []
unfolding pack_rows length_rows numbers_of
pack_order W level mode k size vs room = refl

-- what an accepted pack says of its call, and what it leaves
module _ (W level mode : ℕ) (k : ℤ) (size : ℕ) (vs out : List ℕ) (n : ℕ) (done : pack_answer W level mode k size vs (length out) ≡ Ok n) where
  passes : (first (pack_rows W level mode k size vs (length out)) ≡ Ok tt) × (length (stream level (setting_at level W mode k size) vs) ≡ n)
  unfolding pack_answer
  passes = done_pass (first (pack_rows W level mode k size vs (length out))) (length (stream level (setting_at level W mode k size) vs)) n done

  three_passed : Passed W level mode k size (length vs)
  unfolding pack_rows
  three_passed =
      let long = length (stream level (setting_at level W mode k size) vs) in
      length_passed W level mode k size (length vs) (opened_both (length_rows W level mode k size (length vs)) (row (NoRoom long) (ltb (length out) long) ∷ []) passes.0).0

  -- with any written minor that is not below its level
  pub accepted_later : known_width W ≡ true → Below (2 ^ W) vs → (written : ℕ) → level ≤ written → written < 2 ^ 32 → Packable W written mode k size vs
  accepted_later width below written later minor =
      let p = three_passed in
      record {
        width = width;
        minor = minor;
        allowed = p.allowed;
        needs = omega (arith, p.needs, later);
        few = p.few;
        patterns = below;
      }

  pub accepted_list : known_width W ≡ true → Below (2 ^ W) vs → Packable W level mode k size vs
  accepted_list width below = accepted_later width below level (omega arith) (level_small level three_passed.known)

  -- what it takes: a list within the limit, a level that is known, a mode and a group size that there are, and a setting that the level allows
  pub accepted_setting : (length vs ≤ 1048576) × (known_level level ≡ true) × (mode ≤ 2) × ((size ≡ 32) ⊎ (size ≡ 128)) × (need (setting_of W mode k size) ≤ level)
  accepted_setting =
      let p = three_passed in
      let modes = mode_allowed W mode k size p.allowed in
      (p.few, p.known, mode_small W mode k modes, size_cases size (size_known W mode k size p.allowed), p.needs)

  pub accepted_bytes : take n (pack_out W level mode k size vs out) ≡ stream level (setting_at level W mode k size) vs
  unfolding pack_out after
  accepted_bytes =
      rw passes.0
      (take_at (stream level (setting_at level W mode k size) vs) (drop (length (stream level (setting_at level W mode k size) vs)) out) n passes.1)

  -- pack leaves the stream of document 01, and alters nothing past it
  pub accepted_leaves : (n ≡ length (stream level (setting_at level W mode k size) vs)) × (pack_out W level mode k size vs out ≡ stream level (setting_at level W mode k size) vs ++ drop n out)
  unfolding pack_out after
  accepted_leaves = (sym passes.1, rw (passes.0, passes.1))

  -- and what a reader may meet of it: side parts added, and a need in its place
  module _ (ps : List Side) (well : WellFormedSides (n + 12 * length ps) ps) where
    lies : WellFormedSides (length (stream level (setting_at level W mode k size) vs) + 12 * length ps) ps
    lies = subst (λ (m : ℕ). WellFormedSides (m + 12 * length ps) ps) (sym passes.1) well

    pub accepted_is_sent : Sent level (setting_at level W mode k size) vs ps (need (setting_of W mode k size)) (add_sides (take n (pack_out W level mode k size vs out)) ps)
    unfolding need
    accepted_is_sent =
        subst (λ (b : List ℕ). Sent level (setting_at level W mode k size) vs ps (need (setting_of W mode k size)) (add_sides b ps)) (sym accepted_bytes)
        (sided_sent level (setting_at level W mode k size) vs ps lies)

    pub accepted_is_raised : (written needed : ℕ) → needed < 2 ^ 32
        → Sent written (setting_at level W mode k size) vs ps needed (placed 8 needed (placed 4 written (add_sides (take n (pack_out W level mode k size vs out)) ps)))
    accepted_is_raised written needed fits =
        record {
          well_formed = subst (λ (m : ℕ). WellFormedSides (m + 12 * length ps) ps) (length_stream level (setting_at level W mode k size) vs ∙ sym (length_stream written (setting_at level W mode k size) vs)) lies;
          fits = fits;
          bytes = ap (placed 8 needed) (ap (λ (b : List ℕ). placed 4 written (add_sides b ps)) accepted_bytes ∙ rewritten level written (setting_at level W mode k size) vs ps);
        }

  -- side parts alone leave the minors as pack wrote them
  pub the_minors_as_they_were : (ps : List Side)
      → placed 8 (need (setting_of W mode k size)) (placed 4 level (add_sides (take n (pack_out W level mode k size vs out)) ps)) ≡ add_sides (take n (pack_out W level mode k size vs out)) ps
  unfolding need
  the_minors_as_they_were ps =
      rw accepted_bytes
      (ap (placed 8 (need (setting_of W mode k size))) (rewritten level level (setting_at level W mode k size) vs ps) ∙ same_need level (setting_at level W mode k size) vs ps)

-- for a list that a stream may hold
module _ (W level mode : ℕ) (k : ℤ) (size : ℕ) (vs : List ℕ) (p : Packable W level mode k size vs) where
  -- ---- writing

  -- length answers the stream's length, at a level that we know
  pub length_is_answered : known_level level ≡ true → length_answer W level mode k size vs ≡ Ok (length (stream level (setting_at level W mode k size) vs))
  length_is_answered known = sym (length_done W level mode k size vs (length (stream level (setting_at level W mode k size) vs)) (rows_pass W level mode k size vs known p) (length_stream level (setting_at level W mode k size) vs))

  -- pack writes the stream where there is room for it, and alters nothing past it
  pub the_stream_is_packed : known_level level ≡ true → (out : List ℕ) → length (stream level (setting_at level W mode k size) vs) ≤ length out
      → (pack_answer W level mode k size vs (length out) ≡ Ok (length (stream level (setting_at level W mode k size) vs)))
      × (pack_out W level mode k size vs out ≡ stream level (setting_at level W mode k size) vs ++ drop (length (stream level (setting_at level W mode k size) vs)) out)
  the_stream_is_packed known out room =
      let done =
      pack_done W level mode k size vs out (rows_pass W level mode k size vs known p) (length (stream level (setting_at level W mode k size) vs)) (stream level (setting_at level W mode k size) vs ++ drop (length (stream level (setting_at level W mode k size) vs)) out)
      (sym (room_enough (setting_at level W mode k size) vs (length out) (rw (length_stream level (setting_at level W mode k size) vs) at room))) refl refl in
      (sym done.0, sym done.1)

  -- "Packed length is never above 48 + 4c + (n/32 rounded up) + n·W/8."
  pub packed_length_bound :
      length (stream level (setting_at level W mode k size) vs) ≤ 48 + 4 * chunks_in (length vs) + groups_in size (length vs) + length vs * W / 8
  unfolding most_bytes
  packed_length_bound =
      let t = setting_at level W mode k size in
      subst (λ (z : ℕ). length (stream level t vs) ≤ 48 + 4 * chunks_in (length vs) + groups_in z (length vs) + length vs * W / 8)
      (group_size_is t (size_known W mode k size p.allowed))
      (rw (length_stream level t vs) (end_most t vs p.width p.patterns))

-- and its stream, by either rule for halves
module _ (rule W level mode : ℕ) (k : ℤ) (size : ℕ) (vs : List ℕ) (p : Packable W level mode k size vs) where
  -- ---- what a reader meets: the plain stream, or one with side parts behind its data

  pub the_plain_stream : Sent level (ruled rule (setting_of W mode k size)) vs [] (need (setting_of W mode k size)) (stream level (ruled rule (setting_of W mode k size)) vs)
  unfolding need
  the_plain_stream = plain_sent level (ruled rule (setting_of W mode k size)) vs

  pub with_side_parts : (ps : List Side) → WellFormedSides (length (stream level (ruled rule (setting_of W mode k size)) vs) + 12 * length ps) ps
      → Sent level (ruled rule (setting_of W mode k size)) vs ps (need (setting_of W mode k size)) (add_sides (stream level (ruled rule (setting_of W mode k size)) vs) ps)
  unfolding need
  with_side_parts ps = sided_sent level (ruled rule (setting_of W mode k size)) vs ps

  module _ (ps : List Side) (needed : ℕ) (s : List ℕ) (sent : Sent level (ruled rule (setting_of W mode k size)) vs ps needed s) where
    -- it is bytes
    pub bytes_only : Below 256 s
    bytes_only = bytes_sent level (ruled rule (setting_of W mode k size)) vs (storable rule W level mode k size vs p) ps needed s sent

    -- the table "at | number" is read as it was written, with that need in the third place
    pub the_header_is_read : (j : ℕ) → j < 12
        → word s (4 * j)
        ≡ get_or (1 ∷ level ∷ needed ∷ drop 3 (header_numbers level (ruled rule (setting_of W mode k size)) (length vs) (length ps) (end_of (ruled rule (setting_of W mode k size)) vs (chunks_in (length vs))))) j 0
    the_header_is_read = header_words level (ruled rule (setting_of W mode k size)) vs (storable rule W level mode k size vs p) ps needed s sent

    -- "Pack at level L writes L as written minor"
    pub the_minors_are_read : ((header_of s).written ≡ level) × ((header_of s).needed ≡ needed)
    unfolding header_of
    the_minors_are_read = (the_header_is_read 1 (lit< tt), the_header_is_read 2 (lit< tt))

    -- no rule of the refusals 8 (but for the needed minor's own), 9 and 10 is broken
    pub every_rule_is_kept :
        (need (setting_of W mode k size) ≤ needed → needed ≤ level → setting_right (header_of s) ≡ true) × (layout_right (length s) (header_of s) ≡ true)
        × (chunk_table_right (header_of s) s ≡ true) × (side_table_right (header_of s) s ≡ true)
        × ((j : ℕ) → j < chunks_in (length vs) → chunk_state (header_of s) s j ≡ good)
    unfolding need
    every_rule_is_kept = (
      setting_kept level (ruled rule (setting_of W mode k size)) vs (storable rule W level mode k size vs p) ps needed s sent,
      layout_kept level (ruled rule (setting_of W mode k size)) vs (storable rule W level mode k size vs p) ps needed s sent,
      chunk_table_kept level (ruled rule (setting_of W mode k size)) vs (storable rule W level mode k size vs p) ps needed s sent,
      side_table_kept level (ruled rule (setting_of W mode k size)) vs (storable rule W level mode k size vs p) ps needed s sent,
      chunks_kept level (ruled rule (setting_of W mode k size)) vs (storable rule W level mode k size vs p) ps needed s sent,
    )

    -- the ids of the side table are those of the side parts
    pub the_ids_are_read : ids_in (header_of s) s ≡ ids_of ps
    the_ids_are_read = ids_kept level (ruled rule (setting_of W mode k size)) vs (storable rule W level mode k size vs p) ps needed s sent

    -- the values are the patterns of the codes, chunk by chunk
    pub the_values_are_read : values s ≡ coming_back (ruled rule (setting_of W mode k size)) vs
    the_values_are_read = values_read level (ruled rule (setting_of W mode k size)) vs (storable rule W level mode k size vs p) ps needed s sent

    -- as many as there were
    pub as_many_values : length (values s) ≡ length vs
    as_many_values = ap length the_values_are_read ∙ length_back (ruled rule (setting_of W mode k size)) vs

    -- "Lossless packing restores every bit pattern", in mode 0 and in mode 2
    pub lossless_values : lossless_mode mode ≡ true → values s ≡ vs
    lossless_values e = the_values_are_read ∙ lossless_back (ruled rule (setting_of W mode k size)) (ruled_allowed rule (setting_of W mode k size) (made_allowed W mode k size p.width p.allowed)) vs p.patterns e

    bin_is : mode ≡ 1 → bin_for W mode k ≡ bin_of W (fraction_bits W) k
    unfolding bin_for
    bin_is e = rw (eq-eqb mode 1 e)

    -- "Under tolerance 2^k, a value whose magnitude is below the threshold returns at most 2^k off, exactly; all else returns bit for bit."
    pub tolerance_values : mode ≡ 1 → (i : ℕ) → i < length vs → Within W (fraction_bits W) (bin_of W (fraction_bits W) k) (get_or vs i 0) (get_or (values s) i 0)
    tolerance_values e i h = rw the_values_are_read
        (subst (λ (j : ℕ). Within W (fraction_bits W) j (get_or vs i 0) (get_or (coming_back (ruled rule (setting_of W mode k size)) vs) i 0)) (bin_is e)
        (tolerance_back (ruled rule (setting_of W mode k size)) (ruled_allowed rule (setting_of W mode k size) (made_allowed W mode k size p.width p.allowed)) vs p.patterns e i h))

    -- and "the code is the rule's"
    pub ruled_values : mode ≡ 1 → (i : ℕ) → i < length vs
        → get_or (values s) i 0 ≡ tolerance_restored W (fraction_bits W) (bin_of W (fraction_bits W) k) (tolerance_code W (fraction_bits W) rule (bin_of W (fraction_bits W) k) (get_or vs i 0))
    ruled_values e i h = rw the_values_are_read
        (ruled_back (ruled rule (setting_of W mode k size)) (ruled_allowed rule (setting_of W mode k size) (made_allowed W mode k size p.width p.allowed)) vs p.patterns e i h
        ∙ ap (λ (j : ℕ). tolerance_restored W (fraction_bits W) j (tolerance_code W (fraction_bits W) rule j (get_or vs i 0))) (bin_is e))

    -- "infinities and not-a-numbers too": their ordinals are those from the largest exponent on
    pub special_values : mode ≡ 1 → (i : ℕ) → i < length vs
        → (2 ^ (W - 1 - fraction_bits W) - 1) * 2 ^ fraction_bits W ≤ ordinal W (get_or vs i 0) → get_or (values s) i 0 ≡ get_or vs i 0
    special_values e i h l = rw the_values_are_read (special_back (ruled rule (setting_of W mode k size)) (ruled_allowed rule (setting_of W mode k size) (made_allowed W mode k size p.width p.allowed)) vs p.patterns e i h l)

    -- ---- each level refuses by 7, with the need, what it does not reach; of the rest the need and the ids of the side parts decide

    -- by 8 where they ask for another need, or the written minor is below it; by 15 where one is high
    abbrev said : Result ⊤ Refusal
    said = cond (leb needed level && eqb needed (stream_need (setting_of W mode k size) (some_high (ids_of ps)))) (first (map id_row (ids_of ps))) (Err BrokenHeader)

    module _ (L : ℕ) (known : known_level L ≡ true) where
      -- 7 with the need, or what they say
      abbrev exactly : Result ⊤ Refusal
      exactly = cond (ltb L needed) (Err (NeedsMinor needed)) said

      either_way : (x : Result ⊤ Refusal) → (needed ≤ L → x ≡ said) → (L < needed → x ≡ Err (NeedsMinor needed)) → x ≡ exactly
      either_way x reads stops = go (le_or_lt needed L)
        where
          go : (needed ≤ L) ⊎ (L < needed) → x ≡ exactly
          go (inl h) = rw (le-ltb L needed h) (reads h)
          go (inr h) = rw (lt-ltb L needed h) (stops h)

      pub check_exactly : first (check_rows L s) ≡ exactly
      unfolding need stream_need
      check_exactly =
          either_way (first (check_rows L s))
          (check_read level (ruled rule (setting_of W mode k size)) vs (storable rule W level mode k size vs p) ps needed s sent L known)
          (check_stop level (ruled rule (setting_of W mode k size)) vs (storable rule W level mode k size vs p) ps needed s sent L known)

      pub unpack_exactly : (room : ℕ) → length vs ≤ room → first (unpack_rows W L s room) ≡ exactly
      unfolding need stream_need
      unpack_exactly room l =
          either_way (first (unpack_rows W L s room))
          (unpack_read level (ruled rule (setting_of W mode k size)) vs (storable rule W level mode k size vs p) ps needed s sent L known room l)
          (unpack_stop level (ruled rule (setting_of W mode k size)) vs (storable rule W level mode k size vs p) ps needed s sent L known W room)

      -- probe of each index likewise
      pub probe_exactly : (i : ℕ) → i < length vs → first (probe_rows W L s i) ≡ exactly
      unfolding need stream_need
      probe_exactly i l =
          either_way (first (probe_rows W L s i))
          (probe_read level (ruled rule (setting_of W mode k size)) vs (storable rule W level mode k size vs p) ps needed s sent L known i l)
          (probe_stop level (ruled rule (setting_of W mode k size)) vs (storable rule W level mode k size vs p) ps needed s sent L known W i)

      -- so where no id is high and the need is the setting's and reached, check counts the values and unpack hands them out
      pub it_is_read : some_high (ids_of ps) ≡ false → needed ≡ need (setting_of W mode k size) → needed ≤ L → (out : List ℕ) → length vs ≤ length out
          → (check_answer L s ≡ Ok (length vs)) × (unpack_answer W L s (length out) ≡ Ok (length vs))
          × (unpack_out W L s out ≡ values s ++ drop (length vs) out)
      unfolding need stream_need check_answer unpack_answer unpack_out answer after
      it_is_read low own h out l =
          let n = ap (λ (x : Header). x.count) (header_read level (ruled rule (setting_of W mode k size)) vs (storable rule W level mode k size vs p) ps needed s sent) in
          let nothing = told_low level (ruled rule (setting_of W mode k size)) vs (storable rule W level mode k size vs p) ps needed s sent low own in
          let checks = check_read level (ruled rule (setting_of W mode k size)) vs (storable rule W level mode k size vs p) ps needed s sent L known h ∙ nothing in
          let passes = unpack_read level (ruled rule (setting_of W mode k size)) vs (storable rule W level mode k size vs p) ps needed s sent L known (length out) l h ∙ nothing in
          (rw checks (ap Ok n), rw passes (ap Ok n), rw passes (ap (λ (m : ℕ). values s ++ drop m out) n))

      -- and where the needed minor is not reached, every reader names it, and unpack's output stays as it was
      pub it_is_too_new : L < needed → TooNew L s needed
      unfolding check_answer unpack_answer unpack_out answer after probe_answer32 probe_answer64
      it_is_too_new h =
          let unpacks = unpack_stop level (ruled rule (setting_of W mode k size)) vs (storable rule W level mode k size vs p) ps needed s sent L known in
          let probes = probe_stop level (ruled rule (setting_of W mode k size)) vs (storable rule W level mode k size vs p) ps needed s sent L known in
          record {
            check = rw (check_stop level (ruled rule (setting_of W mode k size)) vs (storable rule W level mode k size vs p) ps needed s sent L known h);
            unpack = λ any back. (rw (unpacks any (length back) h), rw (unpacks any (length back) h));
            probe32 = λ i. rw (probes 32 i h);
            probe64 = λ i. rw (probes 64 i h);
          }

      -- where it is reached, what the readers of the stream's width refuse it by, lent room for the values
      all_readers : (refusal : Refusal) → exactly ≡ Err refusal → RefusedBy W L s (length vs) refusal
      unfolding check_answer unpack_answer unpack_out answer after probe_answer32 probe_answer64
      all_readers refusal e =
          let unpacks : (back : List ℕ) → length vs ≤ length back → first (unpack_rows W L s (length back)) ≡ Err refusal = λ back room. unpack_exactly (length back) room ∙ e in
          let probes : (i : ℕ) → i < length vs → first (probe_rows W L s i) ≡ Err refusal = λ i l. probe_exactly i l ∙ e in
          record {
            check = rw (check_exactly ∙ e);
            unpack = λ back room. (rw (unpacks back room), rw (unpacks back room));
            probe32 = λ is i l. rw (subst (λ (w : ℕ). first (probe_rows w L s i) ≡ Err refusal) is (probes i l));
            probe64 = λ is i l. rw (subst (λ (w : ℕ). first (probe_rows w L s i) ≡ Err refusal) is (probes i l));
          }

      -- 15: the need is that of a stream with a high id, and there is one
      pub refused_by_15 : needed ≤ L → some_high (ids_of ps) ≡ true → needed ≡ stream_need (setting_of W mode k size) true → needed ≤ level
          → RefusedBy W L s (length vs) (MustBeUnderstood (first_high (ids_of ps)))
      unfolding need stream_need
      refused_by_15 h high right reached =
          all_readers (MustBeUnderstood (first_high (ids_of ps)))
          (rw (le-ltb L needed h) (told_high level (ruled rule (setting_of W mode k size)) vs (storable rule W level mode k size vs p) ps needed s sent high right reached))

      -- 8: it is the need of another stream, or above the written minor
      pub refused_by_8 : needed ≤ L → ((needed ≡ stream_need (setting_of W mode k size) (some_high (ids_of ps))) × (needed ≤ level) → ⊥) → RefusedBy W L s (length vs) BrokenHeader
      unfolding need stream_need
      refused_by_8 h other =
          all_readers BrokenHeader (rw (le-ltb L needed h) (told_wrong level (ruled rule (setting_of W mode k size)) vs (storable rule W level mode k size vs p) ps needed s sent other))
