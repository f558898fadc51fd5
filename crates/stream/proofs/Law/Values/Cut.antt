-- A stream that is cut, or has something behind it: its header is read as before, if it is still there, and its side table no longer ends with
-- the bytes.
use mathlib.Core.Path.{◌≡◌, refl, sym, ap, ap₂, ◌∙◌}
use mathlib.Core.Logic.{◌⊎◌, inl, inr}
use mathlib.Core.Bool.{Bool, true, false, ◌&&◌, not, cond}
use mathlib.Core.List.{List, [], ◌∷◌, ◌++◌}
use Prim.Native.Nat.{ℕ, zero, suc, ◌+◌, ◌*◌, ◌/◌, ◌≤◌, ◌<◌}
use native.Mathlib.Omega.{arith}
use borrow.Author.Tests.{lt-ltb, le-ltb, le-leb, lt-leb, eq-eqb, eqb-true, ne_eqb}
use lib.Dec.{leb, ltb, eqb}
use lib.ListN.{length, take, length-append}
use lib.Seq.{length-take-le, take-take, take-append_seam, take-length}
use Rattle.stream.specs.Header.{header_of, chunks_in, too_many, layout_right}
use Rattle.stream.specs.Tables.{every, side_length, part_at, entry_right, chunk_table_right, side_table_right}
use Rattle.stream.specs.Setting.{known_level}
use Rattle.stream.specs.Rows.{first, answer}
use Rattle.stream.specs.Operations.{header_rows, opening_rows, table_rows, chunk_row, chunk_rows, content_rows, own_rows, check_rows, unpack_rows, probe_rows}
use Rattle.stream.specs.Relied.{Layout}
use Rattle.stream.specs.Theorem.{cut_refusal, cut_answer}
use Rattle.std.specs.Prelude.{⊤, Result, Ok, Err}
use Rattle.stream.specs.declared.answers.Refusal.{Refusal}
use Rattle.stream.specs.declared.answers.Refusal.TheVariants.{UnknownLevel, NoHeader, NeedsMinor, BrokenHeader, BrokenTable}
use Rattle.stream.specs.declared.header.Header.{Header}
use Rattle.blocks.proofs.Law.Truth.{le_or_lt}
use Rattle.stream.proofs.Law.Plain.Truth.{and_left, and_right, and_false}
use Rattle.stream.proofs.Law.Header.Layout.{laid_out}
use Rattle.stream.proofs.Law.Header.Front.{word_front, header_front}
use Rattle.stream.proofs.Law.Tables.Sides.{side_short, side_scan, table_within}
use Rattle.stream.proofs.Law.Rows.First.{shut}
use Rattle.stream.proofs.Law.Rows.Chunks.{tables_stop}
use Rattle.stream.proofs.Law.Rows.Given.{check_shut, unpack_shut, probe_shut, check_content, unpack_content, probe_own}
use Rattle.stream.proofs.Law.Rows.Passed.{Opening, Tables, opening_passes}

-- the three places where a cut can be
cases : (c : ℕ) (h : Header) (x : Result ⊤ Refusal) → (c < 48 → x ≡ Err NoHeader) → (48 ≤ c → c < h.end → x ≡ Err BrokenHeader) → (48 ≤ c → h.end ≤ c → x ≡ Err BrokenTable)
    → x ≡ Err (cut_refusal h c)
unfolding cut_refusal
cases c h x in-header in-data behind = go (le_or_lt 48 c)
  where
    further : 48 ≤ c → (h.end ≤ c) ⊎ (c < h.end) → x ≡ Err (cond (ltb c h.end) BrokenHeader BrokenTable)
    further l (inl m) = rw (le-ltb c h.end m) (behind l m)
    further l (inr m) = rw (lt-ltb c h.end m) (in-data l m)

    go : (48 ≤ c) ⊎ (c < 48) → x ≡ Err (cond (ltb c 48) NoHeader (cond (ltb c h.end) BrokenHeader BrokenTable))
    go (inl l) = rw (le-ltb c 48 l) (further l (le_or_lt h.end c))
    go (inr l) = rw (lt-ltb c 48 l) (in-header l)

-- of the layout only "end of data .. past the bytes" looks at how many bytes there are
layout_in : (h : Header) (size other : ℕ) → layout_right size h ≡ true → layout_right other h ≡ leb h.end other
unfolding layout_right
layout_in h size other right =
    ap (λ (b : Bool). b && leb h.end other)
    (and_left (not (too_many h.count) && eqb h.chunks (chunks_in h.count) && eqb h.table 48 && eqb h.start (48 + 4 * h.chunks) && leb h.sides 64 && leb h.start h.end) (leb h.end size) right)

-- Bytes t that begin as s does, as far as the side table goes: the parts lie where they lay, and so the last ends where s does. Where t is
-- longer or shorter, it does not end with the bytes.
module _ (h : Header) (s t : List ℕ) (n : ℕ) (same : take n t ≡ take n s) (reach : h.end + 12 * h.sides ≤ n) where
  part_kept : (i : ℕ) → i ≤ h.sides → part_at h t i ≡ part_at h s i
  unfolding part_at side_length
  part_kept zero l = refl
  part_kept (suc i) l = ap₂ (λ (a b : ℕ). a + b) (part_kept i (omega arith)) (word_front t s n same (h.end + 12 * i + 8) (omega arith))

  last_part : side_table_right h s ≡ true → part_at h s h.sides ≡ length s
  unfolding side_table_right
  last_part right =
      eqb-true (part_at h s h.sides) (length s)
      (and_right (leb (h.end + 12 * h.sides) (length s) && every (entry_right h s) h.sides 0) (eqb (part_at h s h.sides) (length s)) right)

  other_length : side_table_right h s ≡ true → (length t ≡ length s → ⊥) → side_table_right h t ≡ false
  other_length right differs = go (le_or_lt (h.end + 12 * h.sides) (length t))
    where
      go : (h.end + 12 * h.sides ≤ length t) ⊎ (length t < h.end + 12 * h.sides) → side_table_right h t ≡ false
      go (inl l) =
          let is = part_kept h.sides (omega arith) ∙ last_part right in
          side_scan h t l
          ∙ ap (λ (b : Bool). every (entry_right h t) h.sides 0 && b) (ne_eqb (part_at h t h.sides) (length t) (λ e. differs (sym e ∙ is)))
          ∙ and_false (every (entry_right h t) h.sides 0)
      go (inr l) = sym (side_short h t l)

-- the tables' row, where the side table is not right
tables_wrong : (h : Header) (t : List ℕ) → side_table_right h t ≡ false → first (table_rows h t) ≡ Err BrokenTable
tables_wrong h t wrong = sym (tables_stop h t (chunk_table_right h t) false refl (sym wrong) (and_false (chunk_table_right h t)))

content_wrong : (h : Header) (t : List ℕ) → side_table_right h t ≡ false → first (content_rows h t) ≡ Err BrokenTable
unfolding content_rows
content_wrong h t wrong = shut BrokenTable (table_rows h t) (chunk_rows h t) (tables_wrong h t wrong)

own_wrong : (h : Header) (t : List ℕ) (i : ℕ) → side_table_right h t ≡ false → first (own_rows h t i) ≡ Err BrokenTable
unfolding own_rows
own_wrong h t i wrong = shut BrokenTable (table_rows h t) (chunk_row h t (i / 1024) ∷ []) (tables_wrong h t wrong)

-- ---- a stream that is cut

module _ (s : List ℕ) (c : ℕ) (cut : c < length s) where
  abbrev left : List ℕ
  left = take c s

  left_length : length left ≡ c
  left_length = length-take-le c s (omega arith)

  same_front : take c left ≡ take c s
  same_front = take-take c c s (omega arith)

  side_table_cut : (h : Header) → side_table_right h s ≡ true → side_table_right h left ≡ false
  side_table_cut h right = go (le_or_lt (h.end + 12 * h.sides) c)
    where
      go : (h.end + 12 * h.sides ≤ c) ⊎ (c < h.end + 12 * h.sides) → side_table_right h left ≡ false
      go (inl l) = other_length h s left c same_front l right (λ e. omega (arith, e, left_length))
      go (inr l) = sym (side_short h left (omega (arith, left_length)))

  module _ (level : ℕ) (o : Opening level s) where
    short_cut : c < 48 → first (opening_rows level left) ≡ Err NoHeader
    unfolding opening_rows first
    short_cut l = rw (o.known, left_length, lt-ltb c 48 l)

    module _ (long : 48 ≤ c) where
      header_kept : header_of s ≡ header_of left
      header_kept = sym (header_front left s c same_front long)

      data_cut : c < (header_of s).end → first (opening_rows level left) ≡ Err BrokenHeader
      unfolding opening_rows header_rows first
      data_cut l =
          rw (o.known, left_length, le-ltb c 48 long, ← header_kept, eq-eqb (header_of s).major 1 o.major, le-ltb level (header_of s).needed o.needed, o.setting)
          (rw (layout_in (header_of s) (length s) c o.layout, lt-leb (header_of s).end c l))

      data_left : (header_of s).end ≤ c → first (opening_rows level left) ≡ Ok tt
      unfolding opening_rows header_rows first
      data_left l =
          rw (o.known, left_length, le-ltb c 48 long, ← header_kept, eq-eqb (header_of s).major 1 o.major, le-ltb level (header_of s).needed o.needed, o.setting)
          (rw (layout_in (header_of s) (length s) c o.layout, le-leb (header_of s).end c l))

  -- so no level accepts what is left
  pub no_cut : (level : ℕ) → Tables (header_of s) s → Opening level left → Tables (header_of left) left → ⊥
  no_cut level whole o part =
      let same = header_front left s c same_front (omega (arith, o.long, left_length)) in
      let kept : side_table_right (header_of s) left ≡ true = ap (λ (h : Header). side_table_right h left) (sym same) ∙ part.sides in
      let z : false ≡ true = sym (side_table_cut (header_of s) whole.sides) ∙ kept in
      let none : ◌≡◌ {A = ℕ} 0 1 = cc in
      omega (arith, none)

  -- ---- the rows of each reader. In all of them the tables come behind the opening, and behind rows that look at the header alone.

  module _ (level : ℕ) (o : Opening level s) (t : Tables (header_of s) s) where
    pub check_cut : first (check_rows level left) ≡ Err (cut_refusal (header_of s) c)
    check_cut =
        cases c (header_of s) (first (check_rows level left))
        (λ l. sym (check_shut level left NoHeader (short_cut level o l)))
        (λ l m. sym (check_shut level left BrokenHeader (data_cut level o l m)))
        (λ l m. sym (check_content level left (data_left level o l m) (header_of s) (header_kept level o l)) ∙ content_wrong (header_of s) left (side_table_cut (header_of s) t.sides))

    module _ (W : ℕ) (width : (header_of s).width ≡ W) where
      pub unpack_cut : (room : ℕ) → (header_of s).count ≤ room → first (unpack_rows W level left room) ≡ Err (cut_refusal (header_of s) c)
      unpack_cut room enough =
          cases c (header_of s) (first (unpack_rows W level left room))
          (λ l. sym (unpack_shut level left NoHeader (short_cut level o l) W room))
          (λ l m. sym (unpack_shut level left BrokenHeader (data_cut level o l m) W room))
          (λ l m. sym (unpack_content level left (data_left level o l m) (header_of s) (header_kept level o l) W room width enough) ∙ content_wrong (header_of s) left (side_table_cut (header_of s) t.sides))

      pub probe_cut : (i : ℕ) → i < (header_of s).count → first (probe_rows W level left i) ≡ Err (cut_refusal (header_of s) c)
      probe_cut i below =
          cases c (header_of s) (first (probe_rows W level left i))
          (λ l. sym (probe_shut level left NoHeader (short_cut level o l) W i))
          (λ l m. sym (probe_shut level left BrokenHeader (data_cut level o l m) W i))
          (λ l m. sym (probe_own level left (data_left level o l m) (header_of s) (header_kept level o l) W i width below) ∙ own_wrong (header_of s) left i (side_table_cut (header_of s) t.sides))

  -- ---- the same at another level, which may not know itself, or not reach the need

  unknown_cut : (level : ℕ) → known_level level ≡ false → first (check_rows level left) ≡ Err UnknownLevel
  unfolding check_rows opening_rows first
  unknown_cut level e = rw e

  module _ (level level' : ℕ) (o : Opening level s) (t : Tables (header_of s) s) (known : known_level level' ≡ true) where
    short_at : c < 48 → first (check_rows level' left) ≡ Err NoHeader
    unfolding check_rows opening_rows first
    short_at l = rw (known, left_length, lt-ltb c 48 l)

    too_new_at : 48 ≤ c → level' < (header_of s).needed → first (check_rows level' left) ≡ Err (NeedsMinor (header_of s).needed)
    unfolding check_rows opening_rows header_rows first
    too_new_at l m =
        rw (known, left_length, le-ltb c 48 l, ← header_kept level o l, eq-eqb (header_of s).major 1 o.major, lt-ltb level' (header_of s).needed m)

    reached_at : (header_of s).needed ≤ level' → first (check_rows level' left) ≡ Err (cut_refusal (header_of s) c)
    reached_at l =
        check_cut level'
        record { known = known; long = o.long; major = o.major; needed = l; setting = o.setting; layout = o.layout }
        t

  pub check_cut_at : (level level' : ℕ) → Opening level s → Tables (header_of s) s → answer (first (check_rows level' left)) (header_of left).count ≡ cut_answer level' (header_of s) c
  unfolding cut_answer answer
  check_cut_at level level' o t = go (known_level level') refl (le_or_lt 48 c) (le_or_lt (header_of s).needed level')
    where
      go : (b : Bool) → known_level level' ≡ b → (48 ≤ c) ⊎ (c < 48) → ((header_of s).needed ≤ level') ⊎ (level' < (header_of s).needed)
          → answer (first (check_rows level' left)) (header_of left).count ≡ cut_answer level' (header_of s) c
      go false e l m = rw (e, unknown_cut level' e)
      go true e (inr l) m = rw (e, lt-ltb c 48 l, short_at level level' o t e l)
      go true e (inl l) (inr m) = rw (e, le-ltb c 48 l, lt-ltb level' (header_of s).needed m, too_new_at level level' o t e l m)
      go true e (inl l) (inl m) = rw (e, le-ltb c 48 l, le-ltb level' (header_of s).needed m, reached_at level level' o t e m)

-- ---- a stream behind which something stands

pub nothing : (l : List ℕ) → length l ≡ 0 → l ≡ []
nothing [] e = refl
nothing (x ∷ l) e = absurd (omega arith)

module _ (s more : List ℕ) (some : more ≡ [] → ⊥) (level : ℕ) (o : Opening level s) (t : Tables (header_of s) s) where
  abbrev longer : List ℕ
  longer = s ++ more

  front_kept : take (length s) longer ≡ take (length s) s
  front_kept = take-append_seam s more ∙ sym (take-length s)

  added_header : header_of s ≡ header_of longer
  added_header = sym (header_front longer s (length s) front_kept o.long)

  laid : Layout (length s) (header_of s)
  laid = laid_out (length s) (header_of s) o.layout

  added_length : length longer ≡ length s + length more
  added_length = length-append s more

  -- the side table still lies where it lay, and the last part still ends with s
  side_table_added : side_table_right (header_of s) longer ≡ false
  side_table_added = other_length (header_of s) s longer (length s) front_kept (table_within (header_of s) s t.sides) t.sides (λ e. some (nothing more (omega (arith, e, added_length))))

  added_opening : first (opening_rows level longer) ≡ Ok tt
  added_opening =
      opening_passes level longer
      record {
        known = o.known;
        long = omega (arith, o.long, added_length);
        major = rw (← added_header) o.major;
        needed = rw (← added_header) o.needed;
        setting = rw (← added_header) o.setting;
        layout = rw (← added_header) (layout_in (header_of s) (length s) (length longer) o.layout ∙ le-leb (header_of s).end (length longer) (omega (arith, laid.within, added_length)));
      }

  pub check_added : first (check_rows level longer) ≡ Err BrokenTable
  check_added = sym (check_content level longer added_opening (header_of s) added_header) ∙ content_wrong (header_of s) longer side_table_added

  module _ (W : ℕ) (width : (header_of s).width ≡ W) where
    pub unpack_added : (room : ℕ) → (header_of s).count ≤ room → first (unpack_rows W level longer room) ≡ Err BrokenTable
    unpack_added room enough =
        sym (unpack_content level longer added_opening (header_of s) added_header W room width enough) ∙ content_wrong (header_of s) longer side_table_added

    pub probe_added : (i : ℕ) → i < (header_of s).count → first (probe_rows W level longer i) ≡ Err BrokenTable
    probe_added i below = sym (probe_own level longer added_opening (header_of s) added_header W i width below) ∙ own_wrong (header_of s) longer i side_table_added
