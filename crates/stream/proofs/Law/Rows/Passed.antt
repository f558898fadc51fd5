-- What is known of a stream that rows have passed.
use mathlib.Core.Path.{◌≡◌, refl, sym, ap, subst, ◌∙◌}
use mathlib.Core.Bool.{Bool, true, false, ◌&&◌, not}
use mathlib.Core.List.{List, [], ◌∷◌, ◌++◌, map}
use Prim.Native.Nat.{ℕ, ◌/◌, ◌≤◌, ◌<◌}
use borrow.Author.Tests.{ltb-true, ltb-false, le-ltb, eqb-true, eq-eqb, not-false}
use lib.Dec.{ltb, eqb}
use lib.ListN.{length, drop}
use Rattle.blocks.specs.Bytes.{Below}
use Rattle.stream.specs.Chunk.{good}
use Rattle.stream.specs.Setting.{known_level, stream_need}
use Rattle.stream.specs.Rows.{Row, row, first, answer, after}
use Rattle.stream.specs.Header.{header_of, setting_in, setting_right, layout_right}
use Rattle.stream.specs.Relied.{Opened, Readable}
use Rattle.stream.specs.Tables.{chunk_table_right, side_table_right, ids_in, some_high}
use Rattle.stream.specs.Stream.{chunk_state, values_in, values}
use Rattle.stream.specs.Operations.{header_rows, opening_rows, need_row, id_row, side_rows, table_rows, chunk_row, chunk_rows, content_rows, width_row, room_row, index_row, own_rows, check_rows, unpack_rows, unpack_answer, unpack_out, probe_rows}
use Rattle.std.specs.Prelude.{Ok, Err}
use Rattle.stream.specs.declared.answers.Refusal.{Refusal}
use Rattle.stream.specs.declared.answers.Refusal.TheVariants.{UnknownLevel, NoRoom, NoHeader, OtherMajor, NeedsMinor, BrokenHeader, BrokenTable, NoSuchIndex, OtherWidth}
use Rattle.stream.specs.declared.header.Header.{Header}
use Rattle.stream.proofs.Law.Plain.Truth.{and_left, and_right}
use Rattle.stream.proofs.Law.Header.Numbers.{words}
use Rattle.stream.proofs.Law.Setting.Allowed.{settled}
use Rattle.stream.proofs.Law.Header.Layout.{laid_out}
use Rattle.stream.proofs.Law.Rows.First.{not_given, passed_both, opened_both}
use Rattle.stream.proofs.Law.Rows.Ids.{low_pass, pass_low, need_kept}
use Rattle.stream.proofs.Law.Rows.Chunks.{passed_good, tables_pass}

-- a row that is not given, and the others
row_off : (refusal : Refusal) (given : Bool) (rows : List Row) → first (row refusal given ∷ rows) ≡ Ok tt → (given ≡ false) × (first rows ≡ Ok tt)
row_off refusal given rows e =
    let b = passed_both (row refusal given) rows e in
    (not_given refusal given b.0, b.1)

-- ---- 1 5 6 7 8

pub record Opening (level : ℕ) (s : List ℕ) : Type 0 where
  pub known : known_level level ≡ true
  pub long : 48 ≤ length s
  pub major : (header_of s).major ≡ 1
  pub needed : (header_of s).needed ≤ level
  pub setting : setting_right (header_of s) ≡ true
  pub layout : layout_right (length s) (header_of s) ≡ true

pub opening : (level : ℕ) (s : List ℕ) → first (opening_rows level s) ≡ Ok tt → Opening level s
unfolding opening_rows header_rows
opening level s e =
    let h = header_of s in
    let a = row_off UnknownLevel (not (known_level level)) (row NoHeader (ltb (length s) 48) ∷ header_rows level (length s) h) e in
    let b = row_off NoHeader (ltb (length s) 48) (header_rows level (length s) h) a.1 in
    let rest = row (NeedsMinor h.needed) (ltb level h.needed) ∷ row BrokenHeader (not (setting_right h && layout_right (length s) h)) ∷ [] in
    let c = row_off OtherMajor (not (eqb h.major 1)) rest b.1 in
    let d = row_off (NeedsMinor h.needed) (ltb level h.needed) (row BrokenHeader (not (setting_right h && layout_right (length s) h)) ∷ []) c.1 in
    let f = row_off BrokenHeader (not (setting_right h && layout_right (length s) h)) [] d.1 in
    let both = not-false (setting_right h && layout_right (length s) h) f.0 in
    record {
      known = not-false (known_level level) a.0;
      long = ltb-false (length s) 48 b.0;
      major = eqb-true h.major 1 (not-false (eqb h.major 1) c.0);
      needed = ltb-false level h.needed d.0;
      setting = and_left (setting_right h) (layout_right (length s) h) both;
      layout = and_right (setting_right h) (layout_right (length s) h) both;
    }

-- and the other way round: with all of that no row of the opening is given
pub opening_passes : (level : ℕ) (s : List ℕ) → Opening level s → first (opening_rows level s) ≡ Ok tt
unfolding opening_rows header_rows first
opening_passes level s o =
    rw (o.known, le-ltb (length s) 48 o.long, eq-eqb (header_of s).major 1 o.major, le-ltb level (header_of s).needed o.needed, o.setting, o.layout)

pub long : (level : ℕ) (s : List ℕ) → first (opening_rows level s) ≡ Ok tt → 48 ≤ length s
long level s e = (opening level s e).long

-- the numbers of a header of bytes have 32 bits
opened_header : (level : ℕ) (s : List ℕ) → Below 256 s → Opening level s → Opened (length s) (header_of s)
opened_header level s b o = record { words = words s b; setting = settled (header_of s) o.setting; layout = laid_out (length s) (header_of s) o.layout }

-- the same through the header h that the code has read
pub opened_as : (level : ℕ) (s : List ℕ) → first (opening_rows level s) ≡ Ok tt → Below 256 s → (h : Header) → h ≡ header_of s → Opened (length s) h
opened_as level s e b h is = rw is (opened_header level s b (opening level s e))

-- ---- 9 8 15 10

pub record Tables (h : Header) (s : List ℕ) : Type 0 where
  pub chunks : chunk_table_right h s ≡ true
  pub sides : side_table_right h s ≡ true
  pub needed : h.needed ≡ stream_need (setting_in h) (some_high (ids_in h s))
  pub low : some_high (ids_in h s) ≡ false

module _ (h : Header) (s : List ℕ) where
  pub tables : first (table_rows h s) ≡ Ok tt → Tables h s
  unfolding table_rows side_rows need_row
  tables e =
      let need = stream_need (setting_in h) (some_high (ids_in h s)) in
      let a = row_off BrokenTable (not (chunk_table_right h s && side_table_right h s)) (side_rows h (ids_in h s)) e in
      let b = row_off BrokenHeader (not (eqb h.needed need)) (map id_row (ids_in h s)) a.1 in
      let both = not-false (chunk_table_right h s && side_table_right h s) a.0 in
      record {
        chunks = and_left (chunk_table_right h s) (side_table_right h s) both;
        sides = and_right (chunk_table_right h s) (side_table_right h s) both;
        needed = eqb-true h.needed need (not-false (eqb h.needed need) b.0);
        low = pass_low (ids_in h s) b.1;
      }

  -- and the other way round
  pub tables_passed : Tables h s → first (table_rows h s) ≡ Ok tt
  tables_passed t =
      sym (tables_pass h s true true (sym t.chunks) (sym t.sides) refl)
      ∙ need_kept h (ids_in h s) t.needed
      ∙ low_pass (ids_in h s) t.low

  pub content : first (content_rows h s) ≡ Ok tt → Tables h s × (first (chunk_rows h s) ≡ Ok tt)
  unfolding content_rows
  content e = let b = opened_both (table_rows h s) (chunk_rows h s) e in (tables b.0, b.1)

  pub own : (i : ℕ) → first (own_rows h s i) ≡ Ok tt → Tables h s × (chunk_state h s (i / 1024) ≡ good)
  unfolding own_rows
  own i e = let b = opened_both (table_rows h s) (chunk_row h s (i / 1024) ∷ []) e in (tables b.0, passed_good h s (i / 1024) b.1)

-- ---- the operations

pub record Unpacking (W level : ℕ) (s : List ℕ) (room : ℕ) : Type 0 where
  pub opening : Opening level s
  pub width : (header_of s).width ≡ W
  pub enough : (header_of s).count ≤ room
  pub tables : Tables (header_of s) s
  pub chunks : first (chunk_rows (header_of s) s) ≡ Ok tt

pub unpacking : (W level : ℕ) (s : List ℕ) (room : ℕ) → first (unpack_rows W level s room) ≡ Ok tt → Unpacking W level s room
unfolding unpack_rows width_row room_row
unpacking W level s room e =
    let h = header_of s in
    let a = opened_both (opening_rows level s) (width_row W h ∷ room_row room h ∷ content_rows h s) e in
    let b = row_off OtherWidth (not (eqb h.width W)) (room_row room h ∷ content_rows h s) a.1 in
    let c = row_off (NoRoom h.count) (ltb room h.count) (content_rows h s) b.1 in
    let d = content h s c.1 in
    record {
      opening = opening level s a.0;
      width = eqb-true h.width W (not-false (eqb h.width W) b.0);
      enough = ltb-false room h.count c.0;
      tables = d.0;
      chunks = d.1;
    }

pub record Probing (W level : ℕ) (s : List ℕ) (i : ℕ) : Type 0 where
  pub opening : Opening level s
  pub width : (header_of s).width ≡ W
  pub index : i < (header_of s).count
  pub tables : Tables (header_of s) s
  pub chunk : chunk_state (header_of s) s (i / 1024) ≡ good

pub probing : (W level : ℕ) (s : List ℕ) (i : ℕ) → first (probe_rows W level s i) ≡ Ok tt → Probing W level s i
unfolding probe_rows width_row index_row
probing W level s i e =
    let h = header_of s in
    let a = opened_both (opening_rows level s) (width_row W h ∷ index_row i h ∷ own_rows h s i) e in
    let b = row_off OtherWidth (not (eqb h.width W)) (index_row i h ∷ own_rows h s i) a.1 in
    let c = row_off NoSuchIndex (not (ltb i h.count)) (own_rows h s i) b.1 in
    let d = own h s i c.1 in
    record {
      opening = opening level s a.0;
      width = eqb-true h.width W (not-false (eqb h.width W) b.0);
      index = ltb-true i h.count (not-false (ltb i h.count) c.0);
      tables = d.0;
      chunk = d.1;
    }

pub checking : (level : ℕ) (s : List ℕ) → first (check_rows level s) ≡ Ok tt → Opening level s × Tables (header_of s) s × (first (chunk_rows (header_of s) s) ≡ Ok tt)
unfolding check_rows
checking level s e =
    let a = opened_both (opening_rows level s) (content_rows (header_of s) s) e in
    let b = content (header_of s) s a.1 in
    (opening level s a.0, b.0, b.1)

-- ---- what is read of an accepted stream of bytes, through the header h that the code has read

readable : (W level : ℕ) (s : List ℕ) → Below 256 s → (h : Header) → h ≡ header_of s → Opening level s → (header_of s).width ≡ W → Tables (header_of s) s → Readable W h s
readable W level s b h is o w t = rw is (record { opened = opened_header level s b o; width = w; table = t.chunks })

module _ (W level : ℕ) (s : List ℕ) (room : ℕ) (e : first (unpack_rows W level s room) ≡ Ok tt) where
  pub unpack_ready : Below 256 s → (h : Header) → h ≡ header_of s → Readable W h s × (first (chunk_rows h s) ≡ Ok tt) × (h.count ≤ room)
  unpack_ready b h is =
      let u = unpacking W level s room e in
      (readable W level s b h is u.opening u.width u.tables, rw is u.chunks, rw is u.enough)

module _ (W level : ℕ) (s : List ℕ) (i : ℕ) (e : first (probe_rows W level s i) ≡ Ok tt) where
  pub probe_ready : Below 256 s → (h : Header) → h ≡ header_of s → Readable W h s × (i < h.count) × (chunk_state h s (i / 1024) ≡ good)
  probe_ready b h is =
      let p = probing W level s i e in
      (readable W level s b h is p.opening p.width p.tables, rw is p.index, rw is p.chunk)

  -- the same at the header's own width
  pub probe_reads : Below 256 s → (h : Header) → h ≡ header_of s → Readable h.width h s × (i < h.count) × (chunk_state h s (i / 1024) ≡ good)
  probe_reads b h is = let p = probe_ready b h is in (subst (λ (x : ℕ). Readable x h s) (sym p.0.width) p.0, p.1, p.2)

-- ---- unpack's two equations, on acceptance and on refusal

module _ (W level : ℕ) (s out : List ℕ) where
  pub unpacked : first (unpack_rows W level s (length out)) ≡ Ok tt → (h : Header) → h ≡ header_of s → (now : List ℕ) → now ≡ values_in h s ++ drop h.count out
      → (Ok h.count ≡ unpack_answer W level s (length out)) × (now ≡ unpack_out W level s out)
  unfolding unpack_answer unpack_out answer after values
  unpacked pass h is now e = (rw pass (ap (λ (h : Header). Ok h.count) is), rw pass (e ∙ ap (λ (h : Header). values_in h s ++ drop h.count out) is))

  pub not_unpacked : (refusal : Refusal) → first (unpack_rows W level s (length out)) ≡ Err refusal
      → (Err refusal ≡ unpack_answer W level s (length out)) × (out ≡ unpack_out W level s out)
  unfolding unpack_answer unpack_out answer after
  not_unpacked refusal stop = (rw stop, rw stop)
