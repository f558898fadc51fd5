-- The detail of refusal 10: which chunk and group it names. That a bad group is below 32 tells the two apart again.
use Rattle.std.specs.Prelude.{Ok, Err}
use mathlib.Core.Path.{◌≡◌, refl, sym, ap, subst, ◌∙◌}
use mathlib.Core.Logic.{◌↔◌}
use mathlib.Core.Bool.{true, not}
use mathlib.Core.List.{List, [], ◌∷◌, ◌++◌, map}
use Prim.Native.Nat.{ℕ, ◌+◌, ◌*◌, ◌/◌, ◌%◌, ◌≤◌, ◌<◌}
use native.Mathlib.Omega.{arith}
use borrow.Author.Tests.{ltb-true, eqb-true, not-false}
use lib.Dec.{ltb, eqb}
use lib.ListN.{length}
use Rattle.stream.specs.Chunk.{Verdict, good}
use Rattle.stream.specs.Setting.{group_size, limit_of}
use Rattle.stream.specs.Header.{header_of, setting_in}
use Rattle.stream.specs.Relied.{Layout}
use Rattle.stream.specs.Rows.{Row, first, numbers_of}
use Rattle.stream.specs.Stream.{count_of, chunk_of, chunk_state}
use Rattle.stream.specs.Tables.{ids_in}
use Rattle.stream.specs.Operations.{opening_rows, need_row, id_row, side_rows, table_rows, fault_detail, fault_row, chunk_row, chunk_rows, content_rows, width_row, index_row, own_rows, check_rows, unpack_rows, probe_rows}
use Rattle.stream.specs.Theorem.{FirstBad, BadGroup, Fault}
use Rattle.std.specs.Prelude.{Ok, Err}
use Rattle.stream.specs.declared.answers.Refusal.TheVariants.{BrokenChunk, NoSuchIndex, OtherWidth}
use Rattle.stream.specs.declared.header.Header.{Header}
use Rattle.stream.proofs.Law.Plain.Scan.{rows_found}
use Rattle.stream.proofs.Law.Header.Layout.{laid_out}
use Rattle.stream.proofs.Law.Setting.Allowed.{size_some, groups_most}
use Rattle.stream.proofs.Law.Chunk.FirstBad.{bad_exactly}
use Rattle.stream.proofs.Law.Rows.First.{opened, passed_both, not_given, without, others}
use Rattle.stream.proofs.Law.Rows.Given.{probe_own, check_behind, unpack_behind, probe_behind}
use Rattle.stream.proofs.Law.Rows.Passed.{opening}
use Rattle.stream.proofs.Law.Rows.Chunks.{good_row, bad_row, passed_good}

-- ---- a bad group of a chunk that a right header has

module _ (h : Header) (s : List ℕ) (size : ℕ) (layout : Layout size h) (j : ℕ) (is_chunk : j < h.chunks) where
  has_values : 0 < count_of h j
  unfolding count_of
  has_values = omega (arith, layout.chunks)

  few_values : count_of h j ≤ 1024
  unfolding count_of
  few_values = omega arith

  pub bad_group : (g : ℕ) → chunk_state h s j ≡ Err g ↔ FirstBad h.width (limit_of (setting_in h)) (group_size (setting_in h)) (count_of h j) (chunk_of h s j) g
  unfolding chunk_state
  bad_group g = bad_exactly h.width (limit_of (setting_in h)) (group_size (setting_in h)) (size_some (setting_in h)) (count_of h j) (chunk_of h s j) has_values g

  pub group_small : (g : ℕ) → chunk_state h s j ≡ Err g → g < 32
  group_small g e = omega (arith, ((bad_group g).0 e).is_group, groups_most (setting_in h) (count_of h j) few_values)

-- ---- a row of 10 is given

-- the place that a detail names: what the row of that chunk says
pub record Named (h : Header) (s : List ℕ) (detail : ℕ) : Type 0 where
  pub is_chunk : detail / 32 < h.chunks
  pub own : chunk_state h s (detail / 32) ≡ Err (detail % 32)

row_named : (j detail : ℕ) (a : Verdict) → first (fault_row j a ∷ []) ≡ Err (BrokenChunk detail) → (g : ℕ) × (a ≡ Err g) × (j * 32 + g ≡ detail)
unfolding fault_row fault_detail first
row_named j detail (Ok kept) e = let z : Ok tt ≡ Err (BrokenChunk detail) = e in absurd (let n : ◌≡◌ {A = ℕ} 0 1 = cc in omega (arith, n))
row_named j detail (Err g) e = let z : Err (BrokenChunk (j * 32 + g)) ≡ Err (BrokenChunk detail) = e in (g, refl, cc)

module _ (h : Header) (s : List ℕ) (size : ℕ) (layout : Layout size h) (detail : ℕ) where
  -- a chunk's row names the chunk
  pub chunk_named : (j : ℕ) → j < h.chunks → first (chunk_row h s j ∷ []) ≡ Err (BrokenChunk detail) → (j ≡ detail / 32) × Named h s detail
  unfolding chunk_row
  chunk_named j below e =
      let r = row_named j detail (chunk_state h s j) e in
      let small = group_small h s size layout j below r.0 r.1 in
      let chunk : j ≡ detail / 32 = omega (arith, r.2, small) in
      let group : r.0 ≡ detail % 32 = omega (arith, r.2, small) in (
        chunk,
        record { is_chunk = omega (arith, chunk); own = subst (λ (x : ℕ). chunk_state h s x ≡ Err (detail % 32)) chunk (r.1 ∙ ap Err group) },
      )

  -- the first of the rows that is given names the first bad chunk
  pub chunks_named : first (chunk_rows h s) ≡ Err (BrokenChunk detail) → Named h s detail × ((i : ℕ) → i < detail / 32 → chunk_state h s i ≡ good)
  unfolding chunk_rows
  chunks_named e =
      let r = rows_found (chunk_row h s) (BrokenChunk detail) h.chunks 0 e in
      let n = chunk_named r.at (omega (arith, r.below)) r.stops in
      (n.1, λ i l. passed_good h s i (r.before i (omega arith) (omega (arith, n.0))))

-- ---- the rows before are others

-- 15 is another number
ids_others : (ids : List ℕ) → without 10 (numbers_of (map id_row ids)) ≡ true
unfolding id_row numbers_of without
ids_others [] = refl
ids_others (id ∷ ids) = ids_others ids

module _ (level : ℕ) (s : List ℕ) (detail : ℕ) where
  laid : first (opening_rows level s) ≡ Ok tt → Layout (length s) (header_of s)
  laid pass = laid_out (length s) (header_of s) (opening level s pass).layout

  -- 9 8 15
  table_others : (rows : List Row) → first (table_rows (header_of s) s ++ rows) ≡ Err (BrokenChunk detail) → (first (table_rows (header_of s) s) ≡ Ok tt) × (first rows ≡ Err (BrokenChunk detail))
  unfolding table_rows side_rows need_row numbers_of without
  table_others rows e = others (BrokenChunk detail) (table_rows (header_of s) s) rows (ids_others (ids_in (header_of s) s)) e

  content_named : first (opening_rows level s) ≡ Ok tt → first (content_rows (header_of s) s) ≡ Err (BrokenChunk detail) → Fault s (detail / 32) (detail % 32)
  unfolding content_rows
  content_named pass e =
      let n = chunks_named (header_of s) s (length s) (laid pass) detail (table_others (chunk_rows (header_of s) s) e).1 in
      record {
        chunk = n.0.is_chunk;
        earlier = n.1;
        group = (bad_group (header_of s) s (length s) (laid pass) (detail / 32) n.0.is_chunk (detail % 32)).0 n.0.own;
      }

  pub check_named : first (check_rows level s) ≡ Err (BrokenChunk detail) → Fault s (detail / 32) (detail % 32)
  unfolding without
  check_named e = let b = check_behind level s (BrokenChunk detail) refl e in content_named b.0 b.1

  -- unpack's rows before 9 are others too, so it stops where check does
  pub unpack_checked : (W room : ℕ) → first (unpack_rows W level s room) ≡ Err (BrokenChunk detail) → first (check_rows level s) ≡ Err (BrokenChunk detail)
  unfolding check_rows without
  unpack_checked W room e =
      let b = unpack_behind level s (BrokenChunk detail) refl W room refl e in
      opened (opening_rows level s) (content_rows (header_of s) s) b.0 ∙ b.1

  -- ---- probe: what is known where it stops at 10

  record Probed (W i : ℕ) : Type 0 where
    pass : first (opening_rows level s) ≡ Ok tt
    width : (header_of s).width ≡ W
    below : i < (header_of s).count
    right : first (table_rows (header_of s) s) ≡ Ok tt
    row : first (chunk_row (header_of s) s (i / 1024) ∷ []) ≡ Err (BrokenChunk detail)

  probed : (W i : ℕ) → first (probe_rows W level s i) ≡ Err (BrokenChunk detail) → Probed W i
  unfolding width_row index_row own_rows without
  probed W i e =
      let h = header_of s in
      let b = probe_behind level s (BrokenChunk detail) refl W i refl e in
      let both = passed_both (width_row W h) (index_row i h ∷ []) b.1 in
      let t = table_others (chunk_row h s (i / 1024) ∷ []) b.2 in
      record {
        pass = b.0;
        width = eqb-true h.width W (not-false (eqb h.width W) (not_given OtherWidth (not (eqb h.width W)) both.0));
        below = ltb-true i h.count (not-false (ltb i h.count) (not_given NoSuchIndex (not (ltb i h.count)) both.1));
        right = t.0;
        row = t.1;
      }

  pub probe_named : (W i : ℕ) → first (probe_rows W level s i) ≡ Err (BrokenChunk detail) → (detail / 32 ≡ i / 1024) × BadGroup s (detail / 32) (detail % 32)
  probe_named W i e =
      let h = header_of s in
      let p = probed W i e in
      let n = chunk_named h s (length s) (laid p.pass) detail (i / 1024) (omega (arith, (laid p.pass).chunks, p.below)) p.row in
      (sym n.0, (bad_group h s (length s) (laid p.pass) (detail / 32) n.1.is_chunk (detail % 32)).0 n.1.own)

  -- ---- header and tables are right: a probe answers what the row of its chunk says

  module _ (pass : first (opening_rows level s) ≡ Ok tt) (right : first (table_rows (header_of s) s) ≡ Ok tt) (W i : ℕ) (width : (header_of s).width ≡ W) (below : i < (header_of s).count) where
    chunk_probed : first (probe_rows W level s i) ≡ first (chunk_row (header_of s) s (i / 1024) ∷ [])
    unfolding own_rows
    chunk_probed =
        sym (probe_own level s pass (header_of s) refl W i width below)
        ∙ opened (table_rows (header_of s) s) (chunk_row (header_of s) s (i / 1024) ∷ []) right

    at_chunk_lem : (j : ℕ) → i / 1024 ≡ j → first (chunk_row (header_of s) s j ∷ []) ≡ Err (BrokenChunk detail) → first (probe_rows W level s i) ≡ Err (BrokenChunk detail)
    at_chunk_lem j same stop = chunk_probed ∙ ap (λ (x : ℕ). first (chunk_row (header_of s) s x ∷ [])) same ∙ stop

  -- where one value is refused, so is each of its chunk
  pub probe_whole : (W i : ℕ) → first (probe_rows W level s i) ≡ Err (BrokenChunk detail) → (k : ℕ) → k < (header_of s).count → k / 1024 ≡ i / 1024 → first (probe_rows W level s k) ≡ Err (BrokenChunk detail)
  probe_whole W i e k below same = let p = probed W i e in at_chunk_lem p.pass p.right W k p.width below (i / 1024) same p.row

  -- where check refuses, so does the probe of each value of the named chunk; the values of every good chunk are read
  module _ (refused : first (check_rows level s) ≡ Err (BrokenChunk detail)) (W i : ℕ) (width : (header_of s).width ≡ W) (below : i < (header_of s).count) where
    open_tables : (first (opening_rows level s) ≡ Ok tt) × (first (table_rows (header_of s) s) ≡ Ok tt)
    unfolding content_rows without
    open_tables = let b = check_behind level s (BrokenChunk detail) refl refused in (b.0, (table_others (chunk_rows (header_of s) s) b.1).0)

    pub probe_lost : i / 1024 ≡ detail / 32 → first (probe_rows W level s i) ≡ Err (BrokenChunk detail)
    probe_lost same =
        let f = check_named refused in
        let own = (bad_group (header_of s) s (length s) (laid open_tables.0) (detail / 32) f.chunk (detail % 32)).1 f.group in
        at_chunk_lem open_tables.0 open_tables.1 W i width below (detail / 32) same
        (sym (bad_row (header_of s) s (detail / 32) (detail % 32) own) ∙ ap (λ (d : ℕ). Err (BrokenChunk d)) (let whole : detail / 32 * 32 + detail % 32 ≡ detail = omega arith in whole))

    pub probe_kept : chunk_state (header_of s) s (i / 1024) ≡ good → first (probe_rows W level s i) ≡ Ok tt
    probe_kept good = chunk_probed open_tables.0 open_tables.1 W i width below ∙ sym (good_row (header_of s) s (i / 1024) good)
