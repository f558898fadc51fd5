-- What refusal 15 tells of any bytes: every row before it has passed, and it is the row of the first high id.
use mathlib.Core.Path.{◌≡◌, refl, sym, ap, ◌∙◌}
use mathlib.Core.Bool.{Bool, true, false, ◌&&◌, not}
use mathlib.Core.List.{List, [], ◌∷◌, ◌++◌, map, append-nil}
use Prim.Native.Nat.{ℕ, zero, suc, ◌/◌}
use native.Mathlib.Omega.{arith}
use borrow.Author.Tests.{eqb-true, not-false}
use lib.Dec.{eqb}
use lib.ListN.{replicate}
use Rattle.stream.specs.Setting.{stream_need}
use Rattle.stream.specs.Header.{header_of, setting_in}
use Rattle.stream.specs.Tables.{chunk_table_right, side_table_right, ids_in, some_high, first_high}
use Rattle.stream.specs.Rows.{Row, row, first, numbers_of}
use Rattle.stream.specs.Operations.{opening_rows, need_row, id_row, side_rows, table_rows, chunk_row, chunk_rows, content_rows, own_rows, check_rows, unpack_rows, probe_rows}
use Rattle.stream.specs.Theorem.{NotUnderstood}
use Rattle.std.specs.Prelude.{Ok, Err}
use Rattle.stream.specs.declared.answers.Refusal.TheVariants.{BrokenHeader, BrokenTable, MustBeUnderstood}
use Rattle.stream.proofs.Law.Plain.Truth.{and_left, and_right}
use Rattle.stream.proofs.Law.Rows.First.{opened, shut, passed_both, not_given, without, others}
use Rattle.stream.proofs.Law.Rows.Given.{check_behind, unpack_behind, probe_behind}
use Rattle.stream.proofs.Law.Rows.Passed.{opening}
use Rattle.stream.proofs.Law.Rows.Ids.{low_pass, high_stop}
use Rattle.stream.proofs.Law.Rows.Chunks.{chunk_numbers, own_number}

tens : (n : ℕ) → without 15 (replicate n 10) ≡ true
unfolding without replicate
tens zero = refl
tens (suc n) = tens n

module _ (level : ℕ) (s : List ℕ) (id : ℕ) where
  abbrev ids : List ℕ
  ids = ids_in (header_of s) s

  -- 9 8 15, and rows of other numbers behind
  module _ (pass : first (opening_rows level s) ≡ Ok tt) (rows : List Row) (later : without 15 (numbers_of rows) ≡ true)
      (stop : first (table_rows (header_of s) s ++ rows) ≡ Err (MustBeUnderstood id)) where
    abbrev right : Bool
    right = chunk_table_right (header_of s) s && side_table_right (header_of s) s

    two_passed : (first (row BrokenTable (not right) ∷ need_row (header_of s) ids ∷ []) ≡ Ok tt) × (first (map id_row ids ++ rows) ≡ Err (MustBeUnderstood id))
    unfolding table_rows side_rows need_row numbers_of without
    two_passed = others (MustBeUnderstood id) (row BrokenTable (not right) ∷ need_row (header_of s) ids ∷ []) (map id_row ids ++ rows) refl stop

    named : (b : Bool) → some_high ids ≡ b → (some_high ids ≡ true) × (id ≡ first_high ids)
    unfolding first
    named true high =
        let z : Err (MustBeUnderstood (first_high ids)) ≡ Err (MustBeUnderstood id) = sym (shut (MustBeUnderstood (first_high ids)) (map id_row ids) rows (high_stop ids high)) ∙ two_passed.1 in
        (high, cc)
    named false low =
        let behind : first rows ≡ Err (MustBeUnderstood id) = sym (opened (map id_row ids) rows (low_pass ids low)) ∙ two_passed.1 in
        let z : Ok tt ≡ Err (MustBeUnderstood id) = (others (MustBeUnderstood id) rows [] later (ap first (append-nil rows) ∙ behind)).1 in
        absurd (let n : ◌≡◌ {A = ℕ} 0 1 = cc in omega (arith, n))

    not_understood : NotUnderstood level s id
    unfolding need_row
    not_understood =
        let need = stream_need (setting_in (header_of s)) (some_high ids) in
        let n = named (some_high ids) refl in
        let both = passed_both (row BrokenTable (not right)) (need_row (header_of s) ids ∷ []) two_passed.0 in
        let tables = not-false right (not_given BrokenTable (not right) both.0) in
        let equal = eqb-true (header_of s).needed need (not-false (eqb (header_of s).needed need) (not_given BrokenHeader (not (eqb (header_of s).needed need)) both.1)) in
        record {
          tables = (and_left (chunk_table_right (header_of s) s) (side_table_right (header_of s) s) tables, and_right (chunk_table_right (header_of s) s) (side_table_right (header_of s) s) tables);
          some_high_lem = n.0;
          the_first = n.1;
          right = equal ∙ ap (stream_need (setting_in (header_of s))) n.0;
          reached = (opening level s pass).needed;
        }

  content_told : first (opening_rows level s) ≡ Ok tt → first (content_rows (header_of s) s) ≡ Err (MustBeUnderstood id) → NotUnderstood level s id
  unfolding content_rows
  content_told pass e =
      not_understood pass (chunk_rows (header_of s) s) (ap (without 15) (chunk_numbers (header_of s) s) ∙ tens (header_of s).chunks) e

  pub check_told : first (check_rows level s) ≡ Err (MustBeUnderstood id) → NotUnderstood level s id
  unfolding without
  check_told e = let b = check_behind level s (MustBeUnderstood id) refl e in content_told b.0 b.1

  pub unpack_told : (W room : ℕ) → first (unpack_rows W level s room) ≡ Err (MustBeUnderstood id) → NotUnderstood level s id
  unfolding without
  unpack_told W room e = let b = unpack_behind level s (MustBeUnderstood id) refl W room refl e in content_told b.0 b.1

  pub probe_told : (W i : ℕ) → first (probe_rows W level s i) ≡ Err (MustBeUnderstood id) → NotUnderstood level s id
  unfolding own_rows without
  probe_told W i e =
      let b = probe_behind level s (MustBeUnderstood id) refl W i refl e in
      not_understood b.0 (chunk_row (header_of s) s (i / 1024) ∷ []) (ap (without 15) (own_number (header_of s) s (i / 1024))) b.2
