-- How the operations that read agree with each other, and how a level agrees with a higher one.
use mathlib.Core.Path.{◌≡◌, refl, sym, ap, ◌∙◌}
use mathlib.Core.Bool.{true}
use mathlib.Core.List.{List, [], ◌∷◌, ◌++◌}
use Prim.Native.Nat.{ℕ, ◌/◌, ◌≤◌, ◌<◌}
use native.Mathlib.Nat.{le_trans}
use native.Mathlib.Omega.{arith}
use borrow.Author.Tests.{le-ltb, eq-eqb}
use lib.ListN.{length, get_or}
use Rattle.stream.specs.Setting.{known_level}
use Rattle.stream.specs.Header.{header_of}
use Rattle.stream.specs.Stream.{values, value_at}
use Rattle.stream.specs.Rows.{Row, first}
use Rattle.stream.specs.Operations.{opening_rows, table_rows, chunk_row, content_rows, width_row, room_row, index_row, own_rows, check_rows, unpack_rows, probe_rows}
use Rattle.std.specs.Prelude.{Ok}
use Rattle.stream.proofs.Law.Rows.First.{and_then, first_append, opened, opened_both}
use Rattle.stream.proofs.Law.Rows.Chunks.{all_good, good_row}
use Rattle.stream.proofs.Law.Header.Layout.{laid_out}
use Rattle.stream.proofs.Law.Rows.Passed.{Opening, Unpacking, opening, opening_passes, tables_passed, unpacking}
use Rattle.stream.proofs.Law.Rows.Given.{probe_own}
use Rattle.stream.proofs.Law.Values.Counts.{length_values, value_of}

-- ---- check and unpack

pub unpack_check : (level : ℕ) (s : List ℕ) (room : ℕ) → (header_of s).count ≤ room → first (unpack_rows (header_of s).width level s room) ≡ first (check_rows level s)
unfolding unpack_rows check_rows width_row room_row first
unpack_check level s room l =
    let h = header_of s in
    first_append (opening_rows level s) (width_row h.width h ∷ room_row room h ∷ content_rows h s)
    ∙ ap (and_then (first (opening_rows level s))) (rw (eq-eqb h.width h.width refl, le-ltb room h.count l))
    ∙ sym (first_append (opening_rows level s) (content_rows h s))

-- ---- probe and unpack

module _ (W level : ℕ) (s : List ℕ) (room : ℕ) (e : first (unpack_rows W level s room) ≡ Ok tt) where
  u : Unpacking W level s room
  u = unpacking W level s room e

  -- an accepted stream has n values
  pub counted : length (values s) ≡ (header_of s).count
  unfolding values
  counted = length_values (header_of s) s (length s) (laid_out (length s) (header_of s) u.opening.layout)

  module _ (i : ℕ) (below : i < (header_of s).count) where
    pub probe_passes : first (probe_rows W level s i) ≡ Ok tt
    unfolding own_rows
    probe_passes =
        let h = header_of s in
        let j = i / 1024 in
        let l = laid_out (length s) h u.opening.layout in
        sym (probe_own level s (opening_passes level s u.opening) h refl W i u.width below)
        ∙ opened (table_rows h s) (chunk_row h s j ∷ []) (tables_passed h s u.tables)
        ∙ sym (good_row h s j (all_good h s u.chunks j (omega arith)))

    pub probe_value : get_or (values s) i 0 ≡ value_at s i
    unfolding values value_at
    probe_value = value_of (header_of s) s (length s) (laid_out (length s) (header_of s) u.opening.layout) i below

-- ---- levels

higher : (level level' : ℕ) (s : List ℕ) → level ≤ level' → known_level level' ≡ true → Opening level s → Opening level' s
higher level level' s l k o =
    record { known = k; long = o.long; major = o.major; needed = le_trans o.needed l; setting = o.setting; layout = o.layout }

module _ (level level' : ℕ) (s : List ℕ) (l : level ≤ level') (k : known_level level' ≡ true) where
  -- rows that every operation has behind its opening
  higher_rows : (rows : List Row) → first (opening_rows level s ++ rows) ≡ Ok tt → first (opening_rows level' s ++ rows) ≡ Ok tt
  higher_rows rows e =
      let both = opened_both (opening_rows level s) rows e in
      opened (opening_rows level' s) rows (opening_passes level' s (higher level level' s l k (opening level s both.0))) ∙ both.1

  pub higher_check : first (check_rows level s) ≡ Ok tt → first (check_rows level' s) ≡ Ok tt
  unfolding check_rows
  higher_check e = higher_rows (content_rows (header_of s) s) e

  pub higher_unpack : (W room : ℕ) → first (unpack_rows W level s room) ≡ Ok tt → first (unpack_rows W level' s room) ≡ Ok tt
  unfolding unpack_rows
  higher_unpack W room e = higher_rows (width_row W (header_of s) ∷ room_row room (header_of s) ∷ content_rows (header_of s) s) e

  pub higher_probe : (W i : ℕ) → first (probe_rows W level s i) ≡ Ok tt → first (probe_rows W level' s i) ≡ Ok tt
  unfolding probe_rows
  higher_probe W i e = higher_rows (width_row W (header_of s) ∷ index_row i (header_of s) ∷ own_rows (header_of s) s i) e
