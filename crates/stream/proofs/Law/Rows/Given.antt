-- The rows of an operation behind the opening, one by one: which is given, or what is left when none is. And where the row that is given has a number of the tables
-- or the chunks, what it is found behind.
use mathlib.Core.Path.{◌≡◌, sym}
use mathlib.Core.Bool.{true}
use mathlib.Core.List.{List, [], ◌∷◌, ◌++◌}
use Prim.Native.Nat.{ℕ, ◌≤◌, ◌<◌}
use borrow.Author.Tests.{lt-ltb, le-ltb, eq-eqb, ne_eqb}
use Rattle.stream.specs.Rows.{number_of, Row, first, numbers_of}
use Rattle.stream.specs.Header.{header_of}
use Rattle.stream.specs.Operations.{header_rows, opening_rows, content_rows, width_row, room_row, index_row, own_rows, check_rows, unpack_rows, probe_rows}
use Rattle.std.specs.Prelude.{Ok, Err}
use Rattle.stream.specs.declared.answers.Refusal.{Refusal}
use Rattle.stream.specs.declared.answers.Refusal.TheVariants.{NoRoom, NoSuchIndex, OtherWidth}
use Rattle.stream.specs.declared.header.Header.{Header}
use Rattle.stream.proofs.Law.Rows.First.{opened, shut, without, others}

-- the opening refused
module _ (level : ℕ) (s : List ℕ) (refusal : Refusal) (closed : first (opening_rows level s) ≡ Err refusal) where
  pub check_shut : Err refusal ≡ first (check_rows level s)
  unfolding check_rows
  check_shut = sym (shut refusal (opening_rows level s) (content_rows (header_of s) s) closed)

  pub unpack_shut : (W room : ℕ) → Err refusal ≡ first (unpack_rows W level s room)
  unfolding unpack_rows
  unpack_shut W room = sym (shut refusal (opening_rows level s) (width_row W (header_of s) ∷ room_row room (header_of s) ∷ content_rows (header_of s) s) closed)

  pub probe_shut : (W i : ℕ) → Err refusal ≡ first (probe_rows W level s i)
  unfolding probe_rows
  probe_shut W i = sym (shut refusal (opening_rows level s) (width_row W (header_of s) ∷ index_row i (header_of s) ∷ own_rows (header_of s) s i) closed)

-- the opening passed, and h is its header
module _ (level : ℕ) (s : List ℕ) (pass : first (opening_rows level s) ≡ Ok tt) (h : Header) (is : h ≡ header_of s) where
  pub check_content : first (content_rows h s) ≡ first (check_rows level s)
  unfolding check_rows
  check_content = rw is (sym (opened (opening_rows level s) (content_rows (header_of s) s) pass))

  module _ (W room : ℕ) where
    unpack_opened : first (width_row W h ∷ room_row room h ∷ content_rows h s) ≡ first (unpack_rows W level s room)
    unfolding unpack_rows
    unpack_opened = rw is (sym (opened (opening_rows level s) (width_row W (header_of s) ∷ room_row room (header_of s) ∷ content_rows (header_of s) s) pass))

    pub unpack_width : (h.width ≡ W → ⊥) → Err OtherWidth ≡ first (unpack_rows W level s room)
    unfolding width_row first
    unpack_width n = rw (ne_eqb h.width W n) at unpack_opened

    pub unpack_room : h.width ≡ W → room < h.count → Err (NoRoom h.count) ≡ first (unpack_rows W level s room)
    unfolding width_row room_row first
    unpack_room w l = rw (eq-eqb h.width W w, lt-ltb room h.count l) at unpack_opened

    pub unpack_content : h.width ≡ W → h.count ≤ room → first (content_rows h s) ≡ first (unpack_rows W level s room)
    unfolding width_row room_row first
    unpack_content w l = rw (eq-eqb h.width W w, le-ltb room h.count l) at unpack_opened

  module _ (W i : ℕ) where
    probe_opened : first (width_row W h ∷ index_row i h ∷ own_rows h s i) ≡ first (probe_rows W level s i)
    unfolding probe_rows
    probe_opened = rw is (sym (opened (opening_rows level s) (width_row W (header_of s) ∷ index_row i (header_of s) ∷ own_rows (header_of s) s i) pass))

    pub probe_width : (h.width ≡ W → ⊥) → Err OtherWidth ≡ first (probe_rows W level s i)
    unfolding width_row first
    probe_width n = rw (ne_eqb h.width W n) at probe_opened

    pub probe_index : h.width ≡ W → h.count ≤ i → Err NoSuchIndex ≡ first (probe_rows W level s i)
    unfolding width_row index_row first
    probe_index w l = rw (eq-eqb h.width W w, le-ltb i h.count l) at probe_opened

    pub probe_own : h.width ≡ W → i < h.count → first (own_rows h s i) ≡ first (probe_rows W level s i)
    unfolding width_row index_row first
    probe_own w l = rw (eq-eqb h.width W w, lt-ltb i h.count l) at probe_opened

-- a refusal x that the opening does not have
module _ (level : ℕ) (s : List ℕ) (x : Refusal) (late : without (number_of x) (1 ∷ 5 ∷ 6 ∷ 7 ∷ 8 ∷ []) ≡ true) where
  behind_opening : (rows : List Row) → first (opening_rows level s ++ rows) ≡ Err x → (first (opening_rows level s) ≡ Ok tt) × (first rows ≡ Err x)
  unfolding opening_rows header_rows numbers_of number_of
  behind_opening rows e = others x (opening_rows level s) rows late e

  pub check_behind : first (check_rows level s) ≡ Err x → (first (opening_rows level s) ≡ Ok tt) × (first (content_rows (header_of s) s) ≡ Err x)
  unfolding check_rows
  check_behind e = behind_opening (content_rows (header_of s) s) e

  pub unpack_behind : (W room : ℕ) → without (number_of x) (14 ∷ 4 ∷ []) ≡ true → first (unpack_rows W level s room) ≡ Err x
      → (first (opening_rows level s) ≡ Ok tt) × (first (content_rows (header_of s) s) ≡ Err x)
  unfolding unpack_rows width_row room_row numbers_of number_of
  unpack_behind W room other e =
      let h = header_of s in
      let o = behind_opening (width_row W h ∷ room_row room h ∷ content_rows h s) e in
      (o.0, (others x (width_row W h ∷ room_row room h ∷ []) (content_rows h s) other o.1).1)

  pub probe_behind : (W i : ℕ) → without (number_of x) (14 ∷ 11 ∷ []) ≡ true → first (probe_rows W level s i) ≡ Err x
      → (first (opening_rows level s) ≡ Ok tt) × (first (width_row W (header_of s) ∷ index_row i (header_of s) ∷ []) ≡ Ok tt) × (first (own_rows (header_of s) s i) ≡ Err x)
  unfolding probe_rows width_row index_row numbers_of number_of
  probe_behind W i other e =
      let h = header_of s in
      let o = behind_opening (width_row W h ∷ index_row i h ∷ own_rows h s i) e in
      let m = others x (width_row W h ∷ index_row i h ∷ []) (own_rows h s i) other o.1 in
      (o.0, m.0, m.1)
