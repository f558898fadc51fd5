-- What libraries above this one read: one side part, found by its id, and one chunk.
use Rattle.std.specs.Prelude.{Option, Some, None}
use mathlib.Core.Path.{◌≡◌, refl, sym, ap, ◌∙◌}
use mathlib.Core.Bool.{Bool, true, false, cond, ◌&&◌, ◌||◌, false≢true}
use mathlib.Core.List.{List, ◌++◌}
use Prim.Native.Nat.{ℕ, zero, suc, ◌+◌, ◌-◌, ◌*◌, ◌≤◌, ◌<◌}
use native.Mathlib.Nat.{zero-add}
use native.Mathlib.Omega.{arith}
use borrow.Author.Tests.{eq-eqb, ne_eqb, le-leb, lt-leb, leb-true, ltb-true, eqb-true}
use lib.Dec.{leb, ltb, eqb}
use lib.ListN.{length, drop}
use Rattle.blocks.specs.Bytes.{Below}
use Rattle.stream.specs.Header.{header_of, setting_in, setting_right, layout_right}
use Rattle.stream.specs.Tables.{start_at, start_right, side_id, side_place, side_length, ids_from, ids_in}
use Rattle.stream.specs.Access.{header_right, chunk_placed, chunk_there, chunk_fits, chunk_readable, chunk_read, chunk_out, has_id, entry_of, place_of, length_of, part_there, side_part}
use Rattle.stream.specs.Setting.{group_size}
use Rattle.stream.specs.Chunk.{whole_chunk}
use Rattle.stream.specs.Stream.{count_of, chunk_of, chunk_values}
use Rattle.stream.specs.Lent.{landed}
use Rattle.stream.specs.Relied.{Layout, Placed, Opened}
use Rattle.stream.specs.declared.header.Header.{Header}
use Rattle.stream.proofs.Law.Plain.Truth.{and_left, and_right}
use Rattle.stream.proofs.Law.Values.Counts.{length_chunk}
use Rattle.stream.proofs.Law.Header.Numbers.{words}
use Rattle.stream.proofs.Law.Setting.Allowed.{settled}
use Rattle.stream.proofs.Law.Header.Layout.{laid_out}
use Rattle.stream.proofs.Law.Plain.Truth.{given_some}

-- ---- the entry of an id, among the k from the entry i on
module _ (h : Header) (s : List ℕ) (id : ℕ) where
  abbrev pub seek : ℕ → ℕ → Option ℕ
  seek k i = cond (has_id id (ids_from h s k i)) (Some (i + entry_of id (ids_from h s k i))) None

  pub seek_none : (i : ℕ) → seek 0 i ≡ None
  unfolding has_id ids_from
  seek_none i = refl

  pub seek_here : (k i : ℕ) → side_id h s i ≡ id → seek (suc k) i ≡ Some i
  unfolding has_id entry_of ids_from
  seek_here k i e = rw (eq-eqb (side_id h s i) id e) (ap Some (let q : i + 0 ≡ i = omega arith in q))

  pub seek_on : (k i : ℕ) → (side_id h s i ≡ id → ⊥) → seek (suc k) i ≡ seek k (suc i)
  unfolding has_id entry_of ids_from
  seek_on k i e = rw (ne_eqb (side_id h s i) id e) (go (has_id id (ids_from h s k (suc i))))
    where
      rest : ℕ
      rest = entry_of id (ids_from h s k (suc i))

      go : (b : Bool) → cond b (Some (i + suc rest)) None ≡ cond b (Some (suc i + rest)) None
      go true = ap Some (let q : i + suc rest ≡ suc i + rest = omega arith in q)
      go false = refl

  -- all of the table
  pub seek_all : seek h.sides 0 ≡ cond (has_id id (ids_in h s)) (Some (entry_of id (ids_in h s))) None
  unfolding ids_in
  seek_all = ap (λ (n : ℕ). cond (has_id id (ids_from h s h.sides 0)) (Some n) None) (zero-add _)

  -- an entry that has the id is one of the table's
  entry_below : (k i : ℕ) → has_id id (ids_from h s k i) ≡ true → entry_of id (ids_from h s k i) < k
  unfolding has_id entry_of ids_from
  entry_below zero i e = absurd (false≢true e)
  entry_below (suc k) i e = go (eqb (side_id h s i) id) (ids_from h s k (suc i)) e (λ f. entry_below k (suc i) f)
    where
      go : (b : Bool) (rest : List ℕ) → (b || has_id id rest) ≡ true → (has_id id rest ≡ true → entry_of id rest < k) → cond b 0 (suc (entry_of id rest)) < suc k
      go true rest f again = omega arith
      go false rest f again = omega (arith, again f)

  pub entry_inside : has_id id (ids_in h s) ≡ true → entry_of id (ids_in h s) < h.sides
  unfolding ids_in
  entry_inside e = entry_below h.sides 0 e

  pub found_entry : (i : ℕ) → cond (has_id id (ids_in h s)) (Some (entry_of id (ids_in h s))) None ≡ Some i
      → (has_id id (ids_in h s) ≡ true) × (i ≡ entry_of id (ids_in h s)) × (i < h.sides)
  found_entry i is =
      let g = given_some _ _ _ is in
      let below = entry_inside g.0 in
      (g.0, sym g.1, omega (arith, below, g.1))

-- ---- a header that keeps its rules, whatever the level
module _ (s : List ℕ) (right : header_right s ≡ true) where
  rules : (leb 48 (length s) ≡ true) × (setting_right (header_of s) ≡ true) × (layout_right (length s) (header_of s) ≡ true)
  unfolding header_right
  rules =
      let two = leb 48 (length s) && setting_right (header_of s) in
      let front = and_left two (layout_right (length s) (header_of s)) right in
      (and_left (leb 48 (length s)) (setting_right (header_of s)) front, and_right (leb 48 (length s)) (setting_right (header_of s)) front, and_right two (layout_right (length s) (header_of s)) right)

  pub header_long : 48 ≤ length s
  header_long = leb-true 48 (length s) rules.0

  pub header_opened : Below 256 s → (h : Header) → h ≡ header_of s → Opened (length s) h
  header_opened bytes h is =
      rw is (record { words = words s bytes; setting = settled (header_of s) rules.1; layout = laid_out (length s) (header_of s) rules.2 })

-- ---- one chunk

-- it is not there: the answer, and the output as it was
module _ (W : ℕ) (s : List ℕ) (j : ℕ) (out : List ℕ) (none : chunk_readable W s j (length out) ≡ false) where
  pub not_read : (None ≡ chunk_read W s j (length out)) × (out ≡ chunk_out W s j out)
  unfolding chunk_read chunk_out
  not_read = (rw none, rw none)

-- it is: its place, and what comes back
pub there_placed : (h : Header) (s : List ℕ) (j : ℕ) → Layout (length s) h → chunk_placed h s j ≡ true → Placed h s j
unfolding chunk_placed start_right
there_placed h s j l e =
    let rising = ltb (start_at h s j) (start_at h s (j + 1)) in
    let inside = leb (start_at h s (j + 1)) (h.end - h.start) in
    let most : start_at h s (j + 1) ≤ h.end - h.start = leb-true (start_at h s (j + 1)) (h.end - h.start) (and_right rising inside e) in
    (ltb-true (start_at h s j) (start_at h s (j + 1)) (and_left rising inside e), omega (arith, most, l.ordered))

-- the rules of a chunk that is there, one by one
module _ (W : ℕ) (h : Header) (j room : ℕ) (fits : chunk_fits W h j room ≡ true) where
  pub fits_facts : (j < h.chunks) × (h.width ≡ W) × (count_of h j ≤ room)
  unfolding chunk_fits
  fits_facts =
      let a = ltb j h.chunks in
      let b = eqb h.width W in
      let c = leb (count_of h j) room in
      let front = and_left (a && b) c fits in
      (ltb-true j h.chunks (and_left a b front), eqb-true h.width W (and_right a b front), leb-true (count_of h j) room (and_right (a && b) c fits))

module _ (h : Header) (s : List ℕ) (j : ℕ) (there : chunk_there h s j ≡ true) where
  abbrev whole : Bool
  whole = whole_chunk h.width (group_size (setting_in h)) (count_of h j) (chunk_of h s j)

  pub there_facts : (chunk_placed h s j ≡ true) × (whole_chunk h.width (group_size (setting_in h)) (count_of h j) (chunk_of h s j) ≡ true)
  unfolding chunk_there
  there_facts = (and_left (chunk_placed h s j) whole there, and_right (chunk_placed h s j) whole there)

pub headless : (W : ℕ) (s : List ℕ) (j room : ℕ) → header_right s ≡ false → chunk_readable W s j room ≡ false
unfolding chunk_readable
headless W s j room e = rw e

-- through the header h that the code has read
module _ (W : ℕ) (s : List ℕ) (h : Header) (is : h ≡ header_of s) (right : header_right s ≡ true) (j : ℕ) (out : List ℕ) where
  pub unfit : chunk_fits W h j (length out) ≡ false → chunk_readable W s j (length out) ≡ false
  unfolding chunk_readable
  unfit e = rw (right, ← is, e)

  pub absent : chunk_fits W h j (length out) ≡ true → chunk_there h s j ≡ false → chunk_readable W s j (length out) ≡ false
  unfolding chunk_readable
  absent f e = rw (right, ← is, f, e)

  pub is_read : chunk_fits W h j (length out) ≡ true → chunk_there h s j ≡ true → (n : ℕ) → n ≡ count_of h j → (now : List ℕ) → now ≡ landed 0 (chunk_values h s j) out
      → (Some n ≡ chunk_read W s j (length out)) × (now ≡ chunk_out W s j out)
  unfolding chunk_read chunk_out chunk_readable landed
  is_read f e n count now lands =
      rw (right, ← is, f, e) (ap Some count, lands ∙ ap (λ (k : ℕ). chunk_values h s j ++ drop k out) (zero-add (length (chunk_values h s j)) ∙ length_chunk h s j))

-- ---- one side part, rule by rule

pub no_header : (s : List ℕ) (id : ℕ) → header_right s ≡ false → None ≡ side_part s id
unfolding side_part part_there
no_header s id e = rw e

module _ (s : List ℕ) (id : ℕ) (h : Header) (is : h ≡ header_of s) (right : header_right s ≡ true) where
  pub no_table : length s < h.end + 12 * h.sides → None ≡ side_part s id
  unfolding side_part part_there
  no_table e = rw (right, ← is, lt-leb (h.end + 12 * h.sides) (length s) e)

  module _ (table : h.end + 12 * h.sides ≤ length s) where
    pub no_entry : has_id id (ids_in h s) ≡ false → None ≡ side_part s id
    unfolding side_part part_there
    no_entry e = rw (right, ← is, le-leb (h.end + 12 * h.sides) (length s) table, e)

    -- the entry i has the id
    module _ (has : has_id id (ids_in h s) ≡ true) (i place long : ℕ) (at : i ≡ entry_of id (ids_in h s)) (p : place ≡ side_place h s i) (l : long ≡ side_length h s i) where
      place_is : place_of h s id ≡ place
      unfolding place_of
      place_is = ap (side_place h s) (sym at) ∙ sym p

      length_is : length_of h s id ≡ long
      unfolding length_of
      length_is = ap (side_length h s) (sym at) ∙ sym l

      pub past_the_bytes : length s < place + long → None ≡ side_part s id
      unfolding side_part part_there
      past_the_bytes e = rw (right, ← is, le-leb (h.end + 12 * h.sides) (length s) table, has, place_is, length_is, lt-leb (place + long) (length s) e)

      pub a_part : place + long ≤ length s → Some (record { place = place; length = long }) ≡ side_part s id
      unfolding side_part part_there
      a_part e = rw (right, ← is, le-leb (h.end + 12 * h.sides) (length s) table, has, place_is, length_is, le-leb (place + long) (length s) e)
