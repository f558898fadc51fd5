-- A true summary of a stream that a check has accepted: where it lies, and that the list is read from it.
use Rattle.std.specs.Prelude.{Some}
use mathlib.Core.Path.{◌≡◌, sym, ap, ap₂, ◌∙◌}
use mathlib.Core.Bool.{true, ◌&&◌}
use mathlib.Core.List.{List}
use Prim.Native.Nat.{ℕ, suc, ◌+◌, ◌*◌, ◌^◌, ◌≤◌, ◌<◌}
use native.Mathlib.Nat.{suc-mul, mul-le-mul_right}
use native.Mathlib.Omega.{arith}
use borrow.Author.Tests.{leb-true}
use lib.Dec.{leb, ltb}
use lib.ListN.{length, take, drop, length-drop}
use lib.Seq.{length-take-le}
use Rattle.stream.specs.Setting.{fraction_bits}
use Rattle.stream.specs.Header.{header_of}
use Rattle.stream.specs.Tables.{ids_in}
use Rattle.stream.specs.Stream.{count_of, chunk_values}
use Rattle.stream.specs.Access.{header_right, has_id, place_of, length_of, side_bytes, part_there, side_part}
use Rattle.stream.specs.declared.answers.SidePart.{SidePart}
use Rattle.stream.specs.declared.header.Header.{Header}
use Rattle.stream.proofs.Law.Plain.Truth.{and_left, and_right, given_some}
use Rattle.stream.proofs.Law.Setting.Allowed.{width_some}
use Rattle.stream.proofs.Law.Values.Counts.{length_chunk}
use Rattle.stream.proofs.Law.Accepted.{accepted_part}
use Rattle.summary.specs.Order.{rank}
use Rattle.summary.specs.Entry.{nans_in, largest, entry_length}
use Rattle.summary.specs.Summary.{summary_id, summary_in, summary, same, summary_true, numbers_from, holds_in, chunks_from}
use Rattle.summary.specs.Private.{floor_rank, Accepted, Summarised, Comparable}
use Rattle.summary.proofs.Law.Entry.{largest_below, holds_by_largest}
use Rattle.summary.proofs.Law.Stream.{known}
use Rattle.summary.proofs.Law.Values.{values_below}
use Rattle.summary.proofs.Law.Part.{same_equal, length_summary, entry_stands, entry_says_lem, Says}

-- ---- where it lies

module _ (h : Header) (s : List ℕ) (a : Accepted h s) (right : summary_true s ≡ true) where
  abbrev place : ℕ
  place = place_of (header_of s) s summary_id

  abbrev long : ℕ
  long = length_of (header_of s) s summary_id

  there : part_there s summary_id ≡ true
  unfolding summary_true
  there =
      accepted_part a.level s a.pass summary_id
      ∙ and_left (has_id summary_id (ids_in (header_of s) s)) (same (side_bytes (header_of s) s summary_id) (summary s)) right

  inside : place + long ≤ length s
  unfolding part_there
  inside =
      leb-true (place + long) (length s)
      (and_right
      (header_right s && leb ((header_of s).end + 12 * (header_of s).sides) (length s) && has_id summary_id (ids_in (header_of s) s))
      (leb (place + long) (length s)) there)

  bytes : take long (drop place s) ≡ summary_in (header_of s) s
  unfolding summary_true side_bytes summary
  bytes =
      same_equal (take long (drop place s)) (summary_in (header_of s) s)
      (and_right (has_id summary_id (ids_in (header_of s) s)) (same (side_bytes (header_of s) s summary_id) (summary s)) right)

  long_is : h.chunks * entry_length h.width ≡ long
  long_is =
      ap (λ (g : Header). g.chunks * entry_length g.width) a.header
      ∙ sym (length_summary (header_of s) s)
      ∙ sym (ap length bytes)
      ∙ length-take-le long (drop place s) (rw (length-drop place s) (omega (arith, inside)))

  pub summary_part : side_part s summary_id ≡ Some (record { place = place; length = long })
  unfolding side_part
  summary_part = rw there

  pub summary_lies : (p : SidePart) → side_part s summary_id ≡ Some p → Summarised h s p.place
  unfolding side_part
  summary_lies p e =
      let at : p.place ≡ place = ap (λ (q : SidePart). q.place) (sym (given_some _ _ _ e).1) in
      record {
        accepted = a;
        inside = omega (arith, long_is, inside, at);
        is = ap₂ (λ (n q : ℕ). take n (drop q s)) long_is at ∙ bytes ∙ ap (λ (g : Header). summary_in g s) (sym a.header);
      }

-- ---- the numbers that are listed, by the header that the code has read

pub numbers_listed : (h : Header) (s : List ℕ) → h ≡ header_of s → (x : ℕ) → numbers_from (holds_in x h s) h.chunks 0 ≡ chunks_from x s
unfolding chunks_from
numbers_listed h s is x = ap (λ (g : Header). numbers_from (holds_in x g s) g.chunks 0) is

-- ---- the entry j of a summary at `place`, with the length that the code has for an entry

module _ (h : Header) (s : List ℕ) (place : ℕ) (lies : Summarised h s place) (j : ℕ) (below : j < h.chunks) (size : ℕ) (is : size ≡ entry_length h.width) where
  pub entry_room : place + j * size + entry_length h.width ≤ length s
  entry_room =
      let most : suc j * size ≤ h.chunks * size = mul-le-mul_right size below in
      omega (arith, most, suc-mul j size, lies.inside, is, ap (λ (n : ℕ). h.chunks * n) is)

  pub entry_read : Says h s lies.accepted j below s (place + j * size)
  entry_read =
      entry_says_lem h s lies.accepted j below s (place + j * size)
      (ap (λ (n : ℕ). take (entry_length h.width) (drop (place + j * n) s)) is ∙ entry_stands h s s place lies.is j below)

-- ---- and what the code asks of its numbers

module _ (h : Header) (s : List ℕ) (a : Accepted h s) (j : ℕ) (below : j < h.chunks) where
  abbrev W : ℕ
  W = h.width

  abbrev m : ℕ
  m = fraction_bits h.width

  pub largest_fits : (l : ℕ) → l ≡ largest W m (chunk_values h s j) → l < 2 ^ W
  largest_fits l e = rw e (largest_below W m (chunk_values h s j) (values_below h s a j below))

  -- the test of the code is the question
  pub entry_holds : (x : ℕ) → Comparable h x → (nans n floor top l : ℕ) → nans ≡ nans_in W m (chunk_values h s j) → l ≡ largest W m (chunk_values h s j)
      → n ≡ count_of h j → floor ≡ floor_rank W x → top ≡ rank W l → (ltb nans n && leb floor top) ≡ holds_in x h s j
  unfolding holds_in
  entry_holds x b nans n floor top l is-nans is-largest is-count is-floor is-top =
      ap₂ ◌&&◌
      (ap₂ ltb is-nans (is-count ∙ sym (length_chunk h s j)))
      (ap₂ leb is-floor (is-top ∙ ap (rank W) is-largest))
      ∙ sym (holds_by_largest W m (width_some W (known h s a)) x b.fits b.number (chunk_values h s j) (values_below h s a j below))
