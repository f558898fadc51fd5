-- What libraries above this one read (`one_chunk`, `sides`), of a stream that a check has accepted: a chunk's values are the stretch of the stream's own values from
-- 1,024 times its number on, which is what unpack leaves there; and a side part is found exactly where an entry of the side table says that it lies.
use Rattle.std.specs.Prelude.{Some, None}
use mathlib.Core.Path.{◌≡◌, sym, ap, ap₂, ◌∙◌}
use mathlib.Core.Logic.{◌↔◌}
use mathlib.Core.Bool.{Bool, true, cond}
use mathlib.Core.List.{List, ◌++◌}
use Prim.Native.Nat.{ℕ, ◌*◌, ◌≤◌, ◌<◌}
use lib.ListN.{length, take, drop}
use Rattle.stream.specs.Header.{header_of}
use Rattle.stream.specs.Tables.{side_id, side_place, side_length, ids_in}
use Rattle.stream.specs.Stream.{count_of, chunk_values, values}
use Rattle.stream.specs.Access.{chunk_read, chunk_out, has_id, entry_of, place_of, length_of, side_part}
use Rattle.stream.specs.Rows.{first}
use Rattle.stream.specs.Operations.{check_rows, check_answer}
use Rattle.stream.specs.declared.answers.SidePart.{SidePart}
use Rattle.std.specs.Prelude.{Ok}
use Rattle.stream.proofs.Law.Values.Counts.{chunk_stretch}
use Rattle.stream.proofs.Law.Tables.Entries.{entry_has, the_entry}
use Rattle.stream.proofs.Law.Rows.Passed.{checking}
use Rattle.stream.proofs.Law.Access.{entry_inside}
use Rattle.stream.proofs.Law.Plain.Truth.{given_some}
use Rattle.stream.proofs.Law.Accepted.{accepted_layout, accepted_chunk, accepted_part}
use Rattle.stream.proofs.Law.Rows.First.{done_pass}

module _ (level : ℕ) (s : List ℕ) (n : ℕ) (done : check_answer level s ≡ Ok n) where
  pass : first (check_rows level s) ≡ Ok tt
  unfolding check_answer
  pass = (done_pass (first (check_rows level s)) (header_of s).count n done).0

  -- "A chunk .. holds 1,024 values, the last one the remainder"
  pub a_chunk_is_a_stretch : (j : ℕ) → j < (header_of s).chunks → chunk_values (header_of s) s j ≡ take 1024 (drop (1024 * j) (values s))
  unfolding values
  a_chunk_is_a_stretch j below = chunk_stretch (header_of s) s (length s) (accepted_layout level s pass) j below

  pub a_chunk_is_read : (j : ℕ) → j < (header_of s).chunks → (out : List ℕ) → count_of (header_of s) j ≤ length out
      → (chunk_read (header_of s).width s j (length out) ≡ Some (count_of (header_of s) j))
      × (chunk_out (header_of s).width s j out ≡ take 1024 (drop (1024 * j) (values s)) ++ drop (count_of (header_of s) j) out)
  a_chunk_is_read j below out room =
      let r = accepted_chunk level s pass j below out room in
      (r.0, r.1 ∙ ap (λ (vs : List ℕ). vs ++ drop (count_of (header_of s) j) out) (a_chunk_is_a_stretch j below))

  -- an entry of the side table that says where the part with the id lies
  abbrev Says : ℕ → ℕ → ℕ → Type 0
  Says id place long = (i : ℕ) × (i < (header_of s).sides) × (side_id (header_of s) s i ≡ id) × (side_place (header_of s) s i ≡ place) × (side_length (header_of s) s i ≡ long)

  part_is : (id : ℕ) → has_id id (ids_in (header_of s) s) ≡ true → side_part s id ≡ Some (record { place = place_of (header_of s) s id; length = length_of (header_of s) s id })
  unfolding side_part
  part_is id e = ap (λ (x : Bool). cond x (Some (record { place = place_of (header_of s) s id; length = length_of (header_of s) s id })) None) (accepted_part level s pass id ∙ e)

  found : (id place long : ℕ) → side_part s id ≡ Some (record { place = place; length = long }) → Says id place long
  unfolding side_part place_of length_of
  found id place long e =
      let g = given_some _ _ _ e in
      let has = sym (accepted_part level s pass id) ∙ g.0 in
      (entry_of id (ids_in (header_of s) s), entry_inside (header_of s) s id has, entry_has (header_of s) s id has, ap (λ (p : SidePart). p.place) g.1, ap (λ (p : SidePart). p.length) g.1)

  says : (id place long : ℕ) → Says id place long → side_part s id ≡ Some (record { place = place; length = long })
  unfolding place_of length_of
  says id place long (i, l, is, p, q) =
      let own = the_entry (header_of s) s (checking level s pass).1.sides id i l is in
      part_is id own.0
      ∙ ap₂ (λ (place long : ℕ). Some (record { place = place; length = long })) (ap (side_place (header_of s) s) own.1 ∙ p) (ap (side_length (header_of s) s) own.1 ∙ q)

  pub a_side_part_is_found_where_an_entry_says : (id place long : ℕ) → side_part s id ≡ Some (record { place = place; length = long }) ↔ Says id place long
  a_side_part_is_found_where_an_entry_says id place long = (found id place long, says id place long)
