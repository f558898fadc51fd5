-- Testing a part entry by entry, finding it in the stream, and the answer that is made of that.
use Rattle.std.specs.Prelude.{Some, None}
use mathlib.Core.Path.{◌≡◌, refl, sym, ap, ap₂, subst, ◌∙◌}
use mathlib.Core.Logic.{⊎_elim}
use mathlib.Core.Bool.{Bool, true, false, ◌&&◌, not, false≢true}
use mathlib.Core.List.{List, [], ◌∷◌}
use Prim.Native.Nat.{ℕ, ◌+◌, ◌-◌, ◌*◌, ◌/◌, ◌≤◌, ◌<◌}
use native.Mathlib.Nat.{zero-add, zero-mul, mul-le-mul}
use native.Mathlib.Omega.{arith}
use borrow.Author.Tests.{eq-eqb, eqb-true, leb-true}
use lib.Dec.{leb, eqb}
use lib.ListN.{length, take, drop}
use lib.Seq.{take_all}
use Rattle.blocks.specs.Bytes.{Below, number}
use Rattle.stream.specs.Setting.{fraction_bits}
use Rattle.stream.specs.Header.{header_of}
use Rattle.stream.specs.Tables.{ids_in}
use Rattle.stream.specs.Stream.{joined, chunk_values}
use Rattle.stream.specs.Access.{header_right, has_id, place_of, length_of, side_bytes, part_there, side_part}
use Rattle.stream.specs.Rows.{first, answer}
use Rattle.stream.specs.Operations.{check_rows}
use Rattle.stream.specs.declared.answers.SidePart.{SidePart}
use Rattle.std.specs.Prelude.{Ok, Err}
use Rattle.stream.specs.declared.answers.Refusal.{Refusal}
use Rattle.stream.specs.declared.answers.Refusal.TheVariants.{NoTrueSummary}
use Rattle.stream.specs.declared.header.Header.{Header}
use Rattle.stream.proofs.Law.Plain.Truth.{and_left, and_right, given_some, given_none}
use Rattle.stream.proofs.Law.Setting.Allowed.{width_cases}
use Rattle.stream.proofs.Law.Rows.First.{opened, shut}
use Rattle.stream.proofs.Law.Accepted.{accepted_part}
use Rattle.summary.specs.declared.entry.Entry.{Entry}
use Rattle.summary.specs.Entry.{entry_length}
use Rattle.summary.specs.Summary.{chunk_entry, summary_in, summary, summary_id, same, summary_true}
use Rattle.summary.specs.Operations.{summary_row, test_rows, test_answer}
use Rattle.summary.specs.Private.{Accepted, entry_says}
use Rattle.summary.proofs.Law.Stream.{known, chunks_few}
use Rattle.summary.proofs.Law.Part.{same_refl, same_other, length_summary, entry_inside, entry_stands, one_more, entry_says_lem, says_entry}

-- ---- the size: a product that fits

pub summary_small : (h : Header) (s : List ℕ) → Accepted h s → h.chunks * entry_length h.width ≤ 20480
unfolding entry_length
summary_small h s a = mul-le-mul (chunks_few h s a) short
  where
    short : 4 + 2 * (h.width / 8) ≤ 20
    short = ⊎_elim (λ e. omega arith) (λ e. omega arith) (width_cases h.width (known h s a))

-- ---- entry by entry

-- an entry's three numbers as they stand in bytes
abbrev pub ReadAt : Entry → ℕ → List ℕ → ℕ → Type 0
ReadAt p W xs at =
    (p.nans ≡ number 256 (take 4 (drop at xs))) × (p.smallest ≡ number 256 (take (W / 8) (drop (at + 4) xs)))
    × (p.largest ≡ number 256 (take (W / 8) (drop (at + 4 + W / 8) xs)))

-- the first j entries of a part are those of the summary
pub record Right (h : Header) (s part : List ℕ) (j : ℕ) : Type 0 where
  pub within : j ≤ h.chunks
  pub front : take (j * entry_length h.width) part ≡ joined (chunk_entry h s) j

pub right_none : (h : Header) (s part : List ℕ) → Right h s part 0
unfolding joined
right_none h s part = record { within = omega arith; front = ap (λ (n : ℕ). take n part) (zero-mul (entry_length h.width)) }

module _ (h : Header) (s part : List ℕ) (long : length part ≡ h.chunks * entry_length h.width) where
  all_taken : take (h.chunks * entry_length h.width) part ≡ part
  all_taken = take_all (h.chunks * entry_length h.width) part (omega arith)

  pub right_all : (j : ℕ) → Right h s part j → h.chunks ≤ j → true ≡ same part (summary_in h s)
  unfolding summary_in
  right_all j r l =
      let e : j ≡ h.chunks = omega (arith, r.within) in
      let is : part ≡ joined (chunk_entry h s) h.chunks =
      sym all_taken ∙ subst (λ (k : ℕ). take (k * entry_length h.width) part ≡ joined (chunk_entry h s) k) e r.front in
      sym (ap (λ (p : List ℕ). same p (joined (chunk_entry h s) h.chunks)) is ∙ same_refl (joined (chunk_entry h s) h.chunks))

  equal : (b : Bool) → not b ≡ false → b ≡ true
  equal true e = refl
  equal false e = sym e

  -- one turn: the entry e of the values against the entry p that stands in the part
  module _ (a : Accepted h s) (below : Below 256 part) (j : ℕ) (l : j < h.chunks) (size : ℕ) (is-size : size ≡ entry_length h.width) (e p : Entry)
      (says : entry_says e h.width (fraction_bits h.width) (chunk_values h s j)) (read : ReadAt p h.width part (j * size))
      (r : Bool) (is : r ≡ not (eqb e.nans p.nans && (eqb e.smallest p.smallest && eqb e.largest p.largest))) where
    abbrev E : ℕ
    E = entry_length h.width

    reads : ReadAt p h.width part (j * E)
    reads = subst (λ (n : ℕ). ReadAt p h.width part (j * n)) is-size read

    pub turn_right : Right h s part j → r ≡ false → Right h s part (j + 1)
    turn_right so_far f =
        let three = equal (eqb e.nans p.nans && (eqb e.smallest p.smallest && eqb e.largest p.largest)) (sym is ∙ f) in
        let two = and_right (eqb e.nans p.nans) (eqb e.smallest p.smallest && eqb e.largest p.largest) three in
        let n = eqb-true e.nans p.nans (and_left (eqb e.nans p.nans) (eqb e.smallest p.smallest && eqb e.largest p.largest) three) in
        let low = eqb-true e.smallest p.smallest (and_left (eqb e.smallest p.smallest) (eqb e.largest p.largest) two) in
        let high = eqb-true e.largest p.largest (and_right (eqb e.smallest p.smallest) (eqb e.largest p.largest) two) in
        let next = says_entry h s a j l part (j * E) below (omega (arith, long, entry_inside E j h.chunks l))
        (sym reads.0 ∙ sym n ∙ says.0, sym reads.1 ∙ sym low ∙ says.1, sym reads.2 ∙ sym high ∙ says.2) in
        record { within = omega arith; front = one_more h s part j so_far.front next }

    pub turn_wrong : r ≡ true → false ≡ same part (summary_in h s)
    turn_wrong t = sym (same_other part (summary_in h s) never)
      where
        never : part ≡ summary_in h s → ⊥
        never same_bytes =
            let there = entry_stands h s part 0 (all_taken ∙ same_bytes) j l in
            let here = ap (λ (n : ℕ). take E (drop n part)) (sym (zero-add (j * E))) ∙ there in
            let q = entry_says_lem h s a j l part (j * E) here in
            let all : (eqb e.nans p.nans && (eqb e.smallest p.smallest && eqb e.largest p.largest)) ≡ true =
            rw (eq-eqb e.nans p.nans (says.0 ∙ sym (reads.0 ∙ q.0)), eq-eqb e.smallest p.smallest (says.1 ∙ sym (reads.1 ∙ q.1)), eq-eqb e.largest p.largest (says.2 ∙ sym (reads.2 ∙ q.2))) in
            false≢true (sym (is ∙ ap not all) ∙ t)

-- any other length
pub other_length : (h : Header) (s part : List ℕ) → (length part ≡ h.chunks * entry_length h.width → ⊥) → false ≡ same part (summary_in h s)
other_length h s part n = sym (same_other part (summary_in h s) (λ e. n (ap length e ∙ length_summary h s)))

-- ---- where the part lies

module _ (h : Header) (s : List ℕ) (a : Accepted h s) where
  pub record Found (id place long : ℕ) : Type 0 where
    pub has : has_id id (ids_in h s) ≡ true
    pub place_is : place ≡ place_of h s id
    pub length_is : long ≡ length_of h s id
    pub inside : place + long ≤ length s

  pub found_part : (id : ℕ) (p : SidePart) → side_part s id ≡ Some p → Found id p.place p.length
  unfolding side_part part_there
  found_part id p e =
      let g = given_some _ _ _ e in
      let is : h ≡ header_of s = a.header in
      let at : p.place ≡ place_of (header_of s) s id = ap (λ (q : SidePart). q.place) (sym g.1) in
      let long : p.length ≡ length_of (header_of s) s id = ap (λ (q : SidePart). q.length) (sym g.1) in
      record {
        has = subst (λ (k : Header). has_id id (ids_in k s) ≡ true) (sym is) (sym (accepted_part a.level s a.pass id) ∙ g.0);
        place_is = at ∙ ap (λ (k : Header). place_of k s id) (sym is);
        length_is = long ∙ ap (λ (k : Header). length_of k s id) (sym is);
        inside = omega (
          arith,
          at,
          long,
          leb-true (place_of (header_of s) s id + length_of (header_of s) s id) (length s) (and_right
              (header_right s && leb ((header_of s).end + 12 * (header_of s).sides) (length s) && has_id id (ids_in (header_of s) s))
              (leb (place_of (header_of s) s id + length_of (header_of s) s id) (length s)) g.0),
        );
      }

  pub found_true : (p : SidePart) → side_part s 1 ≡ Some p → (r : Bool) → r ≡ same (take (p.place + p.length - p.place) (drop p.place s)) (summary_in h s) → r ≡ summary_true s
  unfolding summary_true summary_id side_bytes summary
  found_true p e r is =
      let f = found_part 1 p e in
      let part : take (p.place + p.length - p.place) (drop p.place s) ≡ take (length_of h s 1) (drop (place_of h s 1) s) =
      ap₂ (λ (n k : ℕ). take n (drop k s)) (let q : p.place + p.length - p.place ≡ length_of h s 1 = omega (arith, f.length_is) in q) f.place_is in
      is ∙ ap (λ (xs : List ℕ). same xs (summary_in h s)) part
      ∙ sym (ap (λ (b : Bool). b && same (take (length_of h s 1) (drop (place_of h s 1) s)) (summary_in h s)) f.has)
      ∙ ap (λ (k : Header). has_id 1 (ids_in k s) && same (take (length_of k s 1) (drop (place_of k s 1) s)) (summary_in k s)) a.header

  pub no_part_false : side_part s 1 ≡ None → false ≡ summary_true s
  unfolding side_part summary_true summary_id
  no_part_false e = rw (sym (accepted_part a.level s a.pass 1) ∙ given_none _ _ e)

-- ---- the answer

module _ (level : ℕ) (s : List ℕ) where
  pub test_shut : (refusal : Refusal) → first (check_rows level s) ≡ Err refusal → Err refusal ≡ test_answer level s
  unfolding test_answer test_rows answer
  test_shut refusal e = rw (shut refusal (check_rows level s) (summary_row s ∷ []) e)

  module _ (pass : first (check_rows level s) ≡ Ok tt) where
    pub test_false : summary_true s ≡ false → Err NoTrueSummary ≡ test_answer level s
    unfolding test_answer test_rows summary_row answer first
    test_false e = rw (opened (check_rows level s) (summary_row s ∷ []) pass, e)

    pub test_true : summary_true s ≡ true → (h : Header) → h ≡ header_of s → Ok h.count ≡ test_answer level s
    unfolding test_answer test_rows summary_row answer first
    test_true e h is = rw (opened (check_rows level s) (summary_row s ∷ []) pass, e, is)
