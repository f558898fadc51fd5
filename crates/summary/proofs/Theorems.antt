-- The theorems of document 02, R-5: the stated order, what is added and that every reader makes of the copy what it makes of the original, what a test
-- accepts, and what a list names. The words are those of specs/; what the numbers of an entry mean is said in Meaning.antt, and in the words of IEEE 754 in
-- Ieee.antt.
use mathlib.Core.Path.{◌≡◌, refl, sym, ap, subst, ◌∙◌}
use mathlib.Core.Logic.{◌↔◌}
use mathlib.Core.Bool.{Bool, true, false, not, false≢true}
use mathlib.Core.List.{List, [], ◌∷◌, ◌++◌, append-nil}
use Prim.Native.Nat.{ℕ, suc, ◌+◌, ◌*◌, ◌/◌, ◌^◌, ◌≤◌, ◌<◌}
use native.Mathlib.Omega.{arith}
use borrow.Author.Tests.{lt-ltb, le-ltb, ltb-false, eqb-true, not-false}
use lib.Dec.{ltb, eqb}
use lib.Ieee.{Float, nan, inf, fin, Format, of_bits, lt, eq, le}
use lib.ListN.{length, take, drop, get_or, replicate, length-drop, get_or-append}
use lib.Seq.{take_at, drop_at, length-take-le}
use Rattle.blocks.specs.Bytes.{Below}
use Rattle.stream.specs.Rows.{number_of, Row, row, first, Decides, numbers_of, answer, after}
use Rattle.stream.specs.Setting.{known_level, known_width, fraction_bits}
use Rattle.stream.specs.Header.{header_of}
use Rattle.stream.specs.Stream.{count_of, chunk_values, values}
use Rattle.stream.specs.Tables.{side_id, side_place, side_length, side_table_right, ids_in}
use Rattle.stream.specs.Access.{has_id, entry_of, place_of, length_of, side_bytes}
use Rattle.stream.specs.Operations.{opening_rows, header_rows, content_rows, width_row, check_rows, check_answer}
use Rattle.std.specs.Prelude.{⊤, Result, Ok, Err}
use Rattle.stream.specs.declared.answers.Refusal.{Refusal}
use Rattle.stream.specs.declared.answers.Refusal.TheVariants.{UnknownLevel, NotAllowed, NoRoom, NoHeader, BrokenChunk, OtherWidth, HasSideParts, NoTrueSummary}
use Rattle.stream.specs.declared.header.Header.{Header}
use Rattle.stream.proofs.Law.Plain.Truth.{and_left, and_right}
use Rattle.stream.proofs.Law.Rows.First.{and_then, without, others, shut, first_append, then_none, passed, passed_both, opened, opened_both, not_given, decides, decided, done_pass, refused_stop}
use Rattle.stream.proofs.Law.Rows.Passed.{checking, opening_passes}
use Rattle.stream.proofs.Law.Access.{entry_inside}
use Rattle.stream.proofs.Law.Values.Counts.{length_chunk}
use Rattle.stream.proofs.Readers.{check_order}
use Rattle.stream.proofs.Access.{a_chunk_is_a_stretch}
use Rattle.stream.proofs.Understood.{a_high_id_is_never_skipped}
use Rattle.stream.proofs.Law.Accepted.{side_inside}
use Rattle.summary.specs.Summary.{summary_id, summary, with_summary, same, summary_true, holds_in, chunks_from}
use Rattle.summary.specs.Private.{Accepted, ListOpened}
use Rattle.summary.specs.Theorem.{counted, ReadAs, TrueSummary, Says, format_of, HoldsSome}
use Rattle.summary.specs.Order.{not_a_number, at_least}
use Rattle.summary.specs.Entry.{holds, entry_length}
use Rattle.summary.specs.Operations.{sides_row, summary_row, room_for, x_row, add_rows, add_answer, add_out, test_rows, test_answer, list_rows, list_answer, list_out}
use Rattle.summary.proofs.Law.Part.{same_refl, same_equal, length_summary, entry_stands, entry_says_lem}
use Rattle.summary.proofs.Law.Testing.{test_false}
use Rattle.stream.proofs.Law.Tables.Entries.{entry_has, the_entry}
use Rattle.summary.proofs.Law.Values.{values_below}
use Rattle.summary.proofs.Law.Named.{Named, named, stands, rising}
use Rattle.summary.proofs.Meaning.{holds_some}
use Rattle.summary.proofs.Ieee.{at_least_as}
use Rattle.summary.proofs.Law.Copied.{copy_header, copy_read_as, copy_true}
use Rattle.summary.proofs.Law.ListRows.{x_no_number, last_short, last_done, check_passes}

-- ---- demand 1: "Bad input gets one refusal, the first in the stated order, with its stated detail. A refused call changes nothing it was lent."

pub refused_add : (level : ℕ) (s : List ℕ) (room : ℕ) (refusal : Refusal) → add_answer level s room ≡ Err refusal ↔ Decides (add_rows level s room) refusal
unfolding add_answer answer
refused_add level s room refusal = (
  λ e. decides (add_rows level s room) refusal (refused_stop (first (add_rows level s room)) (length (with_summary s)) refusal e),
  λ d. ap (λ (a : Result ⊤ Refusal). answer a (length (with_summary s))) (decided (add_rows level s room) refusal d),
)

pub refused_test : (level : ℕ) (s : List ℕ) (refusal : Refusal) → test_answer level s ≡ Err refusal ↔ Decides (test_rows level s) refusal
unfolding test_answer answer
refused_test level s refusal = (
  λ e. decides (test_rows level s) refusal (refused_stop (first (test_rows level s)) (header_of s).count refusal e),
  λ d. ap (λ (a : Result ⊤ Refusal). answer a (header_of s).count) (decided (test_rows level s) refusal d),
)

pub refused_list : (W level x : ℕ) (s : List ℕ) (room : ℕ) (refusal : Refusal) → list_answer W level x s room ≡ Err refusal ↔ Decides (list_rows W level x s room) refusal
unfolding list_answer answer
refused_list W level x s room refusal = (
  λ e. decides (list_rows W level x s room) refusal (refused_stop (first (list_rows W level x s room)) (length (chunks_from x s)) refusal e),
  λ d. ap (λ (a : Result ⊤ Refusal). answer a (length (chunks_from x s))) (decided (list_rows W level x s room) refusal d),
)

pub refused_add_untouched : (level : ℕ) (s out : List ℕ) (refusal : Refusal) → add_answer level s (length out) ≡ Err refusal → add_out level s out ≡ out
unfolding add_answer add_out after
refused_add_untouched level s out refusal e = rw (refused_stop (first (add_rows level s (length out))) (length (with_summary s)) refusal e)

pub refused_list_untouched : (W level x : ℕ) (s out : List ℕ) (refusal : Refusal) → list_answer W level x s (length out) ≡ Err refusal → list_out W level x s out ≡ out
unfolding list_answer list_out after
refused_list_untouched W level x s out refusal e = rw (refused_stop (first (list_rows W level x s (length out))) (length (chunks_from x s)) refusal e)

-- ---- the stated order: add 1 5 6 7 8 9 8 15 10 16 4, test 1 5 6 7 8 9 8 15 10 17, list 1 2 5 6 7 8 14 9 8 15 10 17 4, with a row 15 for each side part and
-- a row 10 for each chunk

numbers_append : (a b : List Row) → numbers_of (a ++ b) ≡ numbers_of a ++ numbers_of b
unfolding numbers_of
numbers_append [] b = refl
numbers_append (row refusal given ∷ a) b = ap (λ (l : List ℕ). number_of refusal ∷ l) (numbers_append a b)

-- the rows of a check, with others behind
behind_check : (level : ℕ) (s : List ℕ) (rows : List Row)
    → numbers_of (check_rows level s ++ rows) ≡ 1 ∷ 5 ∷ 6 ∷ 7 ∷ 8 ∷ 9 ∷ 8 ∷ (replicate (header_of s).sides 15 ++ replicate (header_of s).chunks 10 ++ numbers_of rows)
behind_check level s rows = numbers_append (check_rows level s) rows ∙ ap (λ (l : List ℕ). l ++ numbers_of rows) (check_order level s)

pub add_order : (level : ℕ) (s : List ℕ) (room : ℕ)
    → numbers_of (add_rows level s room) ≡ 1 ∷ 5 ∷ 6 ∷ 7 ∷ 8 ∷ 9 ∷ 8 ∷ (replicate (header_of s).sides 15 ++ replicate (header_of s).chunks 10 ++ (16 ∷ 4 ∷ []))
unfolding add_rows sides_row room_for numbers_of
add_order level s room = behind_check level s (sides_row s ∷ room_for room (with_summary s) ∷ [])

pub test_order : (level : ℕ) (s : List ℕ)
    → numbers_of (test_rows level s) ≡ 1 ∷ 5 ∷ 6 ∷ 7 ∷ 8 ∷ 9 ∷ 8 ∷ (replicate (header_of s).sides 15 ++ replicate (header_of s).chunks 10 ++ (17 ∷ []))
unfolding test_rows summary_row numbers_of
test_order level s = behind_check level s (summary_row s ∷ [])

content_order : (s : List ℕ) → numbers_of (content_rows (header_of s) s) ≡ 9 ∷ 8 ∷ (replicate (header_of s).sides 15 ++ replicate (header_of s).chunks 10)
unfolding check_rows opening_rows header_rows numbers_of
content_order s = ap (drop 5) (check_order 8 s)

pub list_order : (W level x : ℕ) (s : List ℕ) (room : ℕ)
    → numbers_of (list_rows W level x s room)
    ≡ 1 ∷ 2 ∷ 5 ∷ 6 ∷ 7 ∷ 8 ∷ 14 ∷ 9 ∷ 8 ∷ (replicate (header_of s).sides 15 ++ replicate (header_of s).chunks 10 ++ (17 ∷ 4 ∷ []))
unfolding list_rows x_row header_rows width_row summary_row room_for numbers_of
list_order W level x s room =
    ap (λ (l : List ℕ). 1 ∷ 2 ∷ 5 ∷ 6 ∷ 7 ∷ 8 ∷ 14 ∷ l)
    (numbers_append (content_rows (header_of s) s) (summary_row s ∷ room_for room (chunks_from x s) ∷ [])
    ∙ ap (λ (l : List ℕ). l ++ (17 ∷ 4 ∷ [])) (content_order s))

-- ---- a true summary, and the row 17

true_summary : (s : List ℕ) → summary_true s ≡ true → TrueSummary s
unfolding summary_true summary_id side_bytes place_of length_of
true_summary s e =
    let h = header_of s in
    let has = and_left (has_id 1 (ids_in h s)) (same (side_bytes h s 1) (summary s)) e in
    record {
      entry = entry_of 1 (ids_in h s);
      is_entry = entry_inside h s 1 has;
      id = entry_has h s 1 has;
      bytes = same_equal (side_bytes h s 1) (summary s) (and_right (has_id 1 (ids_in h s)) (same (side_bytes h s 1) (summary s)) e);
    }

summary_true_lem : (s : List ℕ) → side_table_right (header_of s) s ≡ true → TrueSummary s → summary_true s ≡ true
unfolding summary_true summary_id side_bytes place_of length_of
summary_true_lem s right t =
    let h = header_of s in
    let own = the_entry h s right 1 t.entry t.is_entry t.id in
    let part : side_bytes h s 1 ≡ summary s = ap (λ (i : ℕ). take (side_length h s i) (drop (side_place h s i) s)) own.1 ∙ t.bytes in
    rw (own.0, part, same_refl (summary s))

-- a test of a stream whose summary is true is a check
test_of_true : (L : ℕ) (s : List ℕ) → summary_true s ≡ true → test_answer L s ≡ check_answer L s
unfolding test_answer check_answer test_rows summary_row first
test_of_true L s e =
    ap (λ (x : Result ⊤ Refusal). answer x (header_of s).count)
    (first_append (check_rows L s) (summary_row s ∷ []) ∙ ap (and_then (first (check_rows L s))) (rw e) ∙ then_none (first (check_rows L s)))

accepted_test : (level : ℕ) (s : List ℕ) (n : ℕ) → test_answer level s ≡ Ok n → (check_answer level s ≡ Ok n) × TrueSummary s
unfolding test_answer check_answer test_rows summary_row answer
accepted_test level s n e =
    let done = done_pass (first (test_rows level s)) (header_of s).count n e in
    let both = opened_both (check_rows level s) (summary_row s ∷ []) done.0 in
    let true-one = not-false (summary_true s) (not_given NoTrueSummary (not (summary_true s)) both.1) in
    (rw both.0 (ap Ok done.1), true_summary s true-one)

true_test : (level : ℕ) (s : List ℕ) (n : ℕ) → (check_answer level s ≡ Ok n) × TrueSummary s → test_answer level s ≡ Ok n
unfolding check_answer
true_test level s n (e, t) =
    let pass = (done_pass (first (check_rows level s)) (header_of s).count n e).0 in
    test_of_true level s (summary_true_lem s (checking level s pass).1.sides t) ∙ e

not_both : (n : ℕ) (refusal : Refusal) → Ok n ≡ Err refusal → ⊥
not_both n refusal e = let z : ◌≡◌ {A = ℕ} 0 1 = cc in omega arith

le_nan : (x : Float) → le x nan ≡ false
unfolding le lt eq
le_nan nan = refl
le_nan (inf b) = refl
le_nan (fin b m e) = refl

-- ---- what is added

module _ (level : ℕ) (s out : List ℕ) (size : ℕ) (done : add_answer level s (length out) ≡ Ok size) where
  add_passes : (first (add_rows level s (length out)) ≡ Ok tt) × (length (with_summary s) ≡ size)
  unfolding add_answer
  add_passes = done_pass (first (add_rows level s (length out))) (length (with_summary s)) size done

  both_pass : (first (check_rows level s) ≡ Ok tt) × (first (sides_row s ∷ room_for (length out) (with_summary s) ∷ []) ≡ Ok tt)
  unfolding add_rows
  both_pass = opened_both (check_rows level s) (sides_row s ∷ room_for (length out) (with_summary s) ∷ []) add_passes.0

  -- it was accepted, and had no side parts
  pub what_is_added_to : (check_answer level s ≡ Ok (header_of s).count) × ((header_of s).sides ≡ 0)
  unfolding check_answer answer sides_row
  what_is_added_to =
      let none = (passed_both (sides_row s) (room_for (length out) (with_summary s) ∷ []) both_pass.1).0 in
      let few = ltb-false 0 (header_of s).sides (not_given HasSideParts (ltb 0 (header_of s).sides) none) in
      (rw both_pass.0, omega (arith, few))

  -- the copy stands at the front of the output, and past it nothing is altered
  pub the_copy_is_left : (size ≡ length (with_summary s)) × (add_out level s out ≡ with_summary s ++ drop size out)
  unfolding add_out after
  the_copy_is_left = (sym add_passes.1, rw (add_passes.0, add_passes.1))

  pub the_copy_fits : size ≤ length out
  unfolding room_for
  the_copy_fits =
      let four = (passed_both (sides_row s) (room_for (length out) (with_summary s) ∷ []) both_pass.1).1 in
      omega (arith, ltb-false (length out) (length (with_summary s)) (not_given (NoRoom (length (with_summary s))) (ltb (length out) (length (with_summary s))) four), add_passes.1)

  the_copy : take size (add_out level s out) ≡ with_summary s
  the_copy = ap (take size) the_copy_is_left.1 ∙ take_at (with_summary s) (drop size out) size add_passes.1

  module _ (bytes : Below 256 s) where
    -- "Adding a summary changes no value that any level shows": check, unpack and probe answer and leave the same, at each level, with 7 where it was 7
    pub the_copy_is_read_as_the_original : ReadAs s (take size (add_out level s out))
    the_copy_is_read_as_the_original =
        subst (ReadAs s) (sym the_copy) (copy_read_as level s both_pass.0 bytes what_is_added_to.1)

    -- of the header only the number of side parts is another: the written minor stays
    pub only_the_number_of_side_parts_is_another : header_of (take size (add_out level s out)) ≡ counted (header_of s) 1
    only_the_number_of_side_parts_is_another = ap header_of the_copy ∙ copy_header level s both_pass.0 bytes what_is_added_to.1

    -- the summary is true, and a test accepts it at each level that accepts the original: it answers what a check does
    pub the_summary_that_is_added_is_true : TrueSummary (take size (add_out level s out))
    the_summary_that_is_added_is_true =
        subst TrueSummary (sym the_copy)
        (true_summary (with_summary s) (copy_true level s both_pass.0 bytes what_is_added_to.1))

    pub a_test_accepts_what_is_added : (L : ℕ) → test_answer L (take size (add_out level s out)) ≡ check_answer L s
    a_test_accepts_what_is_added L =
        ap (test_answer L) the_copy
        ∙ test_of_true L (with_summary s) (copy_true level s both_pass.0 bytes what_is_added_to.1)
        ∙ (copy_read_as level s both_pass.0 bytes what_is_added_to.1).check L

sides_given : (s : List ℕ) (rows : List Row) → 0 < (header_of s).sides → first (sides_row s ∷ rows) ≡ Err HasSideParts
unfolding sides_row first
sides_given s rows some = rw (lt-ltb 0 (header_of s).sides some)

both_off : (s out : List ℕ) → (header_of s).sides ≡ 0 → length (with_summary s) ≤ length out → first (sides_row s ∷ room_for (length out) (with_summary s) ∷ []) ≡ Ok tt
unfolding sides_row room_for first
both_off s out none room = rw (le-ltb 0 (header_of s).sides (omega (arith, none)), le-ltb (length out) (length (with_summary s)) room)

-- and it is given to what check accepts and what has no side parts, where there is room for the copy
pub add_takes : (level : ℕ) (s out : List ℕ) (n : ℕ) → check_answer level s ≡ Ok n → (header_of s).sides ≡ 0 → length (with_summary s) ≤ length out
    → add_answer level s (length out) ≡ Ok (length (with_summary s))
unfolding check_answer add_answer add_rows answer
add_takes level s out n e none room =
    let pass = (done_pass (first (check_rows level s)) (header_of s).count n e).0 in
    rw (opened (check_rows level s) (sides_row s ∷ room_for (length out) (with_summary s) ∷ []) pass ∙ both_off s out none room)

-- 16, in plain words
pub side_parts_are_refused_by_16 : (level : ℕ) (s : List ℕ) (room n : ℕ) → check_answer level s ≡ Ok n → 0 < (header_of s).sides → add_answer level s room ≡ Err HasSideParts
unfolding check_answer add_answer add_rows answer
side_parts_are_refused_by_16 level s room n e some =
    let pass = (done_pass (first (check_rows level s)) (header_of s).count n e).0 in
    rw (opened (check_rows level s) (sides_row s ∷ room_for room (with_summary s) ∷ []) pass ∙ sides_given s (room_for room (with_summary s) ∷ []) some)

-- ---- what a test accepts: exactly the true summaries

pub a_test_accepts_exactly_the_true_summaries : (level : ℕ) (s : List ℕ) (n : ℕ) → test_answer level s ≡ Ok n ↔ (check_answer level s ≡ Ok n) × TrueSummary s
a_test_accepts_exactly_the_true_summaries level s n = (accepted_test level s n, true_test level s n)

-- 17, in plain words: no summary, or a false one
pub all_else_is_refused_by_17 : (level : ℕ) (s : List ℕ) (n : ℕ) → check_answer level s ≡ Ok n → (TrueSummary s → ⊥) → test_answer level s ≡ Err NoTrueSummary
unfolding check_answer
all_else_is_refused_by_17 level s n e lie =
    let pass = (done_pass (first (check_rows level s)) (header_of s).count n e).0 in
    sym (test_false level s pass (go (summary_true s) refl))
  where
    go : (b : Bool) → summary_true s ≡ b → summary_true s ≡ false
    go true e = absurd (lie (true_summary s e))
    go false e = e

-- what a true summary says: "for each chunk: a count of not-a-numbers, the smallest and the largest other value .. all of the restored values. Chunks stand in
-- order; .. with no gaps"
module _ (level : ℕ) (s : List ℕ) (n : ℕ) (done : check_answer level s ≡ Ok n) (t : TrueSummary s) where
  abbrev own : Header
  own = header_of s

  passes : first (check_rows level s) ≡ Ok tt
  unfolding check_answer
  passes = (done_pass (first (check_rows level s)) own.count n done).0

  abbrev accepted : Accepted own s
  accepted = record { level = level; pass = passes; header = refl }

  part_long : length (take (side_length own s t.entry) (drop (side_place own s t.entry) s)) ≡ side_length own s t.entry
  part_long =
      length-take-le (side_length own s t.entry) (drop (side_place own s t.entry) s)
      (rw (length-drop (side_place own s t.entry) s) (omega (arith, side_inside own s (checking level s passes).1.sides t.entry t.is_entry)))

  pub a_true_summary_has_an_entry_for_each_chunk : side_length own s t.entry ≡ own.chunks * (4 + 2 * (own.width / 8))
  unfolding summary entry_length
  a_true_summary_has_an_entry_for_each_chunk = sym part_long ∙ ap length t.bytes ∙ length_summary own s

  pub a_true_summary_says : (j : ℕ) → j < own.chunks
      → Says own.width s (side_place own s t.entry + j * (4 + 2 * (own.width / 8))) (take 1024 (drop (1024 * j) (values s)))
  unfolding summary entry_length
  a_true_summary_says j below =
      let place = side_place own s t.entry in
      let lies = ap (λ (k : ℕ). take k (drop place s)) (sym a_true_summary_has_an_entry_for_each_chunk) ∙ t.bytes in
      let e = entry_says_lem own s accepted j below s (place + j * entry_length own.width) (entry_stands own s s place lies j below) in
      subst (Says own.width s (place + j * entry_length own.width)) (a_chunk_is_a_stretch level s n done j below)
      (record { count_is = e.0; smallest_is = e.1; largest_is = e.2 })

-- ---- what a list names

module _ (W level x : ℕ) (s out : List ℕ) (k : ℕ) (done : list_answer W level x s (length out) ≡ Ok k) where
  list_passes : (first (list_rows W level x s (length out)) ≡ Ok tt) × (length (chunks_from x s) ≡ k)
  unfolding list_answer
  list_passes = done_pass (first (list_rows W level x s (length out))) (length (chunks_from x s)) k done

  -- the numbers fill the output from its start, and past them nothing is altered
  pub the_list_is_left : (k ≡ length (chunks_from x s)) × (list_out W level x s out ≡ chunks_from x s ++ drop k out)
  unfolding list_out after
  the_list_is_left = (sym list_passes.1, rw (list_passes.0, list_passes.1))

  -- the rows, one by one
  rows_pass : (first (check_rows level s) ≡ Ok tt) × ((header_of s).width ≡ W) × (first (summary_row s ∷ room_for (length out) (chunks_from x s) ∷ []) ≡ Ok tt)
  unfolding list_rows check_rows opening_rows width_row
  rows_pass =
      let h = header_of s in
      let last = summary_row s ∷ room_for (length out) (chunks_from x s) ∷ [] in
      let header = header_rows level (length s) h in
      let front = header ++ (width_row W h ∷ content_rows h s) in
      let five = row NoHeader (ltb (length s) 48) in
      let one = row UnknownLevel (not (known_level level)) in
      let a = passed_both one (x_row W x ∷ five ∷ (front ++ last)) list_passes.0 in
      let b = passed_both (x_row W x) (five ∷ (front ++ last)) a.1 in
      let c = passed_both five (front ++ last) b.1 in
      let d = opened_both front last c.1 in
      let e = opened_both header (width_row W h ∷ content_rows h s) d.0 in
      let f = passed_both (width_row W h) (content_rows h s) e.1 in (
        passed one (five ∷ (header ++ content_rows h s)) a.0 ∙ passed five (header ++ content_rows h s) c.0 ∙ opened header (content_rows h s) e.0 ∙ f.1,
        eqb-true h.width W (not-false (eqb h.width W) (not_given OtherWidth (not (eqb h.width W)) f.0)),
        d.1,
      )

  pub the_list_fits : k ≤ length out
  unfolding room_for
  the_list_fits =
      let four = (passed_both (summary_row s) (room_for (length out) (chunks_from x s) ∷ []) rows_pass.2).1 in
      omega (arith, ltb-false (length out) (length (chunks_from x s)) (not_given (NoRoom (length (chunks_from x s))) (ltb (length out) (length (chunks_from x s))) four), list_passes.1)

  pub past_the_list : drop k (list_out W level x s out) ≡ drop k out
  past_the_list = ap (drop k) the_list_is_left.1 ∙ drop_at (chunks_from x s) (drop k out) k (sym the_list_is_left.0)

  -- a summary that lies is never listed from
  pub a_list_is_made_of_a_true_summary : (check_answer level s ≡ Ok (header_of s).count) × TrueSummary s
  unfolding check_answer answer summary_row
  a_list_is_made_of_a_true_summary =
      let given = (passed_both (summary_row s) (room_for (length out) (chunks_from x s) ∷ []) rows_pass.2).0 in
      (rw rows_pass.0, true_summary s (not-false (summary_true s) (not_given NoTrueSummary (not (summary_true s)) given)))

  -- each number greater than the one before: no chunk stands twice, and none out of order
  listed_at : (i : ℕ) → i < k → get_or (list_out W level x s out) i 0 ≡ get_or (chunks_from x s) i 0
  listed_at i l = ap (λ (ns : List ℕ). get_or ns i 0) the_list_is_left.1 ∙ get_or-append (chunks_from x s) (drop k out) 0 i (omega (arith, l, the_list_is_left.0))

  pub the_list_is_in_order : (i : ℕ) → suc i < k → get_or (list_out W level x s out) i 0 < get_or (list_out W level x s out) (suc i) 0
  unfolding chunks_from
  the_list_is_in_order i l =
      rw (listed_at i (omega (arith, l)), listed_at (suc i) l) (rising (holds_in x (header_of s) s) (header_of s).chunks 0 i (omega (arith, l, the_list_is_left.0)))

  -- "the chunks that hold some value at least x as IEEE 754 compares (-0 equals 0), in order and no others"
  module _ (known : known_width W ≡ true) (fits : x < 2 ^ W) where
    compares : (p : ℕ) → p < 2 ^ W → at_least W (fraction_bits W) x p ≡ le (of_bits (format_of W) x) (of_bits (format_of W) p)
    compares p l = at_least_as W known x p fits l

    value_fits : (j i : ℕ) → j < (header_of s).chunks → get_or (chunk_values (header_of s) s j) i 0 < 2 ^ W
    value_fits j i l =
        subst (λ (w : ℕ). get_or (chunk_values (header_of s) s j) i 0 < 2 ^ w) rows_pass.1
        (values_below (header_of s) s (record { level = level; pass = rows_pass.0; header = refl }) j l i)

    holds_as : (j : ℕ) → holds_in x (header_of s) s j ≡ holds W (fraction_bits W) x (chunk_values (header_of s) s j)
    unfolding holds_in
    holds_as j = ap (λ (w : ℕ). holds w (fraction_bits w) x (chunk_values (header_of s) s j)) rows_pass.1

    named_holds : (j : ℕ) → Named (holds_in x (header_of s) s) (header_of s).chunks 0 j → HoldsSome (format_of W) x s j
    named_holds j p =
        let found = (holds_some W (fraction_bits W) (chunk_values (header_of s) s j) x).0 (sym (holds_as j) ∙ p.2) in
        record {
          is_chunk = omega (arith, p.1);
          index = found.0;
          is_value = omega (arith, found.1, length_chunk (header_of s) s j);
          at_least_lem = sym (compares _ (value_fits j found.0 (omega (arith, p.1)))) ∙ found.2;
        }

    holds_named : (j : ℕ) → HoldsSome (format_of W) x s j → Named (holds_in x (header_of s) s) (header_of s).chunks 0 j
    holds_named j p = (
      omega arith,
      omega (arith, p.is_chunk),
      holds_as j
          ∙ (holds_some W (fraction_bits W) (chunk_values (header_of s) s j) x).1
          (p.index, omega (arith, p.is_value, length_chunk (header_of s) s j), compares _ (value_fits j p.index p.is_chunk) ∙ p.at_least_lem),
    )

    pub the_list_names_exactly : (j : ℕ) → ((i : ℕ) × (i < k) × (get_or (list_out W level x s out) i 0 ≡ j)) ↔ HoldsSome (format_of W) x s j
    unfolding chunks_from
    the_list_names_exactly j =
        let f = holds_in x (header_of s) s in
        let n = (header_of s).chunks in (
          λ (i, l, e). named_holds j (subst (Named f n 0) (sym (listed_at i l) ∙ e) (named f n 0 i (omega (arith, l, the_list_is_left.0)))),
          λ p. let r = stands f n 0 j (holds_named j p) in
              let l : r.0 < k = omega (arith, r.1, the_list_is_left.0) in
              (r.0, l, listed_at r.0 l ∙ r.2),
        )

-- and where a test of a stream of the width accepts, and x is a number, it is given in room for what it names, and else refused by 4 with their number
pub a_list_is_given : (W level x : ℕ) (s : List ℕ) (n : ℕ) → test_answer level s ≡ Ok n → (header_of s).width ≡ W → not_a_number W (fraction_bits W) x ≡ false
    → (k : ℕ) × ((out : List ℕ) → (k ≤ length out → list_answer W level x s (length out) ≡ Ok k) × (length out < k → list_answer W level x s (length out) ≡ Err (NoRoom k)))
unfolding test_answer test_rows summary_row
a_list_is_given W level x s n e width number =
    let h = header_of s in
    let done = done_pass (first (test_rows level s)) h.count n e in
    let both = opened_both (check_rows level s) (summary_row s ∷ []) done.0 in
    let true-one = not-false (summary_true s) (not_given NoTrueSummary (not (summary_true s)) both.1) in
    let o = (checking level s both.0).0 in
    let front : ListOpened W level x s = record { known = o.known; number = number; opening = opening_passes level s o; width = width } in
    let k = length (chunks_from x s) in (
      k,
      λ out. (
        λ fits. sym (check_passes W level x s out front both.0 (Ok k) _ (last_done x s out true-one k refl fits _ refl)).0,
        λ short. sym (check_passes W level x s out front both.0 (Err (NoRoom k)) out (last_short x s out true-one k refl short)).0,
      ),
    )

-- 2, in plain words, whatever the bytes are
pub a_not_a_number_is_refused_by_2 : (W level x : ℕ) (s out : List ℕ) → known_level level ≡ true → not_a_number W (fraction_bits W) x ≡ true → list_answer W level x s (length out) ≡ Err NotAllowed
a_not_a_number_is_refused_by_2 W level x s out known e = sym (x_no_number W level x s out known e).0

-- "a chunk of not-a-numbers only is never listed"
pub a_chunk_of_not_a_numbers_is_never_named : (f : Format) (x : ℕ) (s : List ℕ) (j : ℕ)
    → ((i : ℕ) → i < count_of (header_of s) j → of_bits f (get_or (chunk_values (header_of s) s j) i 0) ≡ nan) → HoldsSome f x s j → ⊥
a_chunk_of_not_a_numbers_is_never_named f x s j all p = false≢true (sym (le_nan (of_bits f x)) ∙ sym (ap (le (of_bits f x)) (all p.index p.is_value)) ∙ p.at_least_lem)

-- document 02, R-4: what must be understood is not skipped here either
pub a_high_id_is_not_skipped : (level : ℕ) (s : List ℕ) (i : ℕ) → i < (header_of s).sides → 2 ^ 31 ≤ side_id (header_of s) s i
    → ((out : List ℕ) (n : ℕ) → add_answer level s (length out) ≡ Ok n → ⊥) × ((n : ℕ) → test_answer level s ≡ Ok n → ⊥)
    × ((W x : ℕ) (out : List ℕ) (k : ℕ) → list_answer W level x s (length out) ≡ Ok k → ⊥)
a_high_id_is_not_skipped level s i l high =
    let refused = (a_high_id_is_never_skipped level s i l high).check in
    let never : (n : ℕ) → check_answer level s ≡ Ok n → ⊥ = λ n e. not_both n refused.0 (sym e ∙ refused.1) in (
      λ out n e. never (header_of s).count (what_is_added_to level s out n e).0,
      λ n e. never n (accepted_test level s n e).0,
      λ W x out k e. never (header_of s).count (a_list_is_made_of_a_true_summary W level x s out k e).0,
    )

-- ---- 10 is the check's own, with its detail: so it names the first bad chunk and its first bad group (`check_names_the_place` of `stream`)

lacks : (detail : ℕ) (rows : List Row) → without 10 (numbers_of rows) ≡ true → first rows ≡ Err (BrokenChunk detail) → ⊥
unfolding first
lacks detail rows none e =
    let never : Ok tt ≡ Err (BrokenChunk detail) = (others (BrokenChunk detail) rows [] none (ap first (append-nil rows) ∙ e)).1 in
    let z : ◌≡◌ {A = ℕ} 0 1 = cc in omega arith

in_front : (detail : ℕ) (before rows : List Row) → without 10 (numbers_of rows) ≡ true → first (before ++ rows) ≡ Err (BrokenChunk detail) → first before ≡ Err (BrokenChunk detail)
in_front detail before rows none e = go (first before) refl
  where
    go : (a : Result ⊤ Refusal) → first before ≡ a → first before ≡ Err (BrokenChunk detail)
    go (Ok u) p = absurd (lacks detail rows none (sym (opened before rows p) ∙ e))
    go (Err x) p = p ∙ sym (shut x before rows p) ∙ e

pub add_names_the_place : (level : ℕ) (s : List ℕ) (room detail : ℕ) → add_answer level s room ≡ Err (BrokenChunk detail) → check_answer level s ≡ Err (BrokenChunk detail)
unfolding add_answer add_rows sides_row room_for check_answer answer numbers_of without
add_names_the_place level s room detail e =
    let stop = refused_stop (first (add_rows level s room)) (length (with_summary s)) (BrokenChunk detail) e in
    rw (in_front detail (check_rows level s) (sides_row s ∷ room_for room (with_summary s) ∷ []) refl stop)

pub test_names_the_place : (level : ℕ) (s : List ℕ) (detail : ℕ) → test_answer level s ≡ Err (BrokenChunk detail) → check_answer level s ≡ Err (BrokenChunk detail)
unfolding test_answer test_rows summary_row check_answer answer numbers_of without
test_names_the_place level s detail e =
    let stop = refused_stop (first (test_rows level s)) (header_of s).count (BrokenChunk detail) e in
    rw (in_front detail (check_rows level s) (summary_row s ∷ []) refl stop)

pub list_names_the_place : (W level x : ℕ) (s : List ℕ) (room detail : ℕ) → list_answer W level x s room ≡ Err (BrokenChunk detail) → check_answer level s ≡ Err (BrokenChunk detail)
unfolding list_answer list_rows x_row width_row header_rows summary_row room_for check_answer check_rows opening_rows answer numbers_of without
list_names_the_place W level x s room detail e =
    let h = header_of s in
    let one = row UnknownLevel (not (known_level level)) in
    let five = row NoHeader (ltb (length s) 48) in
    let header = header_rows level (length s) h in
    let content = content_rows h s in
    let last = summary_row s ∷ room_for room (chunks_from x s) ∷ [] in
    let front = one ∷ x_row W x ∷ five ∷ (header ++ (width_row W h ∷ [])) in
    let stop = refused_stop (first (list_rows W level x s room)) (length (chunks_from x s)) (BrokenChunk detail) e in
    let whole = in_front detail (one ∷ x_row W x ∷ five ∷ (header ++ (width_row W h ∷ content))) last refl stop in
    let both = others (BrokenChunk detail) front content refl whole in
    let a = passed_both one (x_row W x ∷ five ∷ (header ++ (width_row W h ∷ []))) both.0 in
    let b = passed_both (x_row W x) (five ∷ (header ++ (width_row W h ∷ []))) a.1 in
    let c = passed_both five (header ++ (width_row W h ∷ [])) b.1 in
    let d = (opened_both header (width_row W h ∷ []) c.1).0 in
    rw (passed one (five ∷ (header ++ content)) a.0 ∙ passed five (header ++ content) c.0 ∙ opened header content d ∙ both.1)
