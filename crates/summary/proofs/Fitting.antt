-- What an operation answers fits, for an export to hand on whole: a refusal's number is not 0, and it and its detail have 32 bits, as has what success says. Of
-- the bytes only what a caller can lend is asked.
use mathlib.Core.Path.{◌≡◌, refl}
use mathlib.Core.Bool.{false, not}
use mathlib.Core.List.{List, [], ◌∷◌, ◌++◌}
use Prim.Native.Nat.{ℕ, ◌^◌, ◌≤◌, ◌<◌}
use native.Mathlib.Omega.{arith}
use borrow.Author.Tests.{ltb-false}
use lib.Dec.{ltb, lit<}
use lib.ListN.{length}
use Rattle.blocks.specs.Bytes.{Below}
use Rattle.stream.specs.Setting.{known_level}
use Rattle.stream.specs.Header.{header_of}
use Rattle.stream.specs.Rows.{Row, row, first}
use Rattle.stream.specs.Operations.{opening_rows, header_rows, content_rows, width_row, check_rows}
use Rattle.std.specs.Prelude.{Ok}
use Rattle.stream.specs.declared.answers.Refusal.TheVariants.{UnknownLevel, NotAllowed, NoRoom, NoHeader, OtherMajor, NeedsMinor, BrokenHeader, OtherWidth, HasSideParts, NoTrueSummary}
use Rattle.stream.proofs.Fitting.{Fits}
use Rattle.stream.proofs.Law.Header.Numbers.{word_small}
use Rattle.stream.proofs.Law.Header.Layout.{laid_out}
use Rattle.stream.proofs.Law.Rows.Passed.{opening}
use Rattle.stream.proofs.Law.Rows.First.{passed_both, opened_both, not_given}
use Rattle.stream.proofs.Law.Rows.Small.{Small, no_rows, row_small, plain, append_small, answer_small, count_small, check_small, content_small}
use Rattle.summary.specs.Private.{Accepted}
use Rattle.summary.specs.Summary.{with_summary, holds_in, chunks_from}
use Rattle.summary.specs.Operations.{sides_row, summary_row, room_for, x_row, add_rows, add_answer, test_rows, test_answer, list_rows, list_answer}
use Rattle.summary.proofs.Law.Stream.{long_enough}
use Rattle.summary.proofs.Law.Testing.{summary_small}
use Rattle.summary.proofs.Law.Short.{accepted_short}
use Rattle.summary.proofs.Law.Copied.{length_copy}
use Rattle.summary.proofs.Law.Named.{names_most}

module _ (level : ℕ) (s : List ℕ) (bytes : Below 256 s) where
  -- the copy of an accepted stream without side parts is short
  copy_short : first (check_rows level s) ≡ Ok tt → ltb 0 (header_of s).sides ≡ false → length (with_summary s) < 2 ^ 32
  copy_short pass none =
      let a : Accepted (header_of s) s = record { level = level; pass = pass; header = refl } in
      let few = ltb-false 0 (header_of s).sides none in
      omega (arith, length_copy s (long_enough (header_of s) s a), accepted_short level s pass bytes (let z : (header_of s).sides ≡ 0 = omega (arith, few) in z), summary_small (header_of s) s a)

  pub add_fits : (room : ℕ) → Fits (add_answer level s room)
  unfolding add_answer add_rows sides_row room_for
  add_fits room =
      answer_small (add_rows level s room) (length (with_summary s))
      (append_small (check_rows level s) (sides_row s ∷ room_for room (with_summary s) ∷ []) (check_small level s bytes)
      (λ pass. row_small HasSideParts _ _ (λ _. lit< tt) (λ none. row_small (NoRoom _) _ [] (λ _. copy_short pass none) (λ _. no_rows))))
      (λ pass.
      let both = opened_both (check_rows level s) (sides_row s ∷ room_for room (with_summary s) ∷ []) pass in
      copy_short both.0 (not_given HasSideParts (ltb 0 (header_of s).sides) (passed_both (sides_row s) (room_for room (with_summary s) ∷ []) both.1).0))

  pub test_fits : Fits (test_answer level s)
  unfolding test_answer test_rows summary_row
  test_fits =
      answer_small (test_rows level s) (header_of s).count
      (append_small (check_rows level s) (summary_row s ∷ []) (check_small level s bytes) (λ _. plain NoTrueSummary _ [] refl no_rows))
      (λ _. count_small level s bytes)

  module _ (W x : ℕ) where
    -- a list names chunks, of which an accepted header has 1,024 at most
    list_short : (header_of s).chunks ≤ 1024 → length (chunks_from x s) < 2 ^ 32
    unfolding chunks_from
    list_short few = omega (arith, names_most (holds_in x (header_of s) s) (header_of s).chunks 0, few)

    chunks_of : first (opening_rows level s) ≡ Ok tt → (header_of s).chunks ≤ 1024
    chunks_of pass = let l = laid_out (length s) (header_of s) (opening level s pass).layout in omega (arith, l.few, l.chunks)

    -- 6 7 8, of which 7 has the needed minor, four bytes of the header
    header_small : (rows : List Row) → (first (header_rows level (length s) (header_of s)) ≡ Ok tt → Small (2 ^ 32) rows) → Small (2 ^ 32) (header_rows level (length s) (header_of s) ++ rows)
    unfolding header_rows header_of
    header_small rows behind =
        append_small (header_rows level (length s) (header_of s)) rows
        (plain OtherMajor _ _ refl (row_small (NeedsMinor _) _ _ (λ _. word_small s 8 bytes) (λ _. plain BrokenHeader _ _ refl no_rows)))
        behind

    -- the opening passes where its rows do, one by one
    opening_of : not (known_level level) ≡ false → ltb (length s) 48 ≡ false → first (header_rows level (length s) (header_of s)) ≡ Ok tt → first (opening_rows level s) ≡ Ok tt
    unfolding opening_rows first
    opening_of one five header = rw (one, five) header

    abbrev header : List Row
    header = header_rows level (length s) (header_of s)

    abbrev middle : List Row
    middle = width_row W (header_of s) ∷ content_rows (header_of s) s

    abbrev last : ℕ → List Row
    last room = summary_row s ∷ room_for room (chunks_from x s) ∷ []

    rows_small : (room : ℕ) → Small (2 ^ 32) (list_rows W level x s room)
    unfolding list_rows x_row width_row summary_row room_for
    rows_small room =
        row_small UnknownLevel _ _ (λ _. lit< tt)
        (λ one. plain NotAllowed _ _ refl
        (row_small NoHeader _ _ (λ _. lit< tt)
        (λ five. append_small (header ++ middle) (last room)
        (header_small middle (λ pass. plain OtherWidth _ _ refl (content_small level s bytes (opening_of one five pass))))
        (λ pass.
        plain NoTrueSummary _ _ refl
        (row_small (NoRoom _) _ [] (λ _. list_short (chunks_of (opening_of one five (opened_both header middle pass).0))) (λ _. no_rows))))))

    pub list_fits : (room : ℕ) → Fits (list_answer W level x s room)
    unfolding list_answer list_rows
    list_fits room =
        answer_small (list_rows W level x s room) (length (chunks_from x s)) (rows_small room)
        (λ pass.
        let a = passed_both (row UnknownLevel (not (known_level level))) (x_row W x ∷ row NoHeader (ltb (length s) 48) ∷ (header ++ middle ++ last room)) pass in
        let b = passed_both (x_row W x) (row NoHeader (ltb (length s) 48) ∷ (header ++ middle ++ last room)) a.1 in
        let c = passed_both (row NoHeader (ltb (length s) 48)) (header ++ middle ++ last room) b.1 in
        let d = opened_both header middle (opened_both (header ++ middle) (last room) c.1).0 in
        list_short (chunks_of (opening_of (not_given UnknownLevel (not (known_level level)) a.0) (not_given NoHeader (ltb (length s) 48) c.0) d.0)))
