-- Document 02, R-5: the rows of each operation in its stated order, its answer, and what its lent output holds afterwards. These are the promises.
use Rattle.std.specs.Prelude.{ℕ, not, List, [], ◌∷◌, ◌++◌, ltb, length, drop, Result}
use Rattle.stream.specs.Setting.{known_level, fraction_bits}
use Rattle.stream.specs.Rows.{Row, row, first, answer, after}
use Rattle.stream.specs.Header.{header_of}
use Rattle.stream.specs.Operations.{header_rows, content_rows, width_row, check_rows}
use Rattle.stream.specs.declared.answers.Refusal.{Refusal}
use Rattle.stream.specs.declared.answers.Refusal.TheVariants.{UnknownLevel, NotAllowed, NoRoom, NoHeader, HasSideParts, NoTrueSummary}
use Rattle.summary.specs.Order.{not_a_number}
use Rattle.summary.specs.Summary.{with_summary, summary_true, chunks_from}

-- ---- rows that these operations have behind the check's

-- "16, the stream already has side parts"
unfoldable pub sides_row : List ℕ → Row
sides_row s = row HasSideParts (ltb 0 (header_of s).sides)

-- "17, no summary or a false one"
unfoldable pub summary_row : List ℕ → Row
summary_row s = row NoTrueSummary (not (summary_true s))

-- 4: room for so many elements, of which this many are needed
unfoldable pub room_for : ℕ → List ℕ → Row
room_for room new = row (NoRoom (length new)) (ltb room (length new))

-- ---- Add: 1 5 6 7 8 9 8 15 10 16 4, into room for so many bytes. It answers the bytes.

unfoldable pub add_rows : ℕ → List ℕ → ℕ → List Row
add_rows level s room = check_rows level s ++ (sides_row s ∷ room_for room (with_summary s) ∷ [])

unfoldable pub add_answer : ℕ → List ℕ → ℕ → Result ℕ Refusal
add_answer level s room = answer (first (add_rows level s room)) (length (with_summary s))

unfoldable pub add_out : ℕ → List ℕ → List ℕ → List ℕ
add_out level s out =
    after (first (add_rows level s (length out))) (with_summary s ++ drop (length (with_summary s)) out) out

-- ---- Test: 1 5 6 7 8 9 8 15 10 17. It answers n.

unfoldable pub test_rows : ℕ → List ℕ → List Row
test_rows level s = check_rows level s ++ (summary_row s ∷ [])

unfoldable pub test_answer : ℕ → List ℕ → Result ℕ Refusal
test_answer level s = answer (first (test_rows level s)) (header_of s).count

-- ---- List: 1 2 5 6 7 8 14 9 8 15 10 17 4, of a stream of width W, into room for so many chunk numbers. It answers how many there are.

-- "an x that is a not-a-number is 2, after 1 and before 5"
unfoldable pub x_row : ℕ → ℕ → Row
x_row W x = row NotAllowed (not_a_number W (fraction_bits W) x)

unfoldable pub list_rows : ℕ → ℕ → ℕ → List ℕ → ℕ → List Row
list_rows W level x s room =
    row UnknownLevel (not (known_level level))
    ∷ x_row W x
    ∷ row NoHeader (ltb (length s) 48)
    ∷ (header_rows level (length s) (header_of s)
    ++ (width_row W (header_of s) ∷ content_rows (header_of s) s)
    ++ (summary_row s ∷ room_for room (chunks_from x s) ∷ []))

unfoldable pub list_answer : ℕ → ℕ → ℕ → List ℕ → ℕ → Result ℕ Refusal
list_answer W level x s room = answer (first (list_rows W level x s room)) (length (chunks_from x s))

-- "whose numbers fill the lent output from its start"
unfoldable pub list_out : ℕ → ℕ → ℕ → List ℕ → List ℕ → List ℕ
list_out W level x s out =
    after (first (list_rows W level x s (length out))) (chunks_from x s ++ drop (length (chunks_from x s)) out) out
