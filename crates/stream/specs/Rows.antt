-- Document 01, "Refusal numbers" and "Order". A row is a line of that table: the refusal, which carries its detail, and whether it is given. An operation
-- is a list of rows, in the order in which documents 01 and 02 list its numbers, and the first row that is given decides.
-- A later row may speak of bytes that an earlier one refused: every definition is total, and then it does not count.
use Rattle.std.specs.Prelude.{◌≡◌, ℕ, zero, suc, ⊤, Bool, true, ◌&&◌, not, cond, List, [], ◌∷◌, ◌++◌, Result, Ok, Err}
use Rattle.stream.specs.declared.answers.Refusal.{Refusal}
use Rattle.stream.specs.declared.answers.Refusal.TheVariants.{UnknownLevel, NotAllowed, TooManyValues, NoRoom, NoHeader, OtherMajor, NeedsMinor, BrokenHeader, BrokenTable, BrokenChunk, NoSuchIndex, OtherWidth, MustBeUnderstood, HasSideParts, NoTrueSummary}

-- the number of a refusal in the table (16 and 17: document 02, R-5; 15: R-4)
abbrev pub number_of : Refusal → ℕ
number_of UnknownLevel = 1
number_of NotAllowed = 2
number_of TooManyValues = 3
number_of (NoRoom needed) = 4
number_of NoHeader = 5
number_of OtherMajor = 6
number_of (NeedsMinor needed) = 7
number_of BrokenHeader = 8
number_of BrokenTable = 9
number_of (BrokenChunk place) = 10
number_of NoSuchIndex = 11
number_of OtherWidth = 14
number_of (MustBeUnderstood id) = 15
number_of HasSideParts = 16
number_of NoTrueSummary = 17

-- its detail: "A refusal added later has detail 0 unless its request states another"
abbrev pub detail_of : Refusal → ℕ
detail_of UnknownLevel = 0
detail_of NotAllowed = 0
detail_of TooManyValues = 0
detail_of (NoRoom needed) = needed
detail_of NoHeader = 0
detail_of OtherMajor = 0
detail_of (NeedsMinor needed) = needed
detail_of BrokenHeader = 0
detail_of BrokenTable = 0
detail_of (BrokenChunk place) = place
detail_of NoSuchIndex = 0
detail_of OtherWidth = 0
detail_of (MustBeUnderstood id) = id
detail_of HasSideParts = 0
detail_of NoTrueSummary = 0

pub data Row : Type 0 where
  row : Refusal → Bool → Row

unfoldable pub first : List Row → Result ⊤ Refusal
first [] = Ok tt
first (row refusal given ∷ rows) = cond given (Err refusal) (first rows)

-- no row of these is given
unfoldable pub none_given : List Row → Bool
none_given [] = true
none_given (row refusal given ∷ rows) = not given && none_given rows

-- "one refusal, the first in the stated order, with its stated detail": this row is given, and none before it. That an operation refuses
-- exactly so is a theorem for each (`refused_check` and its like).
pub record Decides (rows : List Row) (refusal : Refusal) : Type 0 where
  pub before : List Row
  pub later : List Row
  pub listed : rows ≡ before ++ row refusal true ∷ later
  pub earlier : none_given before ≡ true

-- the numbers of rows, in their order
unfoldable pub numbers_of : List Row → List ℕ
numbers_of [] = []
numbers_of (row refusal given ∷ rows) = number_of refusal ∷ numbers_of rows

-- the rows f i, f (i + 1), .., k of them
unfoldable pub rows_from : (ℕ → Row) → ℕ → ℕ → List Row
rows_from f zero i = []
rows_from f (suc k) i = f i ∷ rows_from f k (suc i)

-- what is answered: x where no row is given, else the refusal
unfoldable pub answer : {A : Type 0} → Result ⊤ Refusal → A → Result A Refusal
answer (Ok u) x = Ok x
answer (Err refusal) x = Err refusal

-- what a lent output holds afterwards: on a refusal, what it held
unfoldable pub after : Result ⊤ Refusal → List ℕ → List ℕ → List ℕ
after (Ok u) new old = new
after (Err refusal) new old = old

-- document 01's number of an answer, and what stands beside it: "Success is 0 with the bytes written (pack, length), n (unpack, check)"
unfoldable pub answer_number : {A : Type 0} → Result A Refusal → ℕ
answer_number (Ok x) = 0
answer_number (Err refusal) = number_of refusal

unfoldable pub answer_detail : Result ℕ Refusal → ℕ
answer_detail (Ok n) = n
answer_detail (Err refusal) = detail_of refusal
