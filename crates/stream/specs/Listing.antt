-- Document 01, "The listing program": what it prints, as ASCII, for the bytes of its standard input.
use Rattle.std.specs.Prelude.{◌≡◌, ℕ, zero, suc, ◌+◌, ◌-◌, ◌/◌, ◌%◌, ◌≤◌, cond, List, [], ◌∷◌, ◌++◌, ltb, ℤ, pos, negsuc, length, take, drop, Result, Ok, Err}
use Rattle.stream.specs.Setting.{highest_level, group_size}
use Rattle.stream.specs.Chunk.{groups_in}
use Rattle.stream.specs.Header.{header_of, k_of, setting_in}
use Rattle.stream.specs.Tables.{start_at}
use Rattle.stream.specs.Stream.{joined, count_of}
use Rattle.stream.specs.Rows.{number_of, detail_of}
use Rattle.stream.specs.Operations.{check_answer}
use Rattle.stream.specs.declared.answers.Refusal.{Refusal}
use Rattle.stream.specs.declared.header.Header.{Header}

-- "reads standard input, at most 65,536 bytes"
unfoldable pub most_input : ℕ
most_input = 65536

-- ---- numbers

-- the digit d, of which 0 is 48
unfoldable pub digit : ℕ → ℕ
digit d = 48 + d

-- n in decimal, highest digit first: the digits of n / 10, and then the last one. A digit takes a turn, and n has at most n + 1 digits.
unfoldable pub decimal_in : ℕ → ℕ → List ℕ
decimal_in zero n = []
decimal_in (suc turns) n = cond (ltb n 10) (digit n ∷ []) (decimal_in turns (n / 10) ++ (digit (n % 10) ∷ []))

unfoldable pub decimal : ℕ → List ℕ
decimal n = decimal_in (suc n) n

-- `-`
unfoldable pub minus : List ℕ
minus = 45 ∷ []

-- "with a minus sign when negative"; negsuc n is -(n + 1)
unfoldable pub signed_decimal : ℤ → List ℕ
signed_decimal (pos n) = decimal n
signed_decimal (negsuc n) = minus ++ decimal (suc n)

-- ---- words

-- the end of each line
unfoldable pub newline : List ℕ
newline = 10 ∷ []

-- `.`
unfoldable pub point : List ℕ
point = 46 ∷ []

-- `format `
unfoldable pub format_word : List ℕ
format_word = 102 ∷ 111 ∷ 114 ∷ 109 ∷ 97 ∷ 116 ∷ 32 ∷ []

-- ` needs `
unfoldable pub needs_word : List ℕ
needs_word = 32 ∷ 110 ∷ 101 ∷ 101 ∷ 100 ∷ 115 ∷ 32 ∷ []

-- `width `
unfoldable pub width_word : List ℕ
width_word = 119 ∷ 105 ∷ 100 ∷ 116 ∷ 104 ∷ 32 ∷ []

-- ` mode `
unfoldable pub mode_word : List ℕ
mode_word = 32 ∷ 109 ∷ 111 ∷ 100 ∷ 101 ∷ 32 ∷ []

-- ` bound `
unfoldable pub bound_word : List ℕ
bound_word = 32 ∷ 98 ∷ 111 ∷ 117 ∷ 110 ∷ 100 ∷ 32 ∷ []

-- `values `
unfoldable pub values_word : List ℕ
values_word = 118 ∷ 97 ∷ 108 ∷ 117 ∷ 101 ∷ 115 ∷ 32 ∷ []

-- ` chunks `
unfoldable pub chunks_word : List ℕ
chunks_word = 32 ∷ 99 ∷ 104 ∷ 117 ∷ 110 ∷ 107 ∷ 115 ∷ 32 ∷ []

-- ` sides `
unfoldable pub sides_word : List ℕ
sides_word = 32 ∷ 115 ∷ 105 ∷ 100 ∷ 101 ∷ 115 ∷ 32 ∷ []

-- `chunk `
unfoldable pub chunk_word : List ℕ
chunk_word = 99 ∷ 104 ∷ 117 ∷ 110 ∷ 107 ∷ 32 ∷ []

-- ` at `
unfoldable pub at_word : List ℕ
at_word = 32 ∷ 97 ∷ 116 ∷ 32 ∷ []

-- ` bytes `
unfoldable pub bytes_word : List ℕ
bytes_word = 32 ∷ 98 ∷ 121 ∷ 116 ∷ 101 ∷ 115 ∷ 32 ∷ []

-- ` groups `
unfoldable pub groups_word : List ℕ
groups_word = 32 ∷ 103 ∷ 114 ∷ 111 ∷ 117 ∷ 112 ∷ 115 ∷ 32 ∷ []

-- `refused `
unfoldable pub refused_word : List ℕ
refused_word = 114 ∷ 101 ∷ 102 ∷ 117 ∷ 115 ∷ 101 ∷ 100 ∷ 32 ∷ []

-- ` detail `
unfoldable pub detail_word : List ℕ
detail_word = 32 ∷ 100 ∷ 101 ∷ 116 ∷ 97 ∷ 105 ∷ 108 ∷ 32 ∷ []

-- `too long`
unfoldable pub too_long : List ℕ
too_long = 116 ∷ 111 ∷ 111 ∷ 32 ∷ 108 ∷ 111 ∷ 110 ∷ 103 ∷ []

-- a word and the number that it names
unfoldable pub labelled : List ℕ → ℕ → List ℕ
labelled word n = word ++ decimal n

-- ---- lines

-- `format 1.8 needs 1.8`: written and needed minor, each behind the major
unfoldable pub format_line : Header → List ℕ
format_line h =
    labelled format_word h.major ++ labelled point h.written
    ++ labelled needs_word h.major ++ labelled point h.needed ++ newline

-- `width 32 mode 0 bound 0`: "after `bound` it prints k". Document 02, R-6: "In the header and the listing 256 is added to the mode number for 128".
unfoldable pub setting_line : Header → List ℕ
setting_line h = labelled width_word h.width ++ labelled mode_word h.mode ++ bound_word ++ signed_decimal (k_of h) ++ newline

-- `values 3 chunks 1 sides 0`
unfoldable pub count_line : Header → List ℕ
count_line h = labelled values_word h.count ++ labelled chunks_word h.chunks ++ labelled sides_word h.sides ++ newline

-- `chunk 0 at 0 bytes 3 groups 1`: the chunk j, its start counted from the data, and "A chunk runs to the next start or the end of data"
unfoldable pub chunk_line : Header → List ℕ → ℕ → List ℕ
chunk_line h s j =
    labelled chunk_word j ++ labelled at_word (start_at h s j)
    ++ labelled bytes_word (start_at h s (j + 1) - start_at h s j)
    ++ labelled groups_word (groups_in (group_size (setting_in h)) (count_of h j)) ++ newline

-- the lines of an accepted stream, the last of them one for each chunk
unfoldable pub stream_lines : Header → List ℕ → List ℕ
stream_lines h s = format_line h ++ setting_line h ++ count_line h ++ joined (chunk_line h s) h.chunks

-- "A refusal prints `refused 7 detail 11` and no more."
unfoldable pub refused_line : ℕ → ℕ → List ℕ
refused_line number detail = labelled refused_word number ++ labelled detail_word detail ++ newline

-- what a check of the bytes s answers decides
unfoldable pub answer_lines : Result ℕ Refusal → List ℕ → List ℕ
answer_lines (Ok n) s = stream_lines (header_of s) s
answer_lines (Err refusal) s = refused_line (number_of refusal) (detail_of refusal)

-- the whole text: "at most 65,536 bytes (else it prints `too long`)", and "checks at the highest level"
unfoldable pub listing : List ℕ → List ℕ
listing s = cond (ltb most_input (length s)) (too_long ++ newline) (answer_lines (check_answer highest_level s) s)

-- ---- What the private functions say of a piece that they write: it stands in `new` from the place `at` on, `next` is the place behind it,
-- and nothing else of `out` is altered. No promise of a public function names it.
pub record Appends (piece : List ℕ) (at next : ℕ) (out new : List ℕ) : Type 0 where
  pub next_is : next ≡ at + length piece
  pub room : next ≤ length out
  pub is : new ≡ take at out ++ piece ++ drop next out
