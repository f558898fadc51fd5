-- Document 02, R-5: the summary of a stream, the stream that has it beside the data, when it is true, and the chunks that a list names.
use Rattle.std.specs.Prelude.{ℕ, zero, suc, Bool, true, false, ◌&&◌, cond, List, [], ◌∷◌, eqb}
use Rattle.stream.specs.Setting.{fraction_bits}
use Rattle.stream.specs.Header.{header_of}
use Rattle.stream.specs.Tables.{ids_in}
use Rattle.stream.specs.Stream.{joined, chunk_values}
use Rattle.stream.specs.Writing.{add_sides}
use Rattle.stream.specs.Access.{has_id, side_bytes}
use Rattle.stream.specs.declared.header.Header.{Header}
use Rattle.summary.specs.Entry.{entry_bytes, holds}

-- "Side part 1"
unfoldable pub summary_id : ℕ
summary_id = 1

-- what it holds of the chunk j: "all of the restored values"
unfoldable pub chunk_entry : Header → List ℕ → ℕ → List ℕ
chunk_entry h s j = entry_bytes h.width (fraction_bits h.width) (chunk_values h s j)

-- "Chunks stand in order .. with no gaps"
unfoldable pub summary_in : Header → List ℕ → List ℕ
summary_in h s = joined (chunk_entry h s) h.chunks

unfoldable pub summary : List ℕ → List ℕ
summary s = summary_in (header_of s) s

-- "copies a stream without side parts into another buffer and adds it": of the bytes that were there, only the number of side parts is another
unfoldable pub with_summary : List ℕ → List ℕ
with_summary s = add_sides s (record { id = summary_id; bytes = summary s } ∷ [])

-- ---- "a false one"

unfoldable pub same : List ℕ → List ℕ → Bool
same [] [] = true
same [] (y ∷ ys) = false
same (x ∷ xs) [] = false
same (x ∷ xs) (y ∷ ys) = eqb x y && same xs ys

-- There is a side part 1, and it is the summary, byte for byte: "any other length is false". Other side parts do not count.
unfoldable pub summary_true : List ℕ → Bool
summary_true s = has_id summary_id (ids_in (header_of s) s) && same (side_bytes (header_of s) s summary_id) (summary s)

-- ---- the list

-- of the k numbers from i on, those that f holds at, "in order and no others"
unfoldable pub numbers_from : (ℕ → Bool) → ℕ → ℕ → List ℕ
numbers_from f zero i = []
numbers_from f (suc k) i = cond (f i) (i ∷ numbers_from f k (suc i)) (numbers_from f k (suc i))

-- "the chunks that hold some value at least x"
unfoldable pub holds_in : ℕ → Header → List ℕ → ℕ → Bool
holds_in x h s j = holds h.width (fraction_bits h.width) x (chunk_values h s j)

unfoldable pub chunks_from : ℕ → List ℕ → List ℕ
chunks_from x s = numbers_from (holds_in x (header_of s) s) (header_of s).chunks 0
