-- Document 01, "The stream": the chunks of a stream and its values, for a header and the bytes that it stands in.
use Rattle.std.specs.Prelude.{ℕ, zero, suc, ◌+◌, ◌-◌, ◌*◌, ◌/◌, ◌%◌, min, List, [], ◌++◌, take, drop, get_or}
use Rattle.stream.specs.Setting.{group_size, limit_of, patterns_of}
use Rattle.stream.specs.Chunk.{Verdict, chunk_answer, chunk_codes}
use Rattle.stream.specs.Header.{header_of, setting_in}
use Rattle.stream.specs.Tables.{start_at}
use Rattle.stream.specs.declared.header.Header.{Header}

-- the first k of the lists f 0, f 1, .., one after the other
unfoldable pub joined : (ℕ → List ℕ) → ℕ → List ℕ
joined f zero = []
joined f (suc k) = joined f k ++ f k

-- A chunk "holds 1,024 values, the last one the remainder".
unfoldable pub count_of : Header → ℕ → ℕ
count_of h j = min 1024 (h.count - 1024 * j)

-- "A chunk runs to the next start or the end of data": its bytes
unfoldable pub chunk_of : Header → List ℕ → ℕ → List ℕ
chunk_of h s j = take (start_at h s (j + 1) - start_at h s j) (drop (h.start + start_at h s j) s)

-- whether the chunk j keeps the rules of refusal 10, or its first bad group
unfoldable pub chunk_state : Header → List ℕ → ℕ → Verdict
chunk_state h s j =
    chunk_answer h.width (limit_of (setting_in h)) (group_size (setting_in h)) (count_of h j) (chunk_of h s j)

-- the values of the chunk j, as patterns. It is read from its own bytes alone.
unfoldable pub chunk_values : Header → List ℕ → ℕ → List ℕ
chunk_values h s j = patterns_of (setting_in h) (chunk_codes (group_size (setting_in h)) (count_of h j) (chunk_of h s j))

-- the values of a stream
unfoldable pub values_in : Header → List ℕ → List ℕ
values_in h s = joined (chunk_values h s) h.chunks

unfoldable pub values : List ℕ → List ℕ
values s = values_in (header_of s) s

-- the value at an index, read from its own chunk
unfoldable pub value_in : Header → List ℕ → ℕ → ℕ
value_in h s i = get_or (chunk_values h s (i / 1024)) (i % 1024) 0

unfoldable pub value_at : List ℕ → ℕ → ℕ
value_at s i = value_in (header_of s) s i
