-- What a library above this one reads of a stream that a check has accepted: the values of one chunk, and one side part (document 02, R-5, R-11, R-14). These
-- are no operations of document 01 and give no refusal: they look at no level and at no id, and at the need no more than a header's rules do, because who calls them has made a check before. But every
-- definition is total, and says of any bytes what is answered. What it is where a check accepts is said in proofs/Access.antt.
use Rattle.std.specs.Prelude.{ℕ, suc, ◌+◌, ◌-◌, ◌*◌, Bool, false, ◌&&◌, ◌||◌, cond, Option, Some, None, List, [], ◌∷◌, ◌++◌, leb, ltb, eqb, length, take, drop}
use Rattle.stream.specs.Setting.{group_size}
use Rattle.stream.specs.Chunk.{whole_chunk}
use Rattle.stream.specs.Header.{header_of, setting_in, setting_right, layout_right}
use Rattle.stream.specs.Tables.{start_at, start_right, side_place, side_length, ids_in}
use Rattle.stream.specs.Stream.{count_of, chunk_of, chunk_values}
use Rattle.stream.specs.declared.answers.SidePart.{SidePart}
use Rattle.stream.specs.declared.header.Header.{Header}

-- the rules of refusal 5 and of the 8 before the tables. Those of 1, 6 and 7, of the tables, and of the late 8 are the check's.
unfoldable pub header_right : List ℕ → Bool
header_right s = leb 48 (length s) && setting_right (header_of s) && layout_right (length s) (header_of s)

-- ---- the values of the chunk j

-- its bytes lie within the data
unfoldable pub chunk_placed : Header → List ℕ → ℕ → Bool
chunk_placed h s j = start_right h s j && leb (start_at h s (j + 1)) (h.end - h.start)

-- and its groups are there to be read
unfoldable pub chunk_there : Header → List ℕ → ℕ → Bool
chunk_there h s j = chunk_placed h s j && whole_chunk h.width (group_size (setting_in h)) (count_of h j) (chunk_of h s j)

-- there is such a chunk, its values have the width W, and there is room for them
unfoldable pub chunk_fits : ℕ → Header → ℕ → ℕ → Bool
chunk_fits W h j room = ltb j h.chunks && eqb h.width W && leb (count_of h j) room

unfoldable pub chunk_readable : ℕ → List ℕ → ℕ → ℕ → Bool
chunk_readable W s j room = header_right s && chunk_fits W (header_of s) j room && chunk_there (header_of s) s j

-- the answer: how many values it has, and what the output then holds
unfoldable pub chunk_read : ℕ → List ℕ → ℕ → ℕ → Option ℕ
chunk_read W s j room = cond (chunk_readable W s j room) (Some (count_of (header_of s) j)) None

unfoldable pub chunk_out : ℕ → List ℕ → ℕ → List ℕ → List ℕ
chunk_out W s j out =
    cond (chunk_readable W s j (length out)) (chunk_values (header_of s) s j ++ drop (count_of (header_of s) j) out) out

-- ---- the side part with an id

-- whether an id is among those of the side table, and which entry is the first that has it
unfoldable pub has_id : ℕ → List ℕ → Bool
has_id id [] = false
has_id id (other ∷ ids) = eqb other id || has_id id ids

unfoldable pub entry_of : ℕ → List ℕ → ℕ
entry_of id [] = 0
entry_of id (other ∷ ids) = cond (eqb other id) 0 (suc (entry_of id ids))

-- the place and the length that the table gives for it
unfoldable pub place_of : Header → List ℕ → ℕ → ℕ
place_of h s id = side_place h s (entry_of id (ids_in h s))

unfoldable pub length_of : Header → List ℕ → ℕ → ℕ
length_of h s id = side_length h s (entry_of id (ids_in h s))

-- its bytes
unfoldable pub side_bytes : Header → List ℕ → ℕ → List ℕ
side_bytes h s id = take (length_of h s id) (drop (place_of h s id) s)

-- the side table lies within the bytes, has the id, and the part lies within the bytes too
unfoldable pub part_there : List ℕ → ℕ → Bool
part_there s id =
    header_right s && leb ((header_of s).end + 12 * (header_of s).sides) (length s)
    && has_id id (ids_in (header_of s) s)
    && leb (place_of (header_of s) s id + length_of (header_of s) s id) (length s)

-- the answer: where it lies, and how many bytes it has
unfoldable pub side_part : List ℕ → ℕ → Option SidePart
side_part s id =
    cond (part_there s id) (Some (record { place = place_of (header_of s) s id; length = length_of (header_of s) s id })) None
