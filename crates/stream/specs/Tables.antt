-- Document 01, "The stream": the chunk table and the side table, which are refusal 9, and the ids that the late 8 and 15 look at. All sums are of natural
-- numbers: none wraps.
use Rattle.std.specs.Prelude.{ℕ, zero, suc, ◌+◌, ◌-◌, ◌*◌, ◌^◌, Bool, true, false, ◌&&◌, ◌||◌, cond, List, [], ◌∷◌, leb, ltb, eqb, length}
use Rattle.stream.specs.Header.{word}
use Rattle.stream.specs.declared.header.Header.{Header}

-- f holds at each of the k numbers from i on
unfoldable pub every : (ℕ → Bool) → ℕ → ℕ → Bool
every f zero i = true
every f (suc k) i = f i && every f k (suc i)

-- ---- "The chunk table has each chunk's start, counted from the data."

-- "A chunk runs to the next start or the end of data": behind the last chunk's start stands the data's length.
unfoldable pub start_at : Header → List ℕ → ℕ → ℕ
start_at h s j = cond (ltb j h.chunks) (word s (48 + 4 * j)) (h.end - h.start)

-- "each is greater than the last and below the data's length"
unfoldable pub start_right : Header → List ℕ → ℕ → Bool
start_right h s j = ltb (start_at h s j) (start_at h s (j + 1))

-- "The first is 0 ..; with no chunks the data is empty": its length then stands first
unfoldable pub chunk_table_right : Header → List ℕ → Bool
chunk_table_right h s = eqb (start_at h s 0) 0 && every (start_right h s) h.chunks 0

-- ---- "The side table has s entries of id, place (counted from the stream's start), length."

unfoldable pub side_id : Header → List ℕ → ℕ → ℕ
side_id h s i = word s (h.end + 12 * i)

unfoldable pub side_place : Header → List ℕ → ℕ → ℕ
side_place h s i = word s (h.end + 12 * i + 4)

unfoldable pub side_length : Header → List ℕ → ℕ → ℕ
side_length h s i = word s (h.end + 12 * i + 8)

-- "Ids increase strictly": the least id that the entry i may have
unfoldable pub id_floor : Header → List ℕ → ℕ → ℕ
id_floor h s zero = 0
id_floor h s (suc i) = suc (side_id h s i)

-- "The first part lies right after the table, each next right after the one before": where the part i has to start
unfoldable pub part_at : Header → List ℕ → ℕ → ℕ
part_at h s zero = h.end + 12 * h.sides
part_at h s (suc i) = part_at h s i + side_length h s i

unfoldable pub entry_right : Header → List ℕ → ℕ → Bool
entry_right h s i = leb (id_floor h s i) (side_id h s i) && eqb (side_place h s i) (part_at h s i)

-- The table lies within the bytes, and "the last ends with the stream; with s = 0 the stream ends at the end of data": where a part
-- behind the last would start.
unfoldable pub side_table_right : Header → List ℕ → Bool
side_table_right h s =
    leb (h.end + 12 * h.sides) (length s)
    && every (entry_right h s) h.sides 0
    && eqb (part_at h s h.sides) (length s)

-- the ids of the side table, in its order: k of them, from the entry i on
unfoldable pub ids_from : Header → List ℕ → ℕ → ℕ → List ℕ
ids_from h s zero i = []
ids_from h s (suc k) i = side_id h s i ∷ ids_from h s k (suc i)

unfoldable pub ids_in : Header → List ℕ → List ℕ
ids_in h s = ids_from h s h.sides 0

-- Document 02, R-4: "Ids from 2^31 up now mean 'must be understood'", and are called the high ids
unfoldable pub high_id : ℕ → Bool
high_id id = leb (2 ^ 31) id

unfoldable pub some_high : List ℕ → Bool
some_high [] = false
some_high (id ∷ ids) = high_id id || some_high ids

-- the first of them that is high (0 if none is)
unfoldable pub first_high : List ℕ → ℕ
first_high [] = 0
first_high (id ∷ ids) = cond (high_id id) id (first_high ids)
