-- Document 01, "Order", and document 02, R-1, R-4, R-6 and R-7: each operation's rows, its answer, and what its lent output holds afterwards. These are the promises.
use Rattle.std.specs.Prelude.{ℕ, ◌+◌, ◌*◌, ◌/◌, true, false, ◌&&◌, ◌||◌, not, Ok, Err, List, [], ◌∷◌, ◌++◌, map, ltb, eqb, ℤ, length, drop, Float, Result}
use Rattle.stream.specs.Setting.{known_level, allowed_setting, setting_of, setting_at, need, stream_need}
use Rattle.stream.specs.Rows.{Row, row, rows_from, first, answer, after}
use Rattle.stream.specs.Chunk.{Verdict}
use Rattle.stream.specs.Header.{header_of, setting_in, too_many, setting_right, layout_right}
use Rattle.stream.specs.Tables.{chunk_table_right, side_table_right, ids_in, high_id, some_high}
use Rattle.stream.specs.Stream.{chunk_state, values, value_at}
use Rattle.stream.specs.Writing.{stream}
use Rattle.stream.specs.Probe.{shown32, shown64}
use Rattle.stream.specs.declared.answers.Refusal.{Refusal}
use Rattle.stream.specs.declared.answers.Refusal.TheVariants.{UnknownLevel, NotAllowed, TooManyValues, NoRoom, NoHeader, OtherMajor, NeedsMinor, BrokenHeader, BrokenTable, BrokenChunk, NoSuchIndex, OtherWidth, MustBeUnderstood}
use Rattle.stream.specs.declared.answers.Shown.{Shown}
use Rattle.stream.specs.declared.header.Header.{Header}

-- ---- rows that several operations have

unfoldable pub header_rows : ℕ → ℕ → Header → List Row
header_rows level size h =
    row OtherMajor (not (eqb h.major 1))
    ∷ row (NeedsMinor h.needed) (ltb level h.needed)
    ∷ row BrokenHeader (not (setting_right h && layout_right size h))
    ∷ []

-- 1 5 6 7 8: what every reader begins with
unfoldable pub opening_rows : ℕ → List ℕ → List Row
opening_rows level s =
    row UnknownLevel (not (known_level level))
    ∷ row NoHeader (ltb (length s) 48)
    ∷ header_rows level (length s) (header_of s)

-- Document 02, R-4: "The need is compared for equality after the tables have passed", in a stream whose side parts have these ids
unfoldable pub need_row : Header → List ℕ → Row
need_row h ids = row BrokenHeader (not (eqb h.needed (stream_need (setting_in h) (some_high ids))))

-- "15, an id that must be understood, detail the first such id": a row for each id
unfoldable pub id_row : ℕ → Row
id_row id = row (MustBeUnderstood id) (high_id id)

-- 8 15, "after 9 and after that late use of 8"
unfoldable pub side_rows : Header → List ℕ → List Row
side_rows h ids = need_row h ids ∷ map id_row ids

-- 9 8 15: both tables, and what they say of the need and of the side parts
unfoldable pub table_rows : Header → List ℕ → List Row
table_rows h s = row BrokenTable (not (chunk_table_right h s && side_table_right h s)) ∷ side_rows h (ids_in h s)

-- Document 02, R-1, the detail of refusal 10: "chunk·32 + group, the first bad group"; and R-6: "refusal 10's detail keeps its 32"
unfoldable pub fault_detail : ℕ → ℕ → ℕ
fault_detail chunk group = chunk * 32 + group

unfoldable pub fault_row : ℕ → Verdict → Row
fault_row j (Ok kept) = row (BrokenChunk 0) false
fault_row j (Err group) = row (BrokenChunk (fault_detail j group)) true

unfoldable pub chunk_row : Header → List ℕ → ℕ → Row
chunk_row h s j = fault_row j (chunk_state h s j)

-- a row for each chunk
unfoldable pub chunk_rows : Header → List ℕ → List Row
chunk_rows h s = rows_from (chunk_row h s) h.chunks 0

-- 9 8 15 10: the tables, then every chunk
unfoldable pub content_rows : Header → List ℕ → List Row
content_rows h s = table_rows h s ++ chunk_rows h s

unfoldable pub width_row : ℕ → Header → Row
width_row W h = row OtherWidth (not (eqb h.width W))

-- ---- Check: 1 5 6 7 8 9 8 15 10

unfoldable pub check_rows : ℕ → List ℕ → List Row
check_rows level s = opening_rows level s ++ content_rows (header_of s) s

unfoldable pub check_answer : ℕ → List ℕ → Result ℕ Refusal
check_answer level s = answer (first (check_rows level s)) (header_of s).count

-- ---- Unpack: 1 5 6 7 8 14 4 9 8 15 10, of a stream of width W into room for so many values

unfoldable pub room_row : ℕ → Header → Row
room_row room h = row (NoRoom h.count) (ltb room h.count)

unfoldable pub unpack_rows : ℕ → ℕ → List ℕ → ℕ → List Row
unpack_rows W level s room =
    opening_rows level s ++ (width_row W (header_of s) ∷ room_row room (header_of s) ∷ content_rows (header_of s) s)

unfoldable pub unpack_answer : ℕ → ℕ → List ℕ → ℕ → Result ℕ Refusal
unpack_answer W level s room = answer (first (unpack_rows W level s room)) (header_of s).count

-- "past n .. nothing is altered"
unfoldable pub unpack_out : ℕ → ℕ → List ℕ → List ℕ → List ℕ
unpack_out W level s out = after (first (unpack_rows W level s (length out))) (values s ++ drop (header_of s).count out) out

-- ---- Probe: 1 5 6 7 8 14 11 9 8 15 10, "the last for its own chunk only"

unfoldable pub index_row : ℕ → Header → Row
index_row i h = row NoSuchIndex (not (ltb i h.count))

unfoldable pub own_rows : Header → List ℕ → ℕ → List Row
own_rows h s i = table_rows h s ++ (chunk_row h s (i / 1024) ∷ [])

unfoldable pub probe_rows : ℕ → ℕ → List ℕ → ℕ → List Row
probe_rows W level s i =
    opening_rows level s ++ (width_row W (header_of s) ∷ index_row i (header_of s) ∷ own_rows (header_of s) s i)

unfoldable pub probe_answer32 : ℕ → List ℕ → ℕ → Result (Shown Float ℕ) Refusal
probe_answer32 level s i = answer (first (probe_rows 32 level s i)) (shown32 (value_at s i))

unfoldable pub probe_answer64 : ℕ → List ℕ → ℕ → Result (Shown Float ℕ) Refusal
probe_answer64 level s i = answer (first (probe_rows 64 level s i)) (shown64 (value_at s i))

-- ---- "Length: 1 2 3", for n values of width W; "Pack: 1 2 3 4", of values into room for so many bytes

unfoldable pub length_rows : ℕ → ℕ → ℕ → ℤ → ℕ → ℕ → List Row
length_rows W level mode k size n =
    row UnknownLevel (not (known_level level))
    ∷ row NotAllowed (not (allowed_setting W mode k size) || ltb level (need (setting_of W mode k size)))
    ∷ row TooManyValues (too_many n)
    ∷ []

unfoldable pub length_answer : ℕ → ℕ → ℕ → ℤ → ℕ → List ℕ → Result ℕ Refusal
length_answer W level mode k size vs = answer (first (length_rows W level mode k size (length vs))) (length (stream level (setting_at level W mode k size) vs))

unfoldable pub pack_rows : ℕ → ℕ → ℕ → ℤ → ℕ → List ℕ → ℕ → List Row
pack_rows W level mode k size vs room =
    length_rows W level mode k size (length vs)
    ++ (row (NoRoom (length (stream level (setting_at level W mode k size) vs))) (ltb room (length (stream level (setting_at level W mode k size) vs))) ∷ [])

unfoldable pub pack_answer : ℕ → ℕ → ℕ → ℤ → ℕ → List ℕ → ℕ → Result ℕ Refusal
pack_answer W level mode k size vs room = answer (first (pack_rows W level mode k size vs room)) (length (stream level (setting_at level W mode k size) vs))

-- "past the packed bytes, nothing is altered"
unfoldable pub pack_out : ℕ → ℕ → ℕ → ℤ → ℕ → List ℕ → List ℕ → List ℕ
pack_out W level mode k size vs out =
    after (first (pack_rows W level mode k size vs (length out)))
    (stream level (setting_at level W mode k size) vs ++ drop (length (stream level (setting_at level W mode k size) vs)) out)
    out
