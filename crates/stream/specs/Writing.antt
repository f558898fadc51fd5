-- Document 01, "The stream", from the writer's side: the bytes of a list of values at a level and a setting; whole, with side parts behind
-- it, and half written.
use Rattle.std.specs.Prelude.{◌≡◌, ℕ, suc, ◌+◌, ◌-◌, ◌*◌, ◌^◌, ◌≤◌, Bool, true, ◌&&◌, List, [], ◌∷◌, ◌++◌, leb, length, take, drop, replicate}
use Rattle.blocks.specs.Bytes.{digits, Below}
use Rattle.stream.specs.Setting.{need, mode_number, k_bits, group_size, codes_of}
use Rattle.stream.specs.Chunk.{chunk_bytes}
use Rattle.stream.specs.Header.{chunks_in}
use Rattle.stream.specs.Stream.{joined}
use Rattle.stream.specs.declared.setting.Setting.{Setting}

-- "All header and table numbers are 32-bit little-endian"
unfoldable pub spell : List ℕ → List ℕ
spell [] = []
spell (n ∷ ns) = digits 256 4 n ++ spell ns

-- "A chunk .. holds 1,024 values, the last one the remainder": the values of the chunk j
unfoldable pub piece : List ℕ → ℕ → List ℕ
piece vs j = take 1024 (drop (1024 * j) vs)

-- the bytes of the chunk j
unfoldable pub piece_bytes : Setting → List ℕ → ℕ → List ℕ
piece_bytes t vs j = chunk_bytes (group_size t) (codes_of t (piece vs j))

-- the data of the first j chunks
unfoldable pub data_of : Setting → List ℕ → ℕ → List ℕ
data_of t vs = joined (piece_bytes t vs)

-- "each chunk's start, counted from the data", of the first j chunks
unfoldable pub starts_of : Setting → List ℕ → ℕ → List ℕ
starts_of t vs = joined (λ j. length (data_of t vs j) ∷ [])

-- The table "at | number", for n values, so many side parts, and the end of data. "Pack at level L writes L as written minor and the exact
-- need as needed minor."
unfoldable pub header_numbers : ℕ → Setting → ℕ → ℕ → ℕ → List ℕ
header_numbers level t n sides end =
    1 ∷ level ∷ need t
    ∷ t.width ∷ mode_number t ∷ k_bits t
    ∷ n ∷ chunks_in n
    ∷ 48 ∷ (48 + 4 * chunks_in n)
    ∷ sides ∷ end
    ∷ []

-- "data at 48 + 4c", and behind it the data of the first j chunks
unfoldable pub end_of : Setting → List ℕ → ℕ → ℕ
end_of t vs j = 48 + 4 * chunks_in (length vs) + length (data_of t vs j)

-- header, chunk table and data of a list, with a number of side parts in the header
unfoldable pub body : ℕ → Setting → List ℕ → ℕ → List ℕ
body level t vs sides =
    spell
    (header_numbers level t (length vs) sides (end_of t vs (chunks_in (length vs)))
    ++ starts_of t vs (chunks_in (length vs)))
    ++ data_of t vs (chunks_in (length vs))

-- The packed stream of a list. "Pack writes none", of side parts.
unfoldable pub stream : ℕ → Setting → List ℕ → List ℕ
stream level t vs = body level t vs 0

-- The stream of a list whose first j chunks are written, over what lay in the output: header and table stand, a start that is not known
-- yet is 0, and so is the end of data.
unfoldable pub unfinished : ℕ → Setting → List ℕ → ℕ → List ℕ → List ℕ
unfinished level t vs j out =
    spell
    (header_numbers level t (length vs) 0 0
    ++ starts_of t vs j
    ++ replicate (chunks_in (length vs) - j) 0)
    ++ data_of t vs j
    ++ drop (end_of t vs j) out

-- ---- side parts

pub record Side : Type 0 where
  pub id : ℕ
  pub bytes : List ℕ

-- "s entries of id, place (counted from the stream's start), length", for parts of which the first lies at the place
unfoldable pub entries : ℕ → List Side → List ℕ
entries place [] = []
entries place (p ∷ ps) = p.id ∷ place ∷ length p.bytes ∷ entries (place + length p.bytes) ps

-- "each next right after the one before"
unfoldable pub parts : List Side → List ℕ
parts [] = []
parts (p ∷ ps) = p.bytes ++ parts ps

-- the bytes b with another number at a byte place of the header
unfoldable pub placed : ℕ → ℕ → List ℕ → List ℕ
placed at n b = take at b ++ digits 256 4 n ++ drop (at + 4) b

-- Side parts are added to a stream b that has none: their number is put in its place in the header, and the side table and the parts come
-- behind all that is there.
unfoldable pub add_sides : List ℕ → List Side → List ℕ
add_sides b ps = placed 40 (length ps) b ++ spell (entries (length b + 12 * length ps) ps) ++ parts ps

-- their ids
unfoldable pub ids_of : List Side → List ℕ
ids_of [] = []
ids_of (p ∷ ps) = p.id ∷ ids_of ps

-- "Ids increase strictly", from a floor on
unfoldable pub increasing : ℕ → List Side → Bool
increasing floor [] = true
increasing floor (p ∷ ps) = leb floor p.id && increasing (suc p.id) ps

-- Side parts that a stream may have, the first of them at the place: "at most 64", ids that increase, a table of numbers of 32 bits, and
-- bytes.
pub record WellFormedSides (place : ℕ) (ps : List Side) : Type 0 where
  pub few : length ps ≤ 64
  pub ordered : increasing 0 ps ≡ true
  pub numbers : Below (2 ^ 32) (entries place ps)
  pub are_bytes : Below 256 (parts ps)
