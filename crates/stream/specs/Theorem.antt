-- The words that the theorems of proofs/Theorems.antt, Readers.antt, Place.antt, Cut.antt, Written.antt and Understood.antt are stated in.
use Rattle.std.specs.Prelude.{◌≡◌, ◌⊎◌, Bool, true, false, cond, not, List, [], ◌∷◌, ◌++◌, ℕ, zero, suc, ◌+◌, ◌-◌, ◌*◌, ◌/◌, ◌^◌, ◌≤◌, ◌<◌, min, ltb, length, take, drop, get_or, map, Result, Ok, Err}
use Rattle.blocks.specs.Bytes.{Below, digits}
use Rattle.stream.specs.Setting.{known_level, stream_need, group_size, codes_of, patterns_of, limit_of}
use Rattle.stream.specs.Group.{group_bytes, group_length, good_group}
use Rattle.stream.specs.Chunk.{groups_in, good, chunk_bytes, chunk_codes}
use Rattle.stream.specs.Header.{header_of, setting_in, chunks_in}
use Rattle.stream.specs.Tables.{start_at, chunk_table_right, side_table_right, ids_in, some_high, first_high}
use Rattle.stream.specs.Stream.{joined, count_of, chunk_of, chunk_state}
use Rattle.stream.specs.Writing.{piece}
use Rattle.stream.specs.Rows.{number_of, detail_of}
use Rattle.stream.specs.Probe.{shown32, shown64}
use Rattle.stream.specs.Operations.{check_answer, unpack_answer, unpack_out, probe_answer32, probe_answer64}
use Rattle.stream.specs.declared.answers.Refusal.{Refusal}
use Rattle.stream.specs.declared.answers.Refusal.TheVariants.{UnknownLevel, NotAllowed, TooManyValues, NoRoom, NoHeader, OtherMajor, NeedsMinor, BrokenHeader, BrokenTable, BrokenChunk, NoSuchIndex, OtherWidth, MustBeUnderstood, HasSideParts, NoTrueSummary}
use Rattle.stream.specs.declared.header.Header.{Header}
use Rattle.stream.specs.declared.setting.Setting.{Setting}

-- ---- groups and chunks

-- the bits of each number in turn, w for each, lowest bit first
unfoldable pub bits : ℕ → List ℕ → List ℕ
bits w [] = []
bits w (x ∷ xs) = digits 2 w x ++ bits w xs

-- each u is at most U
abbrev pub Limited : ℕ → List ℕ → Type 0
Limited U cs = (i : ℕ) → get_or cs i 0 / 2 ≤ U

-- s starts with the bytes of the n codes cs, each below 2 ^ W and with u at most U
pub record Starts (W U n : ℕ) (s cs : List ℕ) : Type 0 where
  pub count : length cs ≡ n
  pub below : Below (2 ^ W) cs
  pub limited : Limited U cs
  pub rest : List ℕ
  pub bytes : s ≡ group_bytes cs ++ rest

-- s is just the bytes of the n codes that are read from it, in groups of a size, and these are allowed
pub record Canonical (size W U n : ℕ) (s : List ℕ) : Type 0 where
  pub bytes : s ≡ chunk_bytes size (chunk_codes size n s)
  pub count : length (chunk_codes size n s) ≡ n
  pub below : Below (2 ^ W) (chunk_codes size n s)
  pub limited : Limited U (chunk_codes size n s)

-- ---- bad groups

-- the bytes of a chunk of n values from its group i on, where the groups before it are good
unfoldable pub from_group : ℕ → ℕ → ℕ → List ℕ → List ℕ
from_group size zero n s = s
from_group size (suc i) n s = from_group size i (n - size) (drop (group_length (min size n) s) s)

-- whether the group i of it keeps the rules
unfoldable pub good_at : ℕ → ℕ → ℕ → ℕ → List ℕ → ℕ → Bool
good_at W U size n s i = good_group W U (min size (n - size * i)) (from_group size i n s)

-- "the first bad group; bytes left over at a chunk's end count for its last group": the group g of a chunk of n values, with the bytes s
pub record FirstBad (W U size n : ℕ) (s : List ℕ) (g : ℕ) : Type 0 where
  pub is_group : g < groups_in size n
  pub earlier : (i : ℕ) → i < g → good_at W U size n s i ≡ true
  pub bad : (good_at W U size n s g ≡ false) ⊎ ((suc g ≡ groups_in size n) × (0 < length (from_group size (suc g) n s)))

-- ---- streams

-- what comes back of a list that is packed: each of its chunks, coded and restored
unfoldable pub coming_back : Setting → List ℕ → List ℕ
coming_back t vs = joined (λ j. patterns_of t (codes_of t (piece vs j))) (chunks_in (length vs))

-- the group g is the first bad one of the chunk j
abbrev pub BadGroup : List ℕ → ℕ → ℕ → Type 0
BadGroup s j g =
    let h = header_of s in
    FirstBad h.width (limit_of (setting_in h)) (group_size (setting_in h)) (count_of h j) (chunk_of h s j) g

-- the chunk j is the first bad one of a stream, and g its first bad group
pub record Fault (s : List ℕ) (j g : ℕ) : Type 0 where
  pub chunk : j < (header_of s).chunks
  pub earlier : (i : ℕ) → i < j → chunk_state (header_of s) s i ≡ good
  pub group : BadGroup s j g

-- the bytes of u at the place of the chunk j of s
unfoldable pub at_chunk : List ℕ → ℕ → List ℕ → List ℕ
at_chunk s j u =
    take (start_at (header_of s) s (j + 1) - start_at (header_of s) s j) (drop ((header_of s).start + start_at (header_of s) s j) u)

-- s and t may differ in the data of the other chunks than j, and nowhere else: header and chunk table, the bytes of the chunk j, and all
-- behind the data are the same
pub record Apart (j : ℕ) (s t : List ℕ) : Type 0 where
  pub lengths : length s ≡ length t
  pub front : take (48 + 4 * (header_of s).chunks) s ≡ take (48 + 4 * (header_of s).chunks) t
  pub own : at_chunk s j s ≡ at_chunk s j t
  pub behind : drop (header_of s).end s ≡ drop (header_of s).end t

-- p is the place of a byte of the chunk j
pub record InChunk (s : List ℕ) (j p : ℕ) : Type 0 where
  pub is_chunk : j < (header_of s).chunks
  pub after : (header_of s).start + start_at (header_of s) s j ≤ p
  pub before : p < (header_of s).start + start_at (header_of s) s (j + 1)

-- ---- the table of refusals

-- the refusals in the table's order, with the details of the four that have one
unfoldable pub refusals : (needed minor place id : ℕ) → List Refusal
refusals needed minor place id =
    UnknownLevel ∷ NotAllowed ∷ TooManyValues ∷ NoRoom needed ∷ NoHeader ∷ OtherMajor ∷ NeedsMinor minor ∷ BrokenHeader ∷ BrokenTable ∷ BrokenChunk place
    ∷ NoSuchIndex ∷ OtherWidth ∷ MustBeUnderstood id ∷ HasSideParts ∷ NoTrueSummary ∷ []

-- document 01, "Refusal numbers", with 15 to 17 of document 02: the number of each line that a stream can give, and its detail, 0 where the table states
-- none (12 and 13 are bound's: `bound_number`)
pub record RefusalTable : Type 0 where
  pub numbers : (needed minor place id : ℕ)
      → map number_of (refusals needed minor place id) ≡ 1 ∷ 2 ∷ 3 ∷ 4 ∷ 5 ∷ 6 ∷ 7 ∷ 8 ∷ 9 ∷ 10 ∷ 11 ∷ 14 ∷ 15 ∷ 16 ∷ 17 ∷ []
  pub details : (needed minor place id : ℕ)
      → map detail_of (refusals needed minor place id) ≡ 0 ∷ 0 ∷ 0 ∷ needed ∷ 0 ∷ 0 ∷ minor ∷ 0 ∷ 0 ∷ place ∷ 0 ∷ 0 ∷ id ∷ 0 ∷ 0 ∷ []

-- ---- a stream that is cut

-- the refusal of a stream that is cut to c bytes: its header is cut, or its data, or what stands behind the data
unfoldable pub cut_refusal : Header → ℕ → Refusal
cut_refusal h c = cond (ltb c 48) NoHeader (cond (ltb c h.end) BrokenHeader BrokenTable)

-- what check answers of it at any level
unfoldable pub cut_answer : ℕ → Header → ℕ → Result ℕ Refusal
cut_answer level h c =
    cond (not (known_level level)) (Err UnknownLevel)
    (cond (ltb c 48) (Err NoHeader)
    (cond (ltb level h.needed) (Err (NeedsMinor h.needed))
    (Err (cut_refusal h c))))

-- some reader accepts the bytes s at a level: check, unpack of a width into some room, or probe of some index, which then shows a pattern
pub data Accepts (level : ℕ) (s : List ℕ) : Type 0 where
  by_check : (n : ℕ) → check_answer level s ≡ Ok n → Accepts level s
  by_unpack : (W room n : ℕ) → unpack_answer W level s room ≡ Ok n → Accepts level s
  by_probe32 : (i p : ℕ) → probe_answer32 level s i ≡ Ok (shown32 p) → Accepts level s
  by_probe64 : (i p : ℕ) → probe_answer64 level s i ≡ Ok (shown64 p) → Accepts level s

-- ---- what no reader may skip

-- every reader refuses s at the level L as too new, and names the needed minor: check, unpack of any width into any room, and probe of any index
pub record TooNew (L : ℕ) (s : List ℕ) (needed : ℕ) : Type 0 where
  pub check : check_answer L s ≡ Err (NeedsMinor needed)
  pub unpack : (W : ℕ) (back : List ℕ) → (unpack_answer W L s (length back) ≡ Err (NeedsMinor needed)) × (unpack_out W L s back ≡ back)
  pub probe32 : (i : ℕ) → probe_answer32 L s i ≡ Err (NeedsMinor needed)
  pub probe64 : (i : ℕ) → probe_answer64 L s i ≡ Err (NeedsMinor needed)

-- the readers of the width W refuse s, which has n values, so at the level L: check, unpack into room for the values, and probe of each
pub record RefusedBy (W L : ℕ) (s : List ℕ) (n : ℕ) (refusal : Refusal) : Type 0 where
  pub check : check_answer L s ≡ Err refusal
  pub unpack : (back : List ℕ) → n ≤ length back → (unpack_answer W L s (length back) ≡ Err refusal) × (unpack_out W L s back ≡ back)
  pub probe32 : W ≡ 32 → (i : ℕ) → i < n → probe_answer32 L s i ≡ Err refusal
  pub probe64 : W ≡ 64 → (i : ℕ) → i < n → probe_answer64 L s i ≡ Err refusal

-- every reader refuses s at the level L, each by some refusal: check, unpack of any width into any room, and probe of any index
pub record RefusedByAll (L : ℕ) (s : List ℕ) : Type 0 where
  pub check : (refusal : Refusal) × (check_answer L s ≡ Err refusal)
  pub unpack : (W : ℕ) (back : List ℕ) → (refusal : Refusal) × (unpack_answer W L s (length back) ≡ Err refusal) × (unpack_out W L s back ≡ back)
  pub probe32 : (i : ℕ) → (refusal : Refusal) × (probe_answer32 L s i ≡ Err refusal)
  pub probe64 : (i : ℕ) → (refusal : Refusal) × (probe_answer64 L s i ≡ Err refusal)

-- what 15 with the detail id tells of any bytes: the tables are right, id is the first high one of the side table, and the needed minor is the right one,
-- which the level reaches
pub record NotUnderstood (level : ℕ) (s : List ℕ) (id : ℕ) : Type 0 where
  pub tables : (chunk_table_right (header_of s) s ≡ true) × (side_table_right (header_of s) s ≡ true)
  pub some_high_lem : some_high (ids_in (header_of s) s) ≡ true
  pub the_first : id ≡ first_high (ids_in (header_of s) s)
  pub right : (header_of s).needed ≡ stream_need (setting_in (header_of s)) true
  pub reached : (header_of s).needed ≤ level
