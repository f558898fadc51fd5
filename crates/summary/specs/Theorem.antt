-- The words that the theorems of proofs/Theorems.antt are stated in.
use Rattle.std.specs.Prelude.{◌≡◌, true, cond, List, ℕ, ◌+◌, ◌/◌, ◌<◌, eqb, length, take, drop, get_or}
use Rattle.std.specs.Float.{Format, binary32, binary64}
use Rattle.std.specs.Float.Ieee.{of_bits, le}
use Rattle.blocks.specs.Bytes.{number}
use Rattle.stream.specs.Setting.{fraction_bits}
use Rattle.stream.specs.Header.{header_of}
use Rattle.stream.specs.Tables.{side_id, side_place, side_length}
use Rattle.stream.specs.Stream.{count_of, chunk_values}
use Rattle.stream.specs.Operations.{check_answer, unpack_answer, unpack_out, probe_answer32, probe_answer64}
use Rattle.stream.specs.declared.header.Header.{Header}
use Rattle.summary.specs.Entry.{nans_in, smallest, largest}
use Rattle.summary.specs.Summary.{summary}

-- a header with another number of side parts
abbrev pub counted : Header → ℕ → Header
counted h n =
    record {
      major = h.major;
      written = h.written;
      needed = h.needed;
      width = h.width;
      mode = h.mode;
      exponent = h.exponent;
      count = h.count;
      chunks = h.chunks;
      table = h.table;
      start = h.start;
      sides = n;
      end = h.end;
    }

-- every reader makes of t what it makes of s, at each level: check, unpack of any width into any room, and probe of any index
pub record ReadAs (s t : List ℕ) : Type 0 where
  pub check : (L : ℕ) → check_answer L t ≡ check_answer L s
  pub unpack : (W L : ℕ) (out : List ℕ) → (unpack_answer W L t (length out) ≡ unpack_answer W L s (length out)) × (unpack_out W L t out ≡ unpack_out W L s out)
  pub probe32 : (L i : ℕ) → probe_answer32 L t i ≡ probe_answer32 L s i
  pub probe64 : (L i : ℕ) → probe_answer64 L t i ≡ probe_answer64 L s i

-- an entry of the side table has the id 1, and its part is the summary, byte for byte
pub record TrueSummary (s : List ℕ) : Type 0 where
  pub entry : ℕ
  pub is_entry : entry < (header_of s).sides
  pub id : side_id (header_of s) s entry ≡ 1
  pub bytes : take (side_length (header_of s) s entry) (drop (side_place (header_of s) s entry) s) ≡ summary s

-- the three numbers that stand from a byte place on are those of the values vs: the count takes 4 bytes, each pattern W/8
pub record Says (W : ℕ) (s : List ℕ) (at : ℕ) (vs : List ℕ) : Type 0 where
  pub count_is : number 256 (take 4 (drop at s)) ≡ nans_in W (fraction_bits W) vs
  pub smallest_is : number 256 (take (W / 8) (drop (at + 4) s)) ≡ smallest W (fraction_bits W) vs
  pub largest_is : number 256 (take (W / 8) (drop (at + 4 + W / 8) s)) ≡ largest W (fraction_bits W) vs

-- "IEEE 754 decides what a bit pattern means": the format of a width
unfoldable pub format_of : ℕ → Format
format_of W = cond (eqb W 32) binary32 binary64

-- the chunk j holds some value at least x, as IEEE 754 compares
pub record HoldsSome (f : Format) (x : ℕ) (s : List ℕ) (j : ℕ) : Type 0 where
  pub is_chunk : j < (header_of s).chunks
  pub index : ℕ
  pub is_value : index < count_of (header_of s) j
  pub at_least_lem : le (of_bits f x) (of_bits f (get_or (chunk_values (header_of s) s j) index 0)) ≡ true
