-- What private functions ask of their callers, in plain facts. No promise of a public function names any of it, so a reader of the
-- promises need not read this file. That an accepted header has all of this is proved once (`opened_as` of the laws).
use Rattle.std.specs.Prelude.{◌≡◌, ℕ, ◌+◌, ◌*◌, ◌/◌, ◌^◌, ◌≤◌, ◌<◌, true, List, length}
use Rattle.bins.specs.Tolerance.{last_bin}
use Rattle.stream.specs.Setting.{known_width, known_size, fraction_bits, allowed_setting}
use Rattle.stream.specs.Header.{k_of, said_mode, said_size}
use Rattle.stream.specs.Tables.{start_at, chunk_table_right}
use Rattle.stream.specs.declared.header.Header.{Header}
use Rattle.stream.specs.declared.setting.Setting.{Setting}

-- the numbers of a header have 32 bits, as far as that counts
pub record Words (h : Header) : Type 0 where
  pub exponent : h.exponent < 2 ^ 32
  pub count : h.count < 2 ^ 32
  pub chunks : h.chunks < 2 ^ 32

-- a setting that is allowed
pub record Allowed (t : Setting) : Type 0 where
  pub known : known_width t.width ≡ true
  pub mode : t.mode ≤ 2
  pub bin : t.bin ≤ last_bin t.width (fraction_bits t.width)
  pub none : (t.mode ≡ 1 → ⊥) → t.bin ≡ 0
  pub size : known_size t.size ≡ true

-- the setting of a header is one that is allowed
pub record Settled (h : Header) : Type 0 where
  pub known : known_width h.width ≡ true
  pub narrow : h.width ≤ 64
  pub allowed : allowed_setting h.width (said_mode h.mode) (k_of h) (said_size h.mode) ≡ true

-- the places lie as document 01 says, in a stream of so many bytes
pub record Layout (size : ℕ) (h : Header) : Type 0 where
  pub few : h.count ≤ 1048576
  pub chunks : h.chunks ≡ (h.count + 1023) / 1024
  pub table : h.table ≡ 48
  pub start : h.start ≡ 48 + 4 * h.chunks
  pub sides : h.sides ≤ 64
  pub ordered : h.start ≤ h.end
  pub within : h.end ≤ size

-- the bytes of the chunk j lie within the data
abbrev pub Placed : Header → List ℕ → ℕ → Type 0
Placed h s j = (start_at h s j < start_at h s (j + 1)) × (h.start + start_at h s (j + 1) ≤ h.end)

-- all of an accepted header
pub record Opened (size : ℕ) (h : Header) : Type 0 where
  pub words : Words h
  pub setting : Settled h
  pub layout : Layout size h

-- and the chunk table, for a reader of values of width W
pub record Readable (W : ℕ) (h : Header) (s : List ℕ) : Type 0 where
  pub opened : Opened (length s) h
  pub width : h.width ≡ W
  pub table : chunk_table_right h s ≡ true
