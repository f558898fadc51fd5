-- For the contracts of private functions: a group of document 02, R-6, is here four blocks of 32 codes behind one width byte, the last of a list fewer and
-- shorter ones, since 32 codes of w bits are 4w whole bytes. A block is read behind some byte, as a group is behind its first; but what that byte holds counts for nothing, and w is said.
use Rattle.std.specs.Prelude.{ℕ, ◌/◌, ◌^◌, ◌≡◌, ◌⊎◌, List}
use Rattle.blocks.specs.Bytes.{number, digits}

-- the n codes, of w bits each, behind the first byte
unfoldable pub block_codes : ℕ → ℕ → List ℕ → List ℕ
block_codes w n s = digits (2 ^ w) n (number 256 s / 256)

-- The counts of two blocks that stand one behind the other: the first is full, or there is nothing behind it.
abbrev pub Filled : ℕ → ℕ → Type 0
Filled a b = (a ≡ 32) ⊎ (b ≡ 0)
