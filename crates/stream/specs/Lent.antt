-- For the contracts of private functions: values are lent as one list for each width, of which the one of the setting's width counts. So a
-- walk over a chunk or a stream exists once, and only the leaves look at the width.
use Rattle.std.specs.Prelude.{◌≤◌, ◌≡◌, true, cond, List, map, ◌++◌, ℕ, ◌+◌, eqb, length, take, drop}
use Rattle.std.specs.Borrow.{RattleType}
use Rattle.std.specs.Mem.{FitsInMemory}
use Rattle.stream.specs.contracts.group.Group.{the_row}
use Rattle.stream.specs.Setting.{group_size, code_at, codes_of, patterns_after}
use Rattle.stream.specs.Chunk.{whole_chunk}
use Rattle.stream.specs.declared.setting.Setting.{Setting}

-- the list of the width
unfoldable pub chosen : ℕ → List ℕ → List ℕ → List ℕ
chosen W v32 v64 = cond (eqb W 32) v32 v64

-- a list with new elements from a place on
unfoldable pub landed : ℕ → List ℕ → List ℕ → List ℕ
landed at new out = take at out ++ new ++ drop (at + length new) out

-- the codes of a chunk's values, as they are lent
unfoldable pub lent_codes : Setting → List ℕ → List ℕ → List ℕ
lent_codes t v32 v64 = codes_of t (chosen t.width v32 v64)

-- at width 32 in mode 1, a chunk's codes stand in the scratch before its groups are made
abbrev pub Staged : Setting → List ℕ → List ℕ → Type 0
Staged t v32 c32 = t.width ≡ 32 → (t.mode ≡ 0 → ⊥) → (t.mode ≡ 2 → ⊥) → take (length v32) c32 ≡ map (code_at t) v32

-- so beside a chunk's values of any width: the scratch has room for all codes at the width that asks for it
abbrev pub Scratch : Setting → List ℕ → List ℕ → Type 0
Scratch t values codes = (t.width ≡ 32 → length values ≤ length codes) × Staged t values codes

-- a group of words takes a part of the memory, as is so wherever there is one
abbrev pub GroupFits : RattleType → Type 0
GroupFits T = FitsInMemory (the_row T)

-- what follows the pattern a is as if it followed b: the same pattern, or a mode that does not look
abbrev pub SameBehind : Setting → ℕ → ℕ → Type 0
SameBehind t a b = (cs : List ℕ) → patterns_after t a cs ≡ patterns_after t b cs

-- the bytes begin with those of a chunk of n values that is there to be read
pub record Begun (t : Setting) (n : ℕ) (s : List ℕ) : Type 0 where
  pub bytes : List ℕ
  pub rest : List ℕ
  pub split : s ≡ bytes ++ rest
  pub whole : whole_chunk t.width (group_size t) n bytes ≡ true
