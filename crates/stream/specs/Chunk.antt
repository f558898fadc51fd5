-- Document 01, "The stream", of a chunk: "It is cut into groups of 32 (the last may be shorter)." The size of a group is an argument.
use Rattle.std.specs.Prelude.{ℕ, zero, suc, ◌+◌, ◌-◌, ◌/◌, min, Bool, true, ◌&&◌, cond, Result, Ok, Err, List, [], ◌++◌, eqb, length, take, drop}
use Rattle.stream.specs.Group.{group_bytes, group_length, group_codes, whole_group, good_group}

-- how many groups n values have
unfoldable pub groups_in : ℕ → ℕ → ℕ
groups_in size n = (n + (size - 1)) / size

-- q groups, one after the other
unfoldable pub groups_bytes : ℕ → ℕ → List ℕ → List ℕ
groups_bytes size zero cs = []
groups_bytes size (suc q) cs = group_bytes (take size cs) ++ groups_bytes size q (drop size cs)

unfoldable pub chunk_bytes : ℕ → List ℕ → List ℕ
chunk_bytes size cs = groups_bytes size (groups_in size (length cs)) cs

-- what a check of a chunk finds: that it keeps the rules, or else its first bad group
abbrev pub Verdict : Type 0
Verdict = Result (Unit {0}) ℕ

abbrev pub good : Verdict
good = Ok tt

-- ---- reading: n is how many values are left, s what is left of the bytes, i the number of the group at the front

-- The first bad group, if there is one. "A chunk ends with its last group", and "bytes left over at a chunk's end count for its last group" (document 02, R-1).
unfoldable pub first_fault : ℕ → ℕ → ℕ → ℕ → ℕ → List ℕ → ℕ → Verdict
first_fault W U size zero n s i = cond (eqb (length s) 0) good (Err (i - 1))
first_fault W U size (suc q) n s i =
    cond (good_group W U (min size n) s) (first_fault W U size q (n - size) (drop (group_length (min size n) s) s) (suc i)) (Err i)

unfoldable pub chunk_answer : ℕ → ℕ → ℕ → ℕ → List ℕ → Verdict
chunk_answer W U size n s = first_fault W U size (groups_in size n) n s 0

-- Each of q groups is there to be read: all that reading a chunk's codes takes. Bytes left over do not count.
unfoldable pub whole_groups : ℕ → ℕ → ℕ → ℕ → List ℕ → Bool
whole_groups W size zero n s = true
whole_groups W size (suc q) n s = whole_group W (min size n) s && whole_groups W size q (n - size) (drop (group_length (min size n) s) s)

unfoldable pub whole_chunk : ℕ → ℕ → ℕ → List ℕ → Bool
whole_chunk W size n s = whole_groups W size (groups_in size n) n s

unfoldable pub groups_codes : ℕ → ℕ → ℕ → List ℕ → List ℕ
groups_codes size zero n s = []
groups_codes size (suc q) n s = group_codes (min size n) s ++ groups_codes size q (n - size) (drop (group_length (min size n) s) s)

unfoldable pub chunk_codes : ℕ → ℕ → List ℕ → List ℕ
chunk_codes size n s = groups_codes size (groups_in size n) n s
