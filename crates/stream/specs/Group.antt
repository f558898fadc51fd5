-- Document 01, "The stream", of a group: "Its first byte w is the bit length of the group's largest code (0 if all are 0); then the
-- codes, w bits each, lowest bit first, filling each byte from its lowest bit, with zero bits to the next byte."
use Rattle.std.specs.Prelude.{ℕ, suc, ◌+◌, ◌*◌, ◌/◌, ◌^◌, max, Bool, Option, Some, None, true, ◌&&◌, cond, List, [], ◌∷◌, leb, ltb, eqb, length, take, drop, get_or}
use Rattle.std.specs.Float.Ieee.{size}
use Rattle.blocks.specs.Bytes.{number, digits}

-- "with zero bits to the next byte": how many bytes hold n codes of w bits each
unfoldable pub bytes_for : ℕ → ℕ → ℕ
bytes_for w n = (w * n + 7) / 8

-- "the group's largest code"
unfoldable pub largest : List ℕ → ℕ
largest [] = 0
largest (c ∷ cs) = max c (largest cs)

-- "the bit length of the group's largest code (0 if all are 0)"
unfoldable pub width_of : List ℕ → ℕ
width_of cs = size (largest cs)

-- "then the codes, w bits each, lowest bit first, filling each byte from its lowest bit": codes of w bits are the digits of one number
-- in base 2 ^ w, and the bytes are the digits of the same number in base 256. (`lowest_first` of the laws says it bit by bit.)
unfoldable pub packed : ℕ → List ℕ → List ℕ
packed w cs = digits 256 (bytes_for w (length cs)) (number (2 ^ w) cs)

-- the bytes of a group
unfoldable pub group_bytes : List ℕ → List ℕ
group_bytes cs = width_of cs ∷ packed (width_of cs) cs

-- ---- reading. s is what is left of the chunk's bytes, and n is how many codes the group has

-- "Its first byte w"
unfoldable pub given_width : List ℕ → ℕ
given_width s = get_or s 0 0

-- how many bytes the group has, its first byte counted
unfoldable pub group_length : ℕ → List ℕ → ℕ
group_length n s = suc (bytes_for (given_width s) n)

-- the number that the bytes after the first spell
unfoldable pub group_number : ℕ → List ℕ → ℕ
group_number n s = number 256 (take (bytes_for (given_width s) n) (drop 1 s))

-- the codes in it
unfoldable pub group_codes : ℕ → List ℕ → List ℕ
group_codes n s = digits (2 ^ given_width s) n (group_number n s)

-- not "u above its largest", for the largest u that is allowed: a code c has u = c / 2
unfoldable pub within : ℕ → List ℕ → Bool
within U [] = true
within U (c ∷ cs) = leb (c / 2) U && within U cs

-- not "w above W" and not "bytes missing": a group whose codes are there to be read
abbrev pub whole_group : ℕ → ℕ → List ℕ → Bool
whole_group W n s = leb (given_width s) W && leb (group_length n s) (length s)

-- Refusal 10, of one group: it is good when none of these holds: "w above W or not smallest, bytes missing .., a padding bit set, u above
-- its largest". Bytes left over are the chunk's to see, not the group's.
unfoldable pub good_group : ℕ → ℕ → ℕ → List ℕ → Bool
good_group W U n s =
    whole_group W n s
    && eqb (given_width s) (width_of (group_codes n s))
    && ltb (group_number n s) (2 ^ (given_width s * n))
    && within U (group_codes n s)

-- what the check of a group answers: how many bytes a good one has, and nothing of a bad one
unfoldable pub group_answer : ℕ → ℕ → ℕ → List ℕ → Option ℕ
group_answer W U n s = cond (good_group W U n s) (Some (group_length n s)) None
