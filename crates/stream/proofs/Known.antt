-- Values that document 01 gives, and the rules of refusal 10 at small groups, computed.
use Rattle.std.specs.Prelude.{Err}
use mathlib.Core.Path.{◌≡◌, refl}
use mathlib.Core.Bool.{Bool, true, false}
use mathlib.Core.List.{List, [], ◌∷◌, ◌++◌}
use Prim.Native.Nat.{ℕ, ◌*◌}
use lib.IntN.{pos, negsuc}
use lib.Ieee.{size}
use lib.ListN.{replicate}
use Rattle.numbers.specs.Signed.{signed_view, folded}
use Rattle.bins.specs.Tolerance.{k_offset, last_bin, bin_of, largest_u}
use Rattle.numbers.specs.Lossless.{rotated, field, minus, lowered, stepped, lossless_code}
use Rattle.blocks.specs.Bytes.{number, digits}
use Rattle.stream.specs.Group.{bytes_for, largest, width_of, packed, group_bytes, given_width, group_length, group_number, group_codes, within, good_group}
use Rattle.stream.specs.Setting.{fraction_bits, bin_for, setting_of, clipped, code_at, codes_after, codes_of, limit_of}
use Rattle.stream.specs.Chunk.{Verdict, groups_in, groups_bytes, chunk_bytes, first_fault, chunk_answer}

-- the list 0, -0, 2^-149, whose codes are 0, 2 and 4: "then bytes 03 10 01"
three_codes : group_bytes (0 ∷ 2 ∷ 4 ∷ []) ≡ 3 ∷ 16 ∷ 1 ∷ []
unfolding group_bytes width_of largest packed bytes_for digits number size
three_codes = refl

-- "0 if all are 0": a group of zeros is one byte
all_zero : group_bytes (replicate 32 0) ≡ 0 ∷ []
unfolding group_bytes width_of largest packed bytes_for digits number size
all_zero = refl

-- the largest u of a stream of width 32, mode 1, k = -2
most_u : ℕ
most_u = limit_of (setting_of 32 1 (negsuc 1) 32)

-- each row: the largest u, how many codes, the bytes; first two that are good, then one for each rule that a group can break at width 32
rows : List Bool
rows =
    good_group 32 2147483647 3 (3 ∷ 16 ∷ 1 ∷ [])
    ∷ good_group 32 most_u 1 (group_bytes (2 * 905969663 ∷ []))
    -- w above W
    ∷ good_group 32 2147483647 1 (33 ∷ 0 ∷ 0 ∷ 0 ∷ 0 ∷ 1 ∷ [])
    -- bytes missing
    ∷ good_group 32 2147483647 3 (3 ∷ 16 ∷ [])
    -- not smallest
    ∷ good_group 32 2147483647 3 (4 ∷ 32 ∷ 4 ∷ [])
    -- a padding bit set
    ∷ good_group 32 2147483647 3 (3 ∷ 16 ∷ 3 ∷ [])
    -- "u = 905969663 is read, 905969664 refused 10"
    ∷ good_group 32 most_u 1 (group_bytes (2 * 905969664 ∷ []))
    ∷ []

rules : rows ≡ true ∷ true ∷ false ∷ false ∷ false ∷ false ∷ false ∷ []
unfolding rows most_u limit_of bin_for clipped fraction_bits bin_of k_offset last_bin largest_u good_group within given_width group_length group_number group_codes group_bytes width_of largest packed bytes_for digits number size
rules = refl

-- The first bad group. Each row: how many values, and the bytes.
places : List Verdict
places =
    -- 1,024 values, 33 bytes of 0: one is left over behind the 32 groups; 993 values, which have 32 groups too; 40 values, which have two
    chunk_answer 32 2147483647 32 1024 (replicate 33 0)
    ∷ chunk_answer 32 2147483647 32 993 (replicate 33 0)
    ∷ chunk_answer 32 2147483647 32 40 (replicate 3 0)
    -- the second group is missing
    ∷ chunk_answer 32 2147483647 32 40 (0 ∷ [])
    -- w = 255 in group 3
    ∷ chunk_answer 32 2147483647 32 1024 (0 ∷ 0 ∷ 0 ∷ 255 ∷ replicate 28 0)
    -- a padding bit in group 0, and a byte left over
    ∷ chunk_answer 32 2147483647 32 3 (3 ∷ 16 ∷ 3 ∷ 0 ∷ [])
    -- "a bad u in group 2 comes before missing bytes in group 5" (in groups of one code)
    ∷ chunk_answer 32 most_u 1 6 (0 ∷ 0 ∷ group_bytes (2 * 905969664 ∷ []) ++ 0 ∷ 0 ∷ [])
    ∷ []

places_known : places ≡ Err 31 ∷ Err 31 ∷ Err 1 ∷ Err 1 ∷ Err 3 ∷ Err 0 ∷ Err 2 ∷ []
unfolding places chunk_answer first_fault groups_in most_u limit_of bin_for clipped fraction_bits bin_of k_offset last_bin largest_u good_group within given_width group_length group_number group_codes group_bytes width_of largest packed bytes_for digits number size
places_known = refl

-- the list itself, coded losslessly, as a chunk
three_values_lem : chunk_bytes 32 (codes_of (setting_of 32 0 (pos 0) 32) (0x00000000 ∷ 0x80000000 ∷ 0x00000001 ∷ [])) ≡ 3 ∷ 16 ∷ 1 ∷ []
unfolding chunk_bytes groups_bytes groups_in bin_for codes_after code_at fraction_bits lossless_code rotated stepped lowered minus field signed_view folded group_bytes width_of largest packed bytes_for digits number size
three_values_lem = refl

-- "1,024 zeros": 32 groups of one byte
zeros : chunk_bytes 32 (codes_of (setting_of 32 0 (pos 0) 32) (replicate 1024 0)) ≡ replicate 32 0
unfolding chunk_bytes groups_bytes groups_in bin_for codes_after code_at fraction_bits lossless_code rotated stepped lowered minus field signed_view folded group_bytes width_of largest packed bytes_for digits number size
zeros = refl
