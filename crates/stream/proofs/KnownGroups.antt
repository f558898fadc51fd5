-- Groups, computed: where the codes of a group lie, in groups of 32 and of 128, what pack and length refuse as a setting, and groups that break a rule. A definition
-- that is wrong in one of these points would be met by code that is wrong in it too: these are the values by which to judge the definitions themselves.
use mathlib.Core.Path.{◌≡◌, refl}
use Prim.Native.Nat.{ℕ, ◌+◌, ◌-◌, ◌*◌, ◌^◌}
use mathlib.Core.List.{List, [], ◌∷◌, ◌++◌, map}
use lib.IntN.{pos, negsuc}
use lib.ListN.{length, replicate}
use lib.Ieee.{size}
use Rattle.bins.specs.Tolerance.{k_offset, last_bin, allowed_k, bin_of, sign, ordinal, significand, magnitude, threshold, threshold_ordinal, upper, halfway, nearest, near, magnitude_code, tolerance_code, largest_u}
use Rattle.numbers.specs.Signed.{signed_view, folded, bits_of}
use Rattle.numbers.specs.Lossless.{rotated, field, minus, lowered, stepped, lossless_code}
use Rattle.numbers.specs.Difference.{difference_code, difference_codes}
use Rattle.numbers.specs.Bound.{exponent_of}
use Rattle.blocks.specs.Bytes.{number, digits}
use Rattle.stream.specs.Group.{bytes_for, largest, width_of, packed, group_bytes, given_width, group_length, group_number, group_codes, within, good_group}
use Rattle.stream.specs.Setting.{highest_level, known_level, known_width, known_size, fraction_bits, lossless_mode, is_zero, allowed_mode, allowed_setting, bin_for, setting_of, halves_at, setting_at, width_need, mode_need, size_need, need, stream_need}
use Rattle.stream.specs.Setting.{mode_number, k_bits, group_size, clipped, code_at, codes_after, limit_of}
use Rattle.stream.specs.Chunk.{groups_in, groups_bytes, chunk_bytes, first_fault, chunk_answer}
use Rattle.stream.specs.Rows.{rows_from, first, answer}
use Rattle.stream.specs.Header.{word, header_of, k_of, chunks_in, too_many, need_right, setting_right, layout_right, said_mode, said_size}
use Rattle.stream.specs.Tables.{every, start_at, start_right, chunk_table_right, part_at, side_table_right, ids_from, ids_in, some_high}
use Rattle.stream.specs.Stream.{joined, count_of, chunk_of, chunk_state}
use Rattle.stream.specs.Writing.{spell, piece, piece_bytes, data_of, starts_of, header_numbers, end_of, body, stream}
use Rattle.stream.specs.Operations.{header_rows, opening_rows, need_row, side_rows, table_rows, fault_detail, fault_row, chunk_row, chunk_rows, content_rows, check_rows, check_answer, length_rows, length_answer}
use Rattle.std.specs.Prelude.{Result, Ok, Err}
use Rattle.stream.specs.declared.answers.Refusal.{Refusal}
use Rattle.stream.specs.declared.answers.Refusal.TheVariants.{NotAllowed, BrokenChunk}

-- ---- where codes lie

-- A stream of one chunk, without side parts: the minors, width, mode number and k, then the number of values and the data.
pub one_chunk : ℕ → ℕ → ℕ → ℕ → ℕ → ℕ → List ℕ → List ℕ
one_chunk written needed W mode k n coded = spell (1 ∷ written ∷ needed ∷ W ∷ mode ∷ k ∷ n ∷ 1 ∷ 48 ∷ 52 ∷ 0 ∷ (52 + length coded) ∷ 0 ∷ []) ++ coded

-- 129 values: the smallest number above 0 is the 34th, -0 the last, and the others are 0
pub scattered : ℕ → List ℕ
scattered W = replicate 33 0 ++ (1 ∷ replicate 94 0) ++ (2 ^ (W - 1) ∷ [])

-- In groups of 128 the first has codes of 3 bits, and the code 4 of the 34th value has bit 101 of its 48 bytes, in the 13th; -0 has the code 2, in a group alone.
pub scattered_data : List ℕ
scattered_data = (0x03 ∷ replicate 12 0) ++ (0x20 ∷ replicate 35 0) ++ (0x02 ∷ 0x02 ∷ [])

-- In groups of 32 it is bit 5 of the second group's 12 bytes.
pub short_data : List ℕ
short_data = (0x00 ∷ 0x03 ∷ 0x20 ∷ replicate 11 0) ++ (0x00 ∷ 0x00 ∷ 0x02 ∷ 0x02 ∷ [])

pub scattered_packed : map (λ (W : ℕ). stream 13 (setting_of W 0 (pos 0) 128) (scattered W)) (32 ∷ 64 ∷ [])
    ≡ map (λ (W : ℕ). one_chunk 13 13 W 256 0 129 scattered_data) (32 ∷ 64 ∷ [])
unfolding size signed_view folded bits_of rotated field minus lowered stepped lossless_code number digits bytes_for largest width_of packed group_bytes fraction_bits width_need mode_need size_need need k_bits bin_for group_size code_at codes_after groups_in groups_bytes chunk_bytes chunks_in joined spell piece piece_bytes data_of starts_of header_numbers mode_number end_of body stream one_chunk scattered scattered_data
scattered_packed = refl

pub scattered_in_32 : stream 8 (setting_of 32 0 (pos 0) 32) (scattered 32) ∷ stream 10 (setting_of 64 0 (pos 0) 32) (scattered 64) ∷ []
    ≡ one_chunk 8 8 32 0 0 129 short_data ∷ one_chunk 10 10 64 0 0 129 short_data ∷ []
unfolding size signed_view folded bits_of rotated field minus lowered stepped lossless_code number digits bytes_for largest width_of packed group_bytes fraction_bits width_need mode_need size_need need k_bits bin_for group_size code_at codes_after groups_in groups_bytes chunk_bytes chunks_in joined spell piece piece_bytes data_of starts_of header_numbers mode_number end_of body stream one_chunk scattered short_data
scattered_in_32 = refl

-- the differences of 5, 7, 7, 4 in a group of 128: mode number 258
pub differences_in_128 : stream 13 (setting_of 32 2 (pos 0) 128) (5 ∷ 7 ∷ 7 ∷ 4 ∷ []) ≡ one_chunk 13 13 32 258 0 4 (0x04 ∷ 0x4A ∷ 0x50 ∷ [])
unfolding size signed_view folded bits_of rotated field minus lowered stepped lossless_code number digits bytes_for largest width_of packed group_bytes fraction_bits width_need mode_need size_need need k_bits bin_for group_size code_at codes_after groups_in groups_bytes chunk_bytes chunks_in joined spell piece piece_bytes data_of starts_of header_numbers mode_number end_of body stream difference_code difference_codes one_chunk
differences_in_128 = refl

-- Within 2^-2, where the bin is 1/2 and the threshold 2^22: 1/4 has the code 2, as a half goes away from zero, or by a writer at level 14 the code 0, as it goes to
-- even; -3/4 has the code 5, and 2^22 - 2^-2, the last number below the threshold, 2^24, by both. They take 25 bits each.
pub quarters : List ℕ
quarters = 0x3E80_0000 ∷ 0xBF40_0000 ∷ 0x4A7F_FFFF ∷ []

pub their_codes : ℕ → List ℕ
their_codes code = 0x19 ∷ code ∷ 0x00 ∷ 0x00 ∷ 0x0A ∷ 0x00 ∷ 0x00 ∷ 0x00 ∷ 0x00 ∷ 0x00 ∷ 0x04 ∷ []

pub within_a_quarter : (size written needed mode code : ℕ) → Type 0
within_a_quarter size written needed mode code =
    stream written (setting_at written 32 1 (negsuc 1) size) quarters ≡ one_chunk written needed 32 mode 0xFFFF_FFFE 3 (their_codes code)

pub tolerance_packed :
    within_a_quarter 32 9 9 1 2 × within_a_quarter 32 13 9 1 2 × within_a_quarter 32 14 9 1 0
    × within_a_quarter 128 13 13 257 2 × within_a_quarter 128 14 13 257 0
unfolding size signed_view folded bits_of rotated field minus lowered stepped lossless_code number digits bytes_for largest width_of packed group_bytes fraction_bits width_need mode_need size_need need k_bits bin_for halves_at group_size code_at codes_after groups_in groups_bytes chunk_bytes chunks_in joined spell piece piece_bytes data_of starts_of header_numbers mode_number end_of body stream clipped k_offset last_bin bin_of exponent_of sign ordinal significand magnitude threshold threshold_ordinal upper halfway nearest near magnitude_code tolerance_code one_chunk within_a_quarter quarters their_codes
tolerance_packed = (refl, refl, refl, refl, refl)

-- In groups of 128, 1,024 zeros are 60 bytes, of either width and in each mode.
pub zeros_measured : map (λ (t : ℕ × ℕ). length (stream 13 (setting_of t.0 t.1 (pos 0) 128) (replicate 1024 0))) ((32, 0) ∷ (32, 1) ∷ (32, 2) ∷ (64, 0) ∷ (64, 1) ∷ (64, 2) ∷ []) ≡ replicate 6 60
unfolding size signed_view folded bits_of rotated field minus lowered stepped lossless_code number digits bytes_for largest width_of packed group_bytes fraction_bits width_need mode_need size_need need k_bits bin_for group_size code_at codes_after groups_in groups_bytes chunk_bytes chunks_in joined spell piece piece_bytes data_of starts_of header_numbers mode_number end_of body stream difference_code difference_codes clipped k_offset last_bin bin_of exponent_of sign ordinal significand magnitude threshold threshold_ordinal upper halfway nearest near magnitude_code tolerance_code
zeros_measured = refl

-- ---- which settings there are

-- what length answers of no values, at a level, in a mode with k = 0, in groups of a size
pub measured : ℕ → ℕ → ℕ → Result ℕ Refusal
measured level mode size = length_answer 32 level mode (pos 0) size []

-- "a group size, 32 or 128, which comes last"; "Another size is 2 when packing"
pub sizes_known : map (measured 13 0) (32 ∷ 128 ∷ []) ++ map (measured 13 0) (0 ∷ 1 ∷ 16 ∷ 31 ∷ 33 ∷ 64 ∷ 127 ∷ 129 ∷ 256 ∷ [])
    ≡ replicate 2 (Ok 48) ++ replicate 9 (Err NotAllowed)
unfolding size signed_view folded bits_of rotated field minus lowered stepped lossless_code number digits bytes_for largest width_of packed group_bytes fraction_bits width_need mode_need size_need need k_bits bin_for group_size code_at codes_after groups_in groups_bytes chunk_bytes chunks_in joined spell piece piece_bytes data_of starts_of header_numbers mode_number end_of body stream highest_level known_level lossless_mode is_zero allowed_mode known_size allowed_setting too_many first answer length_rows length_answer measured
sizes_known = refl

-- groups of 128 below level 13, mode numbers of a header, and mode 2 below level 11
pub settings_refused : map (λ (level : ℕ). measured level 0 128) (8 ∷ 9 ∷ 10 ∷ 11 ∷ 12 ∷ []) ++ (measured 13 256 32 ∷ measured 13 256 128 ∷ measured 13 3 128 ∷ measured 8 2 32 ∷ measured 10 2 32 ∷ [])
    ≡ replicate 10 (Err NotAllowed)
unfolding size signed_view folded bits_of rotated field minus lowered stepped lossless_code number digits bytes_for largest width_of packed group_bytes fraction_bits width_need mode_need size_need need k_bits bin_for group_size code_at codes_after groups_in groups_bytes chunk_bytes chunks_in joined spell piece piece_bytes data_of starts_of header_numbers mode_number end_of body stream highest_level known_level lossless_mode is_zero allowed_mode known_size allowed_setting too_many first answer length_rows length_answer measured
settings_refused = refl

-- ---- groups that break a rule, read at level 13

-- "refusal 10's detail keeps its 32": in the second chunk the second group has a width byte of 1, and no code of one bit
pub bad_second : ℕ → ℕ → ℕ → ℕ → List ℕ
bad_second needed mode n groups =
    spell (1 ∷ 13 ∷ needed ∷ 32 ∷ mode ∷ 0 ∷ n ∷ 2 ∷ 48 ∷ 56 ∷ 0 ∷ (56 + groups + 3) ∷ 0 ∷ groups ∷ []) ++ replicate groups 0 ++ (0x00 ∷ 0x01 ∷ 0x00 ∷ [])

pub detail_keeps_its_32 : check_answer 13 (bad_second 8 0 1057 32) ∷ check_answer 13 (bad_second 13 256 1153 8) ∷ [] ≡ replicate 2 (Err (BrokenChunk 33))
unfolding size signed_view folded bits_of number digits bytes_for largest width_of given_width group_length group_number group_codes within good_group highest_level known_level known_width fraction_bits width_need mode_need size_need need some_high stream_need lossless_mode is_zero allowed_setting allowed_mode known_size clipped bin_for group_size limit_of groups_in first_fault chunk_answer first answer word header_of k_of chunks_in too_many need_right setting_right said_mode said_size layout_right every start_at start_right chunk_table_right part_at side_table_right ids_from ids_in count_of chunk_of chunk_state spell header_rows opening_rows need_row side_rows table_rows fault_detail fault_row rows_from chunk_row chunk_rows content_rows check_rows check_answer k_offset last_bin allowed_k bin_of largest_u bad_second
detail_keeps_its_32 = refl

-- a width byte above that of the codes, a bit set behind the last code, a byte too many, and one too few, of three values; a byte too many behind 200 values
pub bad_groups : ℕ → ℕ → List (Result ℕ Refusal)
bad_groups needed mode =
    map (λ (coded : List ℕ). check_answer 13 (one_chunk 13 needed 32 mode 0 3 coded))
    ((0x03 ∷ 0x10 ∷ 0x01 ∷ []) ∷ (0x04 ∷ 0x20 ∷ 0x04 ∷ []) ∷ (0x03 ∷ 0x10 ∷ 0x03 ∷ []) ∷ (0x03 ∷ 0x10 ∷ 0x01 ∷ 0x00 ∷ []) ∷ (0x03 ∷ 0x10 ∷ []) ∷ [])

pub bad_groups_refused : bad_groups 8 0 ++ bad_groups 13 256 ++ (check_answer 13 (one_chunk 13 13 32 256 0 200 (0x00 ∷ 0x00 ∷ 0x00 ∷ [])) ∷ [])
    ≡ (Ok 3 ∷ replicate 4 (Err (BrokenChunk 0))) ++ (Ok 3 ∷ replicate 4 (Err (BrokenChunk 0))) ++ (Err (BrokenChunk 1) ∷ [])
unfolding size signed_view folded bits_of number digits bytes_for largest width_of given_width group_length group_number group_codes within good_group highest_level known_level known_width fraction_bits width_need mode_need size_need need some_high stream_need lossless_mode is_zero allowed_setting allowed_mode known_size clipped bin_for group_size limit_of groups_in first_fault chunk_answer first answer word header_of k_of chunks_in too_many need_right setting_right said_mode said_size layout_right every start_at start_right chunk_table_right part_at side_table_right ids_from ids_in count_of chunk_of chunk_state spell header_rows opening_rows need_row side_rows table_rows fault_detail fault_row rows_from chunk_row chunk_rows content_rows check_rows check_answer k_offset last_bin allowed_k bin_of largest_u one_chunk bad_groups
bad_groups_refused = refl

-- k = -2 in mode 257, one code of 31 bits: the largest u, 905,969,663, and the next
pub largest_u_read : map (λ (u : ℕ). check_answer 13 (one_chunk 13 13 32 257 0xFFFF_FFFE 1 (0x1F ∷ spell (2 * u ∷ [])))) (905969663 ∷ 905969664 ∷ []) ≡ Ok 1 ∷ Err (BrokenChunk 0) ∷ []
unfolding size signed_view folded bits_of number digits bytes_for largest width_of given_width group_length group_number group_codes within good_group highest_level known_level known_width fraction_bits width_need mode_need size_need need some_high stream_need lossless_mode is_zero allowed_setting allowed_mode known_size clipped bin_for group_size limit_of groups_in first_fault chunk_answer first answer word header_of k_of chunks_in too_many need_right setting_right said_mode said_size layout_right every start_at start_right chunk_table_right part_at side_table_right ids_from ids_in count_of chunk_of chunk_state spell header_rows opening_rows need_row side_rows table_rows fault_detail fault_row rows_from chunk_row chunk_rows content_rows check_rows check_answer k_offset last_bin allowed_k bin_of largest_u one_chunk
largest_u_read = refl
