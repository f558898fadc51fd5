-- Document 01's worked stream, computed: "The list 0, -0, 2^-149, packed at level 8, mode 0, is 55 bytes: the numbers
-- 1 8 8 32 0 0 3 1 48 52 0 55, the table 0, then bytes 03 10 01." Every level accepts it. Then a stream of mode 2, and what each setting needs.
use mathlib.Core.Path.{◌≡◌, refl}
use mathlib.Core.Bool.{true}
use Prim.Native.Nat.{ℕ, ◌+◌, ◌*◌}
use mathlib.Core.List.{List, [], ◌∷◌, ◌++◌, map}
use lib.IntN.{pos}
use lib.ListN.{length, replicate}
use lib.Ieee.{size}
use Rattle.bins.specs.Tolerance.{k_offset, last_bin, allowed_k, bin_of, ordinal_of, threshold_ordinal, restored_ordinal, tolerance_restored, largest_u}
use Rattle.numbers.specs.Signed.{signed_view, folded, unfolded, bits_of}
use Rattle.numbers.specs.Lossless.{rotated, field, minus, lowered, stepped, lossless_code, plus, raised, unstepped, unrotated, lossless_restored}
use Rattle.numbers.specs.Difference.{difference_code, difference_codes, difference_restored, running_sums}
use Rattle.blocks.specs.Bytes.{number, digits}
use Rattle.stream.specs.Group.{bytes_for, largest, width_of, packed, group_bytes, given_width, group_length, group_number, group_codes, within, good_group}
use Rattle.stream.specs.Setting.{highest_level, known_level, known_width, fraction_bits, width_need, mode_need, need, stream_need, lossless_mode, is_zero, allowed_setting, bin_for, setting_of, k_bits, group_size, clipped, code_at, pattern_at, codes_after, patterns_after, limit_of, size_need, allowed_mode, known_size, mode_number}
use Rattle.stream.specs.Chunk.{groups_in, groups_bytes, chunk_bytes, first_fault, chunk_answer, groups_codes, chunk_codes}
use Rattle.stream.specs.Rows.{rows_from, first, answer, after}
use Rattle.stream.specs.Header.{word, header_of, k_of, chunks_in, too_many, need_right, setting_right, layout_right, said_mode, said_size}
use Rattle.stream.specs.Tables.{every, start_at, start_right, chunk_table_right, side_id, side_place, side_length, id_floor, part_at, entry_right, side_table_right, ids_from, ids_in, high_id, some_high}
use Rattle.stream.specs.Stream.{joined, count_of, chunk_of, chunk_state, chunk_values, values_in, values}
use Rattle.stream.specs.Writing.{spell, piece, piece_bytes, data_of, starts_of, header_numbers, end_of, body, stream, Side, entries, parts, placed, add_sides}
use Rattle.stream.specs.Operations.{header_rows, opening_rows, need_row, id_row, side_rows, table_rows, fault_detail, fault_row, chunk_row, chunk_rows, content_rows, width_row, check_rows, check_answer, room_row, unpack_rows, unpack_answer, unpack_out, index_row, own_rows, probe_rows, probe_answer32}
use Rattle.std.specs.Prelude.{Result, Ok, Err}
use Rattle.stream.specs.declared.answers.Refusal.{Refusal}
use Rattle.stream.specs.declared.answers.Refusal.TheVariants.{UnknownLevel, NoRoom, NeedsMinor, BrokenHeader, NoSuchIndex, OtherWidth, MustBeUnderstood}

pub three_values : List ℕ
three_values = 0 ∷ 0x8000_0000 ∷ 1 ∷ []

pub their_bytes : List ℕ
their_bytes = spell (1 ∷ 8 ∷ 8 ∷ 32 ∷ 0 ∷ 0 ∷ 3 ∷ 1 ∷ 48 ∷ 52 ∷ 0 ∷ 55 ∷ 0 ∷ []) ++ (0x03 ∷ 0x10 ∷ 0x01 ∷ [])

pub packed_known : stream 8 (setting_of 32 0 (pos 0) 32) three_values ≡ their_bytes
unfolding size signed_view folded bits_of rotated field minus lowered stepped lossless_code number digits bytes_for largest width_of packed group_bytes fraction_bits width_need mode_need size_need need k_bits bin_for group_size code_at codes_after groups_in groups_bytes chunk_bytes chunks_in joined spell piece piece_bytes data_of starts_of header_numbers mode_number end_of body stream three_values their_bytes
packed_known = refl

pub checked_known : map (λ (level : ℕ). check_answer level their_bytes) (8 ∷ 9 ∷ 10 ∷ 11 ∷ 12 ∷ 13 ∷ []) ≡ replicate 6 (Ok 3)
unfolding size signed_view folded bits_of number digits bytes_for largest width_of given_width group_length group_number group_codes within good_group highest_level known_level known_width fraction_bits width_need mode_need size_need need some_high stream_need lossless_mode is_zero allowed_setting allowed_mode known_size bin_for group_size limit_of groups_in first_fault chunk_answer first answer word header_of k_of chunks_in too_many need_right setting_right said_mode said_size layout_right every start_at start_right chunk_table_right part_at side_table_right ids_from ids_in count_of chunk_of chunk_state spell header_rows opening_rows need_row side_rows table_rows fault_detail fault_row rows_from chunk_row chunk_rows content_rows check_rows check_answer their_bytes
checked_known = refl

pub unpacked_known : unpack_out 32 10 their_bytes (7 ∷ 7 ∷ 7 ∷ 7 ∷ []) ≡ three_values ++ (7 ∷ [])
unfolding size signed_view folded unfolded bits_of number digits plus raised unstepped unrotated lossless_restored field bytes_for largest width_of given_width group_length group_number group_codes within good_group highest_level known_level known_width fraction_bits width_need mode_need size_need need some_high stream_need lossless_mode is_zero allowed_setting allowed_mode known_size bin_for group_size limit_of pattern_at patterns_after groups_in first_fault chunk_answer groups_codes chunk_codes first answer after word header_of k_of chunks_in too_many need_right setting_right said_mode said_size layout_right every start_at start_right chunk_table_right part_at side_table_right ids_from ids_in joined count_of chunk_of chunk_state chunk_values values_in values spell header_rows opening_rows need_row side_rows table_rows fault_detail fault_row rows_from chunk_row chunk_rows content_rows width_row room_row unpack_rows unpack_out three_values their_bytes
unpacked_known = refl

-- ---- mode 2, at level 11: 5, 7, 7, 4 are 4 bits each: 10, 4, 0, 5

pub four_values : List ℕ
four_values = 5 ∷ 7 ∷ 7 ∷ 4 ∷ []

pub their_differences : List ℕ
their_differences = spell (1 ∷ 11 ∷ 11 ∷ 32 ∷ 2 ∷ 0 ∷ 4 ∷ 1 ∷ 48 ∷ 52 ∷ 0 ∷ 55 ∷ 0 ∷ []) ++ (0x04 ∷ 0x4A ∷ 0x50 ∷ [])

pub differences_packed : stream 11 (setting_of 32 2 (pos 0) 32) four_values ≡ their_differences
unfolding size signed_view folded bits_of rotated field minus lowered stepped lossless_code number digits bytes_for largest width_of packed group_bytes fraction_bits width_need mode_need size_need need k_bits bin_for group_size code_at codes_after groups_in groups_bytes chunk_bytes chunks_in joined spell piece piece_bytes data_of starts_of header_numbers mode_number end_of body stream difference_code difference_codes four_values their_differences
differences_packed = refl

-- a reader of level 10 or below refuses it by 7, with detail 11
pub differences_checked : map (λ (level : ℕ). check_answer level their_differences) (8 ∷ 9 ∷ 10 ∷ 11 ∷ 12 ∷ 13 ∷ []) ≡ replicate 3 (Err (NeedsMinor 11)) ++ replicate 3 (Ok 4)
unfolding size signed_view folded bits_of number digits bytes_for largest width_of given_width group_length group_number group_codes within good_group highest_level known_level known_width fraction_bits width_need mode_need size_need need some_high stream_need lossless_mode is_zero allowed_setting allowed_mode known_size bin_for group_size limit_of groups_in first_fault chunk_answer first answer word header_of k_of chunks_in too_many need_right setting_right said_mode said_size layout_right every start_at start_right chunk_table_right part_at side_table_right ids_from ids_in count_of chunk_of chunk_state spell header_rows opening_rows need_row side_rows table_rows fault_detail fault_row rows_from chunk_row chunk_rows content_rows check_rows check_answer their_differences
differences_checked = refl

pub differences_unpacked : unpack_out 32 11 their_differences (9 ∷ 9 ∷ 9 ∷ 9 ∷ 9 ∷ []) ≡ four_values ++ (9 ∷ [])
unfolding size signed_view folded unfolded bits_of number digits plus raised unstepped unrotated lossless_restored field bytes_for largest width_of given_width group_length group_number group_codes within good_group highest_level known_level known_width fraction_bits width_need mode_need size_need need some_high stream_need lossless_mode is_zero allowed_setting allowed_mode known_size bin_for group_size limit_of pattern_at patterns_after groups_in first_fault chunk_answer groups_codes chunk_codes first answer after word header_of k_of chunks_in too_many need_right setting_right said_mode said_size layout_right every start_at start_right chunk_table_right part_at side_table_right ids_from ids_in joined count_of chunk_of chunk_state chunk_values values_in values spell header_rows opening_rows need_row side_rows table_rows fault_detail fault_row rows_from chunk_row chunk_rows content_rows width_row room_row unpack_rows unpack_out difference_restored running_sums four_values their_differences
differences_unpacked = refl

-- what each setting needs: widths 32 and 64, modes 0, 1 and 2, in groups of 32 and in groups of 128
pub six_modes : List (ℕ × ℕ)
six_modes = (32, 0) ∷ (32, 1) ∷ (32, 2) ∷ (64, 0) ∷ (64, 1) ∷ (64, 2) ∷ []

pub needs : ℕ → List ℕ
needs size = map (λ (t : ℕ × ℕ). need (setting_of t.0 t.1 (pos 0) size)) six_modes

pub needs_known : needs 32 ++ needs 128 ≡ (8 ∷ 9 ∷ 11 ∷ 10 ∷ 10 ∷ 11 ∷ []) ++ replicate 6 13
unfolding needs six_modes need width_need mode_need size_need
needs_known = refl

-- with a high id each needs 12, and in groups of 128 still 13
pub high_needs : ℕ → List ℕ
high_needs size = map (λ (t : ℕ × ℕ). stream_need (setting_of t.0 t.1 (pos 0) size) true) six_modes

pub high_needs_known : high_needs 32 ++ high_needs 128 ≡ replicate 6 12 ++ replicate 6 13
unfolding high_needs six_modes stream_need need width_need mode_need size_need
high_needs_known = refl

-- ---- side parts: document 01's list with two of them, the id 7 and another. With an id of 2^31 and the need 12 it is refused by every level, by 7 and from 12 on
-- by 15; with the setting's own need, 8, which is too small, it is refused by 8, and so it is with 12 where the id is lower, which is too great. 2^32 - 1 is high too.

pub with_ids : ℕ → ℕ → List ℕ
with_ids needed other =
    spell (1 ∷ 12 ∷ needed ∷ 32 ∷ 0 ∷ 0 ∷ 3 ∷ 1 ∷ 48 ∷ 52 ∷ 2 ∷ 55 ∷ 0 ∷ []) ++ (0x03 ∷ 0x10 ∷ 0x01 ∷ [])
    ++ spell (7 ∷ 79 ∷ 2 ∷ other ∷ 81 ∷ 1 ∷ []) ++ (1 ∷ 2 ∷ 3 ∷ [])

pub checked_all : List ℕ → List (Result ℕ Refusal)
checked_all s = map (λ (level : ℕ). check_answer level s) (8 ∷ 9 ∷ 10 ∷ 11 ∷ 12 ∷ 13 ∷ [])

pub high_id_checked : map checked_all (with_ids 12 0x8000_0000 ∷ with_ids 8 0x8000_0000 ∷ with_ids 8 0x7FFF_FFFF ∷ with_ids 12 0x7FFF_FFFF ∷ with_ids 12 0xFFFF_FFFF ∷ [])
    ≡ (replicate 4 (Err (NeedsMinor 12)) ++ replicate 2 (Err (MustBeUnderstood 0x8000_0000))) ∷ replicate 6 (Err BrokenHeader) ∷ replicate 6 (Ok 3) ∷ (replicate 4 (Err (NeedsMinor 12)) ++ replicate 2 (Err BrokenHeader))
    ∷ (replicate 4 (Err (NeedsMinor 12)) ++ replicate 2 (Err (MustBeUnderstood 0xFFFF_FFFF))) ∷ []
unfolding size signed_view folded bits_of number digits bytes_for largest width_of given_width group_length group_number group_codes within good_group highest_level known_level known_width fraction_bits width_need mode_need size_need need high_id some_high stream_need lossless_mode is_zero allowed_setting allowed_mode known_size bin_for group_size limit_of groups_in first_fault chunk_answer first answer word header_of k_of chunks_in too_many need_right setting_right said_mode said_size layout_right every start_at start_right chunk_table_right side_id side_place side_length id_floor part_at entry_right side_table_right ids_from ids_in count_of chunk_of chunk_state spell header_rows opening_rows need_row id_row side_rows table_rows fault_detail fault_row rows_from chunk_row chunk_rows content_rows check_rows check_answer checked_all with_ids
high_id_checked = refl

-- that is what pack at level 8 has written, with the parts added and both minors raised
two_parts : List Side
two_parts = record { id = 7; bytes = 1 ∷ 2 ∷ [] } ∷ record { id = 0x8000_0000; bytes = 3 ∷ [] } ∷ []

high_id_added : placed 8 12 (placed 4 12 (add_sides (stream 8 (setting_of 32 0 (pos 0) 32) three_values) two_parts)) ≡ with_ids 12 0x8000_0000
unfolding size signed_view folded bits_of rotated field minus lowered stepped lossless_code number digits bytes_for largest width_of packed group_bytes fraction_bits width_need mode_need size_need need k_bits bin_for group_size code_at codes_after groups_in groups_bytes chunk_bytes chunks_in joined spell piece piece_bytes data_of starts_of header_numbers mode_number end_of body stream three_values placed add_sides entries parts two_parts with_ids
high_id_added = refl

-- a need above that of the stream, at level 10, read by check, by unpack of the other width, with too little room and with enough, and by probe, at 0 and past the
-- end: behind 14, 4 and 11 it is 8
need_nine : List ℕ
need_nine = spell (1 ∷ 9 ∷ 9 ∷ 32 ∷ 0 ∷ 0 ∷ 3 ∷ 1 ∷ 48 ∷ 52 ∷ 0 ∷ 55 ∷ 0 ∷ []) ++ (0x03 ∷ 0x10 ∷ 0x01 ∷ [])

need_nine_read : check_answer 10 need_nine ∷ unpack_answer 64 10 need_nine 3 ∷ unpack_answer 32 10 need_nine 2 ∷ unpack_answer 32 10 need_nine 3 ∷ []
    ≡ Err BrokenHeader ∷ Err OtherWidth ∷ Err (NoRoom 3) ∷ Err BrokenHeader ∷ []
unfolding size signed_view folded bits_of number digits bytes_for largest width_of given_width group_length group_number group_codes within good_group highest_level known_level known_width fraction_bits width_need mode_need size_need need high_id some_high stream_need lossless_mode is_zero allowed_setting allowed_mode known_size bin_for group_size limit_of groups_in first_fault chunk_answer first answer word header_of k_of chunks_in too_many need_right setting_right said_mode said_size layout_right every start_at start_right chunk_table_right side_id side_place side_length id_floor part_at entry_right side_table_right ids_from ids_in count_of chunk_of chunk_state spell header_rows opening_rows need_row id_row side_rows table_rows fault_detail fault_row rows_from chunk_row chunk_rows content_rows check_rows check_answer width_row room_row unpack_rows unpack_answer need_nine
need_nine_read = refl

need_nine_probed : probe_answer32 10 need_nine 0 ∷ probe_answer32 10 need_nine 3 ∷ [] ≡ Err BrokenHeader ∷ Err NoSuchIndex ∷ []
unfolding size signed_view folded bits_of number digits bytes_for largest width_of given_width group_length group_number group_codes within good_group highest_level known_level known_width fraction_bits width_need mode_need size_need need high_id some_high stream_need lossless_mode is_zero allowed_setting allowed_mode known_size bin_for group_size limit_of groups_in first_fault chunk_answer first answer word header_of k_of chunks_in too_many need_right setting_right said_mode said_size layout_right every start_at start_right chunk_table_right side_id side_place side_length id_floor part_at entry_right side_table_right ids_from ids_in count_of chunk_of chunk_state spell header_rows opening_rows need_row id_row side_rows table_rows fault_detail fault_row rows_from chunk_row chunk_rows content_rows check_rows check_answer width_row index_row own_rows probe_rows probe_answer32 need_nine
need_nine_probed = refl

-- a need below that of the setting, at the level that this needs: mode 2 with 10 where it needs 11, and width 64 with 9 where it needs 10. It is 8 before all of these,
-- and so is a need above the written minor.
need_ten : List ℕ
need_ten = spell (1 ∷ 11 ∷ 10 ∷ 32 ∷ 2 ∷ 0 ∷ 4 ∷ 1 ∷ 48 ∷ 52 ∷ 0 ∷ 55 ∷ 0 ∷ []) ++ (0x04 ∷ 0x4A ∷ 0x50 ∷ [])

need_ten_read : check_answer 11 need_ten ∷ unpack_answer 64 11 need_ten 4 ∷ unpack_answer 32 11 need_ten 3 ∷ unpack_answer 32 11 need_ten 4 ∷ [] ≡ replicate 4 (Err BrokenHeader)
unfolding size signed_view folded bits_of number digits bytes_for largest width_of given_width group_length group_number group_codes within good_group highest_level known_level known_width fraction_bits width_need mode_need size_need need high_id some_high stream_need lossless_mode is_zero allowed_setting allowed_mode known_size bin_for group_size limit_of groups_in first_fault chunk_answer first answer word header_of k_of chunks_in too_many need_right setting_right said_mode said_size layout_right every start_at start_right chunk_table_right side_id side_place side_length id_floor part_at entry_right side_table_right ids_from ids_in count_of chunk_of chunk_state spell header_rows opening_rows need_row id_row side_rows table_rows fault_detail fault_row rows_from chunk_row chunk_rows content_rows check_rows check_answer width_row room_row unpack_rows unpack_answer need_ten
need_ten_read = refl

need_ten_probed : probe_answer32 11 need_ten 0 ∷ probe_answer32 11 need_ten 4 ∷ [] ≡ replicate 2 (Err BrokenHeader)
unfolding size signed_view folded bits_of number digits bytes_for largest width_of given_width group_length group_number group_codes within good_group highest_level known_level known_width fraction_bits width_need mode_need size_need need high_id some_high stream_need lossless_mode is_zero allowed_setting allowed_mode known_size bin_for group_size limit_of groups_in first_fault chunk_answer first answer word header_of k_of chunks_in too_many need_right setting_right said_mode said_size layout_right every start_at start_right chunk_table_right side_id side_place side_length id_floor part_at entry_right side_table_right ids_from ids_in count_of chunk_of chunk_state spell header_rows opening_rows need_row id_row side_rows table_rows fault_detail fault_row rows_from chunk_row chunk_rows content_rows check_rows check_answer width_row index_row own_rows probe_rows probe_answer32 need_ten
need_ten_probed = refl

need_nine64 : List ℕ
need_nine64 = spell (1 ∷ 10 ∷ 9 ∷ 64 ∷ 0 ∷ 0 ∷ 0 ∷ 0 ∷ 48 ∷ 48 ∷ 0 ∷ 48 ∷ [])

need_nine64_read : check_answer 10 need_nine64 ∷ unpack_answer 32 10 need_nine64 0 ∷ unpack_answer 64 10 need_nine64 0 ∷ [] ≡ replicate 3 (Err BrokenHeader)
unfolding size signed_view folded bits_of number digits bytes_for largest width_of given_width group_length group_number group_codes within good_group highest_level known_level known_width fraction_bits width_need mode_need size_need need high_id some_high stream_need lossless_mode is_zero allowed_setting allowed_mode known_size bin_for group_size limit_of groups_in first_fault chunk_answer first answer word header_of k_of chunks_in too_many need_right setting_right said_mode said_size layout_right every start_at start_right chunk_table_right side_id side_place side_length id_floor part_at entry_right side_table_right ids_from ids_in count_of chunk_of chunk_state spell header_rows opening_rows need_row id_row side_rows table_rows fault_detail fault_row rows_from chunk_row chunk_rows content_rows check_rows check_answer width_row room_row unpack_rows unpack_answer need_nine64
need_nine64_read = refl

-- the list with the high id, written 8 and needed 12
written_eight : List ℕ
written_eight = placed 4 8 (with_ids 12 0x8000_0000)

written_eight_read : check_answer 12 written_eight ∷ unpack_answer 64 12 written_eight 3 ∷ unpack_answer 32 12 written_eight 2 ∷ unpack_answer 32 12 written_eight 3 ∷ []
    ≡ replicate 4 (Err BrokenHeader)
unfolding size signed_view folded bits_of number digits bytes_for largest width_of given_width group_length group_number group_codes within good_group highest_level known_level known_width fraction_bits width_need mode_need size_need need high_id some_high stream_need lossless_mode is_zero allowed_setting allowed_mode known_size bin_for group_size limit_of groups_in first_fault chunk_answer first answer word header_of k_of chunks_in too_many need_right setting_right said_mode said_size layout_right every start_at start_right chunk_table_right side_id side_place side_length id_floor part_at entry_right side_table_right ids_from ids_in count_of chunk_of chunk_state spell header_rows opening_rows need_row id_row side_rows table_rows fault_detail fault_row rows_from chunk_row chunk_rows content_rows check_rows check_answer width_row room_row unpack_rows unpack_answer placed with_ids written_eight
written_eight_read = refl

-- Document 02, R-7: the stream of three halves that a writer at level 14 leaves (`tolerance_packed` of KnownGroups.antt). Level 8 refuses it by 7 with its need, and each
-- level from 9 on reads the same values: the half at 0.25 went to 0.
evens : List ℕ
evens =
    spell (1 ∷ 14 ∷ 9 ∷ 32 ∷ 1 ∷ 0xFFFF_FFFE ∷ 3 ∷ 1 ∷ 48 ∷ 52 ∷ 0 ∷ 63 ∷ 0 ∷ [])
    ++ (0x19 ∷ 0x00 ∷ 0x00 ∷ 0x00 ∷ 0x0A ∷ 0x00 ∷ 0x00 ∷ 0x00 ∷ 0x00 ∷ 0x00 ∷ 0x04 ∷ [])

evens_read : map (λ (level : ℕ). unpack_answer 32 level evens 3) (8 ∷ 9 ∷ 13 ∷ 14 ∷ 15 ∷ []) ≡ Err (NeedsMinor 9) ∷ Ok 3 ∷ Ok 3 ∷ Ok 3 ∷ Err UnknownLevel ∷ []
unfolding size signed_view folded unfolded bits_of number digits bytes_for largest width_of given_width group_length group_number group_codes within good_group highest_level known_level known_width fraction_bits width_need mode_need size_need need some_high stream_need lossless_mode is_zero allowed_setting allowed_mode known_size bin_for group_size limit_of clipped pattern_at patterns_after groups_in first_fault chunk_answer groups_codes chunk_codes first answer after word header_of k_of chunks_in too_many need_right setting_right said_mode said_size layout_right every start_at start_right chunk_table_right part_at side_table_right ids_from ids_in joined count_of chunk_of chunk_state chunk_values values_in values spell header_rows opening_rows need_row side_rows table_rows fault_detail fault_row rows_from chunk_row chunk_rows content_rows width_row room_row unpack_rows k_offset last_bin allowed_k bin_of largest_u ordinal_of threshold_ordinal restored_ordinal tolerance_restored evens unpack_answer
evens_read = refl

evens_unpacked : map (λ (level : ℕ). unpack_out 32 level evens (7 ∷ 7 ∷ 7 ∷ 7 ∷ [])) (9 ∷ 13 ∷ 14 ∷ []) ≡ replicate 3 (0x0000_0000 ∷ 0xBF80_0000 ∷ 0x4A80_0000 ∷ 7 ∷ [])
unfolding size signed_view folded unfolded bits_of number digits bytes_for largest width_of given_width group_length group_number group_codes within good_group highest_level known_level known_width fraction_bits width_need mode_need size_need need some_high stream_need lossless_mode is_zero allowed_setting allowed_mode known_size bin_for group_size limit_of clipped pattern_at patterns_after groups_in first_fault chunk_answer groups_codes chunk_codes first answer after word header_of k_of chunks_in too_many need_right setting_right said_mode said_size layout_right every start_at start_right chunk_table_right part_at side_table_right ids_from ids_in joined count_of chunk_of chunk_state chunk_values values_in values spell header_rows opening_rows need_row side_rows table_rows fault_detail fault_row rows_from chunk_row chunk_rows content_rows width_row room_row unpack_rows k_offset last_bin allowed_k bin_of largest_u ordinal_of threshold_ordinal restored_ordinal tolerance_restored evens unpack_out
evens_unpacked = refl

-- a need of 14, which no stream has: 8 at level 14, found after the tables, in groups of 32 and of 128; and 7 below it
need_fourteen : ℕ → List ℕ
need_fourteen mode = spell (1 ∷ 14 ∷ 14 ∷ 32 ∷ mode ∷ 0 ∷ 0 ∷ 0 ∷ 48 ∷ 48 ∷ 0 ∷ 48 ∷ [])

need_fourteen_read : map (λ (mode : ℕ). check_answer 14 (need_fourteen mode)) (0 ∷ 2 ∷ 256 ∷ 258 ∷ []) ++ (check_answer 13 (need_fourteen 256) ∷ []) ≡ replicate 4 (Err BrokenHeader) ++ (Err (NeedsMinor 14) ∷ [])
unfolding size signed_view folded bits_of number digits bytes_for largest width_of given_width group_length group_number group_codes within good_group highest_level known_level known_width fraction_bits width_need mode_need size_need need high_id some_high stream_need lossless_mode is_zero allowed_setting allowed_mode known_size bin_for group_size limit_of groups_in first_fault chunk_answer first answer word header_of k_of chunks_in too_many need_right setting_right said_mode said_size layout_right every start_at start_right chunk_table_right side_id side_place side_length id_floor part_at entry_right side_table_right ids_from ids_in count_of chunk_of chunk_state spell header_rows opening_rows need_row id_row side_rows table_rows fault_detail fault_row rows_from chunk_row chunk_rows content_rows check_rows check_answer need_fourteen
need_fourteen_read = refl

-- levels that are not known
levels_known : map (λ (level : ℕ). check_answer level their_bytes) (0 ∷ 7 ∷ 15 ∷ []) ≡ replicate 3 (Err UnknownLevel)
unfolding size signed_view folded bits_of number digits bytes_for largest width_of given_width group_length group_number group_codes within good_group highest_level known_level known_width fraction_bits width_need mode_need size_need need high_id some_high stream_need lossless_mode is_zero allowed_setting allowed_mode known_size bin_for group_size limit_of groups_in first_fault chunk_answer first answer word header_of k_of chunks_in too_many need_right setting_right said_mode said_size layout_right every start_at start_right chunk_table_right side_id side_place side_length id_floor part_at entry_right side_table_right ids_from ids_in count_of chunk_of chunk_state spell header_rows opening_rows need_row id_row side_rows table_rows fault_detail fault_row rows_from chunk_row chunk_rows content_rows check_rows check_answer width_row room_row unpack_rows unpack_answer their_bytes
levels_known = refl

-- The difference restarts at each chunk, and not at each group: of 1,025 sevens the first of each chunk has a code of 4 bits, in a group of 1 + 16 bytes
-- and in one of 1 + 1, and the 31 other groups have no bits.
pub sevens_measured : length (stream 11 (setting_of 32 2 (pos 0) 32) (replicate 1025 7)) ≡ 48 + 8 + (17 + 31) + 2
unfolding stream body spell header_numbers mode_number starts_of end_of data_of joined piece_bytes piece chunks_in need k_bits width_need mode_need size_need bits_of bin_for group_size chunk_bytes groups_bytes groups_in codes_after code_at fraction_bits lossless_code rotated stepped lowered minus field signed_view folded group_bytes width_of largest packed bytes_for digits number size difference_code difference_codes
sevens_measured = refl

-- ---- groups of 128, at level 13: of document 01's list the needed and the written minor are 13 and the mode number is 256, and the rest is what it was

pub their_long : List ℕ
their_long = spell (1 ∷ 13 ∷ 13 ∷ 32 ∷ 256 ∷ 0 ∷ 3 ∷ 1 ∷ 48 ∷ 52 ∷ 0 ∷ 55 ∷ 0 ∷ []) ++ (0x03 ∷ 0x10 ∷ 0x01 ∷ [])

pub long_packed : stream 13 (setting_of 32 0 (pos 0) 128) three_values ≡ their_long
unfolding size signed_view folded bits_of rotated field minus lowered stepped lossless_code number digits bytes_for largest width_of packed group_bytes fraction_bits width_need mode_need size_need need k_bits bin_for group_size code_at codes_after groups_in groups_bytes chunk_bytes chunks_in joined spell piece piece_bytes data_of starts_of header_numbers mode_number end_of body stream three_values their_long
long_packed = refl

-- a reader of level 12 or below refuses it by 7, with detail 13
pub long_checked : checked_all their_long ≡ replicate 5 (Err (NeedsMinor 13)) ++ (Ok 3 ∷ [])
unfolding size signed_view folded bits_of number digits bytes_for largest width_of given_width group_length group_number group_codes within good_group highest_level known_level known_width fraction_bits width_need mode_need size_need need some_high stream_need lossless_mode is_zero allowed_setting allowed_mode known_size bin_for group_size limit_of groups_in first_fault chunk_answer first answer word header_of k_of chunks_in too_many need_right setting_right said_mode said_size layout_right every start_at start_right chunk_table_right part_at side_table_right ids_from ids_in count_of chunk_of chunk_state spell header_rows opening_rows need_row side_rows table_rows fault_detail fault_row rows_from chunk_row chunk_rows content_rows check_rows check_answer checked_all their_long
long_checked = refl

-- mode numbers at level 13, width 32: the six that are allowed, with the need of each
pub with_mode : ℕ → ℕ → List ℕ
with_mode needed mode = spell (1 ∷ 13 ∷ needed ∷ 32 ∷ mode ∷ 0 ∷ 0 ∷ 0 ∷ 48 ∷ 48 ∷ 0 ∷ 48 ∷ [])

pub modes_checked : map (check_answer 13) (with_mode 8 0 ∷ with_mode 9 1 ∷ with_mode 11 2 ∷ with_mode 13 256 ∷ with_mode 13 257 ∷ with_mode 13 258 ∷ []) ≡ replicate 6 (Ok 0)
unfolding size signed_view folded bits_of number digits bytes_for largest width_of given_width group_length group_number group_codes within good_group highest_level known_level known_width fraction_bits width_need mode_need size_need need some_high stream_need lossless_mode is_zero allowed_setting allowed_mode known_size bin_for group_size limit_of groups_in first_fault chunk_answer first answer word header_of k_of chunks_in too_many need_right setting_right said_mode said_size layout_right every start_at start_right chunk_table_right part_at side_table_right ids_from ids_in count_of chunk_of chunk_state spell header_rows opening_rows need_row side_rows table_rows fault_detail fault_row rows_from chunk_row chunk_rows content_rows check_rows check_answer k_offset last_bin allowed_k bin_of largest_u with_mode
modes_checked = refl

-- "another size is .. 8 when read": another number, with any need, and so is 256 with a need of 12
pub other_modes : ℕ → List (Result ℕ Refusal)
other_modes needed = map (λ (mode : ℕ). check_answer 13 (with_mode needed mode)) (3 ∷ 32 ∷ 128 ∷ 255 ∷ 259 ∷ 384 ∷ 511 ∷ 512 ∷ 0xFFFF_FF00 ∷ [])

pub others_checked : other_modes 8 ++ other_modes 9 ++ other_modes 11 ++ other_modes 13 ++ (check_answer 13 (with_mode 12 256) ∷ []) ≡ replicate 37 (Err BrokenHeader)
unfolding size signed_view folded bits_of number digits bytes_for largest width_of given_width group_length group_number group_codes within good_group highest_level known_level known_width fraction_bits width_need mode_need size_need need some_high stream_need lossless_mode is_zero allowed_setting allowed_mode known_size bin_for group_size limit_of groups_in first_fault chunk_answer first answer word header_of k_of chunks_in too_many need_right setting_right said_mode said_size layout_right every start_at start_right chunk_table_right part_at side_table_right ids_from ids_in count_of chunk_of chunk_state spell header_rows opening_rows need_row side_rows table_rows fault_detail fault_row rows_from chunk_row chunk_rows content_rows check_rows check_answer k_offset last_bin allowed_k bin_of largest_u with_mode other_modes
others_checked = refl

-- In groups of 128, 1,024 zeros are 8 data bytes; of 1,025 sevens in mode 2 the first of each chunk has a code of 4 bits, in a group of 1 + 64 bytes and in one of
-- 1 + 1, and the 7 other groups have no bits.
pub long_measured : length (stream 13 (setting_of 32 0 (pos 0) 128) (replicate 1024 0)) ∷ length (stream 13 (setting_of 32 2 (pos 0) 128) (replicate 1025 7)) ∷ []
    ≡ (48 + 4 + 8) ∷ (48 + 8 + (65 + 7) + 2) ∷ []
unfolding stream body spell header_numbers mode_number starts_of end_of data_of joined piece_bytes piece chunks_in need k_bits width_need mode_need size_need bits_of bin_for group_size chunk_bytes groups_bytes groups_in codes_after code_at fraction_bits lossless_code rotated stepped lowered minus field signed_view folded group_bytes width_of largest packed bytes_for digits number size difference_code difference_codes
long_measured = refl

-- The pattern 00800000 has a code of 32 bits: a list of it is as long as a stream of its length gets, in groups of either size.
pub noisy_measured : map (λ (size : ℕ). length (stream 13 (setting_of 32 0 (pos 0) size) (replicate 130 0x0080_0000))) (32 ∷ 128 ∷ [])
    ≡ (48 + 4 + 5 + 130 * 4) ∷ (48 + 4 + 2 + 130 * 4) ∷ []
unfolding stream body spell header_numbers mode_number starts_of end_of data_of joined piece_bytes piece chunks_in need k_bits width_need mode_need size_need bits_of bin_for group_size chunk_bytes groups_bytes groups_in codes_after code_at fraction_bits lossless_code rotated stepped lowered minus field signed_view folded group_bytes width_of largest packed bytes_for digits number size difference_code difference_codes
noisy_measured = refl

-- "Lengths at level 8, mode 0: no values, 48 bytes; 1,024 zeros, 84; 1,025 values have two chunks."
pub lengths : List ℕ
lengths = length (stream 8 (setting_of 32 0 (pos 0) 32) []) ∷ length (stream 8 (setting_of 32 0 (pos 0) 32) (replicate 1024 0)) ∷ chunks_in 1025 ∷ []

pub lengths_known : lengths ≡ 48 ∷ 84 ∷ 2 ∷ []
unfolding lengths stream body spell header_numbers mode_number starts_of end_of data_of joined piece_bytes piece chunks_in need k_bits width_need mode_need size_need bits_of bin_for group_size chunk_bytes groups_bytes groups_in codes_after code_at fraction_bits lossless_code rotated stepped lowered minus field signed_view folded group_bytes width_of largest packed bytes_for digits number size
lengths_known = refl
