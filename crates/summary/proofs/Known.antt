-- Known values of the summary, computed: entries written out byte by byte, both orders on patterns that are easily mistaken, and document 01's worked stream
-- (0, -0, 2^-149) with its summary: what is added, tested and listed, and each refusal that these operations have of their own.
use mathlib.Core.Path.{◌≡◌, refl}
use mathlib.Core.Bool.{true, false}
use mathlib.Core.List.{List, [], ◌∷◌, ◌++◌, map}
use Prim.Native.Nat.{ℕ}
use Rattle.bins.specs.Tolerance.{ordinal}
use Rattle.blocks.specs.Bytes.{number, digits}
use Rattle.numbers.specs.Lossless.{plus, raised, unstepped, unrotated, lossless_restored, field}
use Rattle.numbers.specs.Signed.{signed_view, folded, unfolded, bits_of}
use Rattle.stream.specs.Chunk.{groups_in, first_fault, chunk_answer, groups_codes, chunk_codes}
use Rattle.stream.specs.Group.{bytes_for, width_of, given_width, group_length, group_number, group_codes, within, good_group}
use Rattle.stream.specs.Header.{word, header_of, k_of, chunks_in, too_many, need_right, setting_right, layout_right, said_mode, said_size}
use Rattle.stream.specs.Operations.{header_rows, opening_rows, need_row, side_rows, table_rows, fault_detail, fault_row, chunk_row, chunk_rows, content_rows, width_row, id_row, check_rows, check_answer}
use Rattle.stream.specs.Rows.{first, answer, rows_from}
use Rattle.stream.specs.Setting.{highest_level, known_level, known_width, fraction_bits, width_need, mode_need, need, stream_need, lossless_mode, is_zero, allowed_setting, bin_for, group_size, limit_of, pattern_at, patterns_after, size_need, allowed_mode, known_size}
use Rattle.stream.specs.Stream.{joined, count_of, chunk_of, chunk_state, chunk_values}
use Rattle.stream.specs.Tables.{some_high, every, start_at, start_right, chunk_table_right, part_at, side_table_right, ids_from, ids_in, high_id, side_id, side_place, side_length, id_floor, entry_right}
use Rattle.stream.specs.Writing.{spell, entries, parts, placed, add_sides}
use lib.Ieee.{size}
use Rattle.stream.specs.Access.{has_id, entry_of, place_of, length_of, side_bytes}
use Rattle.std.specs.Prelude.{Ok, Err}
use Rattle.stream.specs.declared.answers.Refusal.TheVariants.{UnknownLevel, NotAllowed, NoRoom, OtherWidth, HasSideParts, NoTrueSummary}
use Rattle.stream.specs.Group as group
use Rattle.summary.specs.Order.{infinity_ordinal, not_a_number, rank, zero_or_minus_zero, at_least}
use Rattle.summary.specs.Entry.{nans_in, others, smallest_from, largest_from, smallest_in, largest_in, smallest, largest, entry_length, entry_bytes, holds}
use Rattle.summary.specs.Summary.{summary_id, chunk_entry, summary_in, summary, with_summary, same, summary_true, numbers_from, holds_in, chunks_from}
use Rattle.summary.specs.Operations.{sides_row, summary_row, room_for, add_rows, add_answer, test_rows, test_answer, x_row, list_rows, list_answer, list_out}

-- ---- one chunk: 1, -0, 0, a not-a-number and -2.5; both zeros, in both orders; not-a-numbers alone; both infinities; a subnormal below 0; none

abbrev entries_of : ℕ → ℕ → List (List ℕ) → List (List ℕ)
entries_of W m = map (entry_bytes W m)

pub entries_known32 :
    entries_of 32 23
    ((0x3F80_0000 ∷ 0x8000_0000 ∷ 0 ∷ 0x7FC0_0000 ∷ 0xC020_0000 ∷ [])
    ∷ (0 ∷ 0x8000_0000 ∷ []) ∷ (0x8000_0000 ∷ 0 ∷ []) ∷ (0xFFFF_FFFF ∷ 0x7F80_0001 ∷ []) ∷ (0xFF80_0000 ∷ 0x7F80_0000 ∷ []) ∷ (0x8000_0001 ∷ []) ∷ [] ∷ [])
    ≡ (1 ∷ 0 ∷ 0 ∷ 0 ∷ 0x00 ∷ 0x00 ∷ 0x20 ∷ 0xC0 ∷ 0x00 ∷ 0x00 ∷ 0x80 ∷ 0x3F ∷ [])
    ∷ (0 ∷ 0 ∷ 0 ∷ 0 ∷ 0 ∷ 0 ∷ 0 ∷ 0x80 ∷ 0 ∷ 0 ∷ 0 ∷ 0 ∷ [])
    ∷ (0 ∷ 0 ∷ 0 ∷ 0 ∷ 0 ∷ 0 ∷ 0 ∷ 0x80 ∷ 0 ∷ 0 ∷ 0 ∷ 0 ∷ [])
    ∷ (2 ∷ 0 ∷ 0 ∷ 0 ∷ 0 ∷ 0 ∷ 0 ∷ 0 ∷ 0 ∷ 0 ∷ 0 ∷ 0 ∷ [])
    ∷ (0 ∷ 0 ∷ 0 ∷ 0 ∷ 0x00 ∷ 0x00 ∷ 0x80 ∷ 0xFF ∷ 0x00 ∷ 0x00 ∷ 0x80 ∷ 0x7F ∷ [])
    ∷ (0 ∷ 0 ∷ 0 ∷ 0 ∷ 1 ∷ 0 ∷ 0 ∷ 0x80 ∷ 1 ∷ 0 ∷ 0 ∷ 0x80 ∷ [])
    ∷ (0 ∷ 0 ∷ 0 ∷ 0 ∷ 0 ∷ 0 ∷ 0 ∷ 0 ∷ 0 ∷ 0 ∷ 0 ∷ 0 ∷ [])
    ∷ []
unfolding ordinal infinity_ordinal not_a_number rank zero_or_minus_zero at_least nans_in others smallest_from largest_from smallest_in largest_in smallest largest entry_bytes number digits
entries_known32 = refl

pub entries_known64 :
    entries_of 64 52 ((0x3FF0_0000_0000_0000 ∷ 0xC004_0000_0000_0000 ∷ 0xFFF8_0000_0000_0001 ∷ 0x7FF0_0000_0000_0000 ∷ []) ∷ (0 ∷ 0x8000_0000_0000_0000 ∷ []) ∷ [])
    ≡ (1 ∷ 0 ∷ 0 ∷ 0 ∷ 0 ∷ 0 ∷ 0 ∷ 0 ∷ 0 ∷ 0 ∷ 0x04 ∷ 0xC0 ∷ 0 ∷ 0 ∷ 0 ∷ 0 ∷ 0 ∷ 0 ∷ 0xF0 ∷ 0x7F ∷ [])
    ∷ (0 ∷ 0 ∷ 0 ∷ 0 ∷ 0 ∷ 0 ∷ 0 ∷ 0 ∷ 0 ∷ 0 ∷ 0 ∷ 0x80 ∷ 0 ∷ 0 ∷ 0 ∷ 0 ∷ 0 ∷ 0 ∷ 0 ∷ 0 ∷ [])
    ∷ []
unfolding ordinal infinity_ordinal not_a_number rank zero_or_minus_zero at_least nans_in others smallest_from largest_from smallest_in largest_in smallest largest entry_bytes number digits
entries_known64 = refl

-- at least x, for x = 1, -1, 0 and -0, and a not-a-number: of 1, 2, -1, -2, 0, -0, infinity, -infinity and a not-a-number
pub compared_known :
    map (λ (x : ℕ). map (at_least 32 23 x) (0x3F80_0000 ∷ 0x4000_0000 ∷ 0xBF80_0000 ∷ 0xC000_0000 ∷ 0 ∷ 0x8000_0000 ∷ 0x7F80_0000 ∷ 0xFF80_0000 ∷ 0x7FC0_0000 ∷ []))
    (0x3F80_0000 ∷ 0xBF80_0000 ∷ 0 ∷ 0x8000_0000 ∷ 0x7FC0_0000 ∷ [])
    ≡ (true ∷ true ∷ false ∷ false ∷ false ∷ false ∷ true ∷ false ∷ false ∷ [])
    ∷ (true ∷ true ∷ true ∷ false ∷ true ∷ true ∷ true ∷ false ∷ false ∷ [])
    ∷ (true ∷ true ∷ false ∷ false ∷ true ∷ true ∷ true ∷ false ∷ false ∷ [])
    ∷ (true ∷ true ∷ false ∷ false ∷ true ∷ true ∷ true ∷ false ∷ false ∷ [])
    ∷ (false ∷ false ∷ false ∷ false ∷ false ∷ false ∷ false ∷ false ∷ false ∷ [])
    ∷ []
unfolding ordinal infinity_ordinal not_a_number rank zero_or_minus_zero at_least
compared_known = refl

-- ---- document 01's worked stream, of 55 bytes: s is 1, behind the data stand the entry 1 67 12 and the part 0, -0, 2^-149

pub their_stream : List ℕ
their_stream = spell (1 ∷ 8 ∷ 8 ∷ 32 ∷ 0 ∷ 0 ∷ 3 ∷ 1 ∷ 48 ∷ 52 ∷ 0 ∷ 55 ∷ 0 ∷ []) ++ (0x03 ∷ 0x10 ∷ 0x01 ∷ [])

pub their_copy : List ℕ
their_copy =
    spell (1 ∷ 8 ∷ 8 ∷ 32 ∷ 0 ∷ 0 ∷ 3 ∷ 1 ∷ 48 ∷ 52 ∷ 1 ∷ 55 ∷ 0 ∷ []) ++ (0x03 ∷ 0x10 ∷ 0x01 ∷ [])
    ++ spell (1 ∷ 67 ∷ 12 ∷ 0 ∷ 0x8000_0000 ∷ 1 ∷ [])

-- the largest is said to be 2 of 2^-149
pub their_lie : List ℕ
their_lie =
    spell (1 ∷ 8 ∷ 8 ∷ 32 ∷ 0 ∷ 0 ∷ 3 ∷ 1 ∷ 48 ∷ 52 ∷ 1 ∷ 55 ∷ 0 ∷ []) ++ (0x03 ∷ 0x10 ∷ 0x01 ∷ [])
    ++ spell (1 ∷ 67 ∷ 12 ∷ 0 ∷ 0x8000_0000 ∷ 2 ∷ [])

-- with further side parts: one with the id 0 before it, and one with the id 77 behind it
pub their_more : List ℕ
their_more =
    spell (1 ∷ 8 ∷ 8 ∷ 32 ∷ 0 ∷ 0 ∷ 3 ∷ 1 ∷ 48 ∷ 52 ∷ 3 ∷ 55 ∷ 0 ∷ []) ++ (0x03 ∷ 0x10 ∷ 0x01 ∷ [])
    ++ spell (0 ∷ 91 ∷ 1 ∷ 1 ∷ 92 ∷ 12 ∷ 77 ∷ 104 ∷ 2 ∷ []) ++ (9 ∷ []) ++ spell (0 ∷ 0x8000_0000 ∷ 1 ∷ []) ++ (8 ∷ 7 ∷ [])

pub copied_known : with_summary their_stream ≡ their_copy
unfolding size signed_view folded unfolded bits_of number digits plus raised unstepped unrotated lossless_restored field bytes_for group.largest width_of given_width group_length group_number group_codes within good_group highest_level known_level known_width fraction_bits width_need mode_need size_need need some_high stream_need lossless_mode is_zero allowed_setting allowed_mode known_size bin_for group_size limit_of pattern_at patterns_after groups_in first_fault chunk_answer groups_codes chunk_codes first answer word header_of k_of chunks_in too_many need_right setting_right said_mode said_size layout_right every start_at start_right chunk_table_right part_at side_table_right ids_from ids_in joined count_of chunk_of chunk_state chunk_values spell header_rows opening_rows need_row side_rows table_rows fault_detail fault_row rows_from chunk_row chunk_rows content_rows width_row high_id side_id side_place side_length id_floor entry_right id_row check_rows check_answer entries parts placed add_sides ordinal infinity_ordinal not_a_number rank zero_or_minus_zero at_least nans_in others smallest_from largest_from smallest_in largest_in smallest largest entry_length entry_bytes summary_id chunk_entry summary_in summary with_summary same summary_true numbers_from holds_in chunks_from their_stream their_copy
copied_known = refl

-- add: accepted in room for 79 bytes, 4 in 78, and 16 where the summary is there already
pub added_known :
    map (λ (room : ℕ). add_answer 10 their_stream room) (79 ∷ 78 ∷ []) ++ map (λ (room : ℕ). add_answer 10 their_copy room) (200 ∷ 0 ∷ []) ≡ Ok 79 ∷ Err (NoRoom 79) ∷ Err HasSideParts ∷ Err HasSideParts ∷ []
unfolding size signed_view folded unfolded bits_of number digits plus raised unstepped unrotated lossless_restored field bytes_for group.largest width_of given_width group_length group_number group_codes within good_group highest_level known_level known_width fraction_bits width_need mode_need size_need need some_high stream_need lossless_mode is_zero allowed_setting allowed_mode known_size bin_for group_size limit_of pattern_at patterns_after groups_in first_fault chunk_answer groups_codes chunk_codes first answer word header_of k_of chunks_in too_many need_right setting_right said_mode said_size layout_right every start_at start_right chunk_table_right part_at side_table_right ids_from ids_in joined count_of chunk_of chunk_state chunk_values spell header_rows opening_rows need_row side_rows table_rows fault_detail fault_row rows_from chunk_row chunk_rows content_rows width_row high_id side_id side_place side_length id_floor entry_right id_row check_rows check_answer entries parts placed add_sides ordinal infinity_ordinal not_a_number rank zero_or_minus_zero at_least nans_in others smallest_from largest_from smallest_in largest_in smallest largest entry_length entry_bytes summary_id chunk_entry summary_in summary with_summary same summary_true numbers_from holds_in chunks_from sides_row summary_row room_for add_rows add_answer test_rows test_answer x_row list_rows list_answer list_out has_id entry_of place_of length_of side_bytes their_stream their_copy
added_known = refl

-- test at levels 7 to 15; of a stream without a summary, of one that lies, and of one with further side parts
pub tested_known :
    map (λ (level : ℕ). test_answer level their_copy) (7 ∷ 8 ∷ 9 ∷ 10 ∷ 11 ∷ 12 ∷ 13 ∷ 14 ∷ 15 ∷ []) ++ map (test_answer 10) (their_stream ∷ their_lie ∷ their_more ∷ [])
    ≡ Err UnknownLevel ∷ Ok 3 ∷ Ok 3 ∷ Ok 3 ∷ Ok 3 ∷ Ok 3 ∷ Ok 3 ∷ Ok 3 ∷ Err UnknownLevel ∷ Err NoTrueSummary ∷ Err NoTrueSummary ∷ Ok 3 ∷ []
unfolding size signed_view folded unfolded bits_of number digits plus raised unstepped unrotated lossless_restored field bytes_for group.largest width_of given_width group_length group_number group_codes within good_group highest_level known_level known_width fraction_bits width_need mode_need size_need need some_high stream_need lossless_mode is_zero allowed_setting allowed_mode known_size bin_for group_size limit_of pattern_at patterns_after groups_in first_fault chunk_answer groups_codes chunk_codes first answer word header_of k_of chunks_in too_many need_right setting_right said_mode said_size layout_right every start_at start_right chunk_table_right part_at side_table_right ids_from ids_in joined count_of chunk_of chunk_state chunk_values spell header_rows opening_rows need_row side_rows table_rows fault_detail fault_row rows_from chunk_row chunk_rows content_rows width_row high_id side_id side_place side_length id_floor entry_right id_row check_rows check_answer entries parts placed add_sides ordinal infinity_ordinal not_a_number rank zero_or_minus_zero at_least nans_in others smallest_from largest_from smallest_in largest_in smallest largest entry_length entry_bytes summary_id chunk_entry summary_in summary with_summary same summary_true numbers_from holds_in chunks_from sides_row summary_row room_for add_rows add_answer test_rows test_answer x_row list_rows list_answer list_out has_id entry_of place_of length_of side_bytes their_stream their_copy their_lie their_more
tested_known = refl

-- list from 2^-149, from twice that, from 0, -0 and -infinity, and of a not-a-number; without room; by the other width; and of the one that lies, without room
pub listed_known :
    map (λ (x : ℕ). list_answer 32 8 x their_copy 1) (1 ∷ 2 ∷ 0 ∷ 0x8000_0000 ∷ 0xFF80_0000 ∷ 0x7FC0_0000 ∷ [])
    ++ (list_answer 32 8 1 their_copy 0 ∷ list_answer 64 8 1 their_copy 1 ∷ list_answer 32 8 1 their_lie 0 ∷ list_answer 32 7 0x7FC0_0000 their_copy 1 ∷ [])
    ≡ Ok 1 ∷ Ok 0 ∷ Ok 1 ∷ Ok 1 ∷ Ok 1 ∷ Err NotAllowed ∷ Err (NoRoom 1) ∷ Err OtherWidth ∷ Err NoTrueSummary ∷ Err UnknownLevel ∷ []
unfolding size signed_view folded unfolded bits_of number digits plus raised unstepped unrotated lossless_restored field bytes_for group.largest width_of given_width group_length group_number group_codes within good_group highest_level known_level known_width fraction_bits width_need mode_need size_need need some_high stream_need lossless_mode is_zero allowed_setting allowed_mode known_size bin_for group_size limit_of pattern_at patterns_after groups_in first_fault chunk_answer groups_codes chunk_codes first answer word header_of k_of chunks_in too_many need_right setting_right said_mode said_size layout_right every start_at start_right chunk_table_right part_at side_table_right ids_from ids_in joined count_of chunk_of chunk_state chunk_values spell header_rows opening_rows need_row side_rows table_rows fault_detail fault_row rows_from chunk_row chunk_rows content_rows width_row high_id side_id side_place side_length id_floor entry_right id_row check_rows check_answer entries parts placed add_sides ordinal infinity_ordinal not_a_number rank zero_or_minus_zero at_least nans_in others smallest_from largest_from smallest_in largest_in smallest largest entry_length entry_bytes holds summary_id chunk_entry summary_in summary with_summary same summary_true numbers_from holds_in chunks_from sides_row summary_row room_for add_rows add_answer test_rows test_answer x_row list_rows list_answer list_out has_id entry_of place_of length_of side_bytes their_stream their_copy their_lie
listed_known = refl
