-- Document 01's worked listing, computed from the definitions, with a refusal and a negative k.
use mathlib.Core.Path.{◌≡◌, refl}
use Prim.Native.Nat.{ℕ}
use mathlib.Core.List.{List, [], ◌∷◌, ◌++◌}
use lib.ListN.{replicate}
use lib.Ieee.{size}
use Rattle.numbers.specs.Signed.{signed_view}
use Rattle.bins.specs.Tolerance.{k_offset, last_bin, allowed_k, bin_of, largest_u}
use Rattle.blocks.specs.Bytes.{number, digits}
use Rattle.stream.specs.Group.{bytes_for, largest, width_of, given_width, group_length, group_number, group_codes, within, good_group}
use Rattle.stream.specs.Setting.{highest_level, known_level, known_width, fraction_bits, width_need, mode_need, need, stream_need, lossless_mode, is_zero, allowed_setting, bin_for, group_size, limit_of, size_need, allowed_mode, known_size}
use Rattle.stream.specs.Chunk.{groups_in, first_fault, chunk_answer}
use Rattle.stream.specs.Rows.{rows_from, first, answer}
use Rattle.stream.specs.Header.{word, header_of, k_of, chunks_in, too_many, need_right, setting_right, layout_right, said_mode, said_size}
use Rattle.stream.specs.Tables.{every, start_at, start_right, chunk_table_right, part_at, side_table_right, ids_from, ids_in, some_high}
use Rattle.stream.specs.Stream.{joined, count_of, chunk_of, chunk_state}
use Rattle.stream.specs.Writing.{spell}
use Rattle.stream.specs.Operations.{header_rows, opening_rows, need_row, side_rows, table_rows, fault_detail, fault_row, chunk_row, chunk_rows, content_rows, check_rows, check_answer}
use Rattle.stream.specs.Listing.{most_input, digit, decimal_in, decimal, minus, signed_decimal, newline, point, format_word, needs_word}
use Rattle.stream.specs.Listing.{width_word, mode_word, bound_word, values_word, chunks_word, sides_word, chunk_word, at_word, bytes_word, groups_word}
use Rattle.stream.specs.Listing.{refused_word, detail_word, labelled, format_line, setting_line, count_line, chunk_line, stream_lines, refused_line}
use Rattle.stream.specs.Listing.{answer_lines, listing}

-- the four lines of document 01: `format 1.8 needs 1.8`, `width 32 mode 0 bound 0`, `values 3 chunks 1 sides 0`, `chunk 0 at 0 bytes 3 groups 1`
pub three_text : List ℕ
three_text =
    (102 ∷ 111 ∷ 114 ∷ 109 ∷ 97 ∷ 116 ∷ 32 ∷ 49 ∷ 46 ∷ 56 ∷ 32 ∷ 110 ∷ 101 ∷ 101 ∷ 100 ∷ 115 ∷ 32 ∷ 49 ∷ 46 ∷ 56 ∷ 10 ∷ [])
    ++ (119 ∷ 105 ∷ 100 ∷ 116 ∷ 104 ∷ 32 ∷ 51 ∷ 50 ∷ 32 ∷ 109 ∷ 111 ∷ 100 ∷ 101 ∷ 32 ∷ 48 ∷ 32 ∷ 98 ∷ 111 ∷ 117 ∷ 110 ∷ 100 ∷ 32 ∷ 48 ∷ 10 ∷ [])
    ++ (118 ∷ 97 ∷ 108 ∷ 117 ∷ 101 ∷ 115 ∷ 32 ∷ 51 ∷ 32 ∷ 99 ∷ 104 ∷ 117 ∷ 110 ∷ 107 ∷ 115 ∷ 32 ∷ 49 ∷ 32 ∷ 115 ∷ 105
    ∷ 100 ∷ 101 ∷ 115 ∷ 32 ∷ 48 ∷ 10 ∷ [])
    ++ (99 ∷ 104 ∷ 117 ∷ 110 ∷ 107 ∷ 32 ∷ 48 ∷ 32 ∷ 97 ∷ 116 ∷ 32 ∷ 48 ∷ 32 ∷ 98 ∷ 121 ∷ 116 ∷ 101 ∷ 115 ∷ 32 ∷ 51 ∷ 32
    ∷ 103 ∷ 114 ∷ 111 ∷ 117 ∷ 112 ∷ 115 ∷ 32 ∷ 49 ∷ 10 ∷ [])

-- "the numbers 1 8 8 32 0 0 3 1 48 52 0 55, the table 0, then bytes 03 10 01. It prints, whole:"
pub three_listed : listing (spell (1 ∷ 8 ∷ 8 ∷ 32 ∷ 0 ∷ 0 ∷ 3 ∷ 1 ∷ 48 ∷ 52 ∷ 0 ∷ 55 ∷ 0 ∷ []) ++ (0x03 ∷ 0x10 ∷ 0x01 ∷ []))
    ≡ three_text
unfolding size signed_view number digits bytes_for largest width_of given_width group_length group_number group_codes within good_group highest_level known_level known_width fraction_bits width_need mode_need size_need need some_high stream_need lossless_mode is_zero allowed_setting allowed_mode known_size bin_for group_size limit_of groups_in first_fault chunk_answer first answer word header_of k_of chunks_in too_many need_right setting_right said_mode said_size layout_right every start_at start_right chunk_table_right part_at side_table_right ids_from ids_in joined count_of chunk_of chunk_state spell header_rows opening_rows need_row side_rows table_rows fault_detail fault_row rows_from chunk_row chunk_rows content_rows check_rows check_answer most_input digit decimal_in decimal minus signed_decimal newline point format_word needs_word width_word mode_word bound_word values_word chunks_word sides_word chunk_word at_word bytes_word groups_word refused_word detail_word labelled format_line setting_line count_line chunk_line stream_lines refused_line answer_lines listing three_text
three_listed = refl

-- `format 1.9 needs 1.9`, `width 32 mode 1 bound -2`, `values 0 chunks 0 sides 0`
pub none_text : List ℕ
none_text =
    (102 ∷ 111 ∷ 114 ∷ 109 ∷ 97 ∷ 116 ∷ 32 ∷ 49 ∷ 46 ∷ 57 ∷ 32 ∷ 110 ∷ 101 ∷ 101 ∷ 100 ∷ 115 ∷ 32 ∷ 49 ∷ 46 ∷ 57 ∷ 10 ∷ [])
    ++ (119 ∷ 105 ∷ 100 ∷ 116 ∷ 104 ∷ 32 ∷ 51 ∷ 50 ∷ 32 ∷ 109 ∷ 111 ∷ 100 ∷ 101 ∷ 32 ∷ 49 ∷ 32 ∷ 98 ∷ 111 ∷ 117 ∷ 110 ∷ 100 ∷ 32 ∷ 45 ∷ 50 ∷ 10 ∷ [])
    ++ (118 ∷ 97 ∷ 108 ∷ 117 ∷ 101 ∷ 115 ∷ 32 ∷ 48 ∷ 32 ∷ 99 ∷ 104 ∷ 117 ∷ 110 ∷ 107 ∷ 115 ∷ 32 ∷ 48 ∷ 32 ∷ 115 ∷ 105
    ∷ 100 ∷ 101 ∷ 115 ∷ 32 ∷ 48 ∷ 10 ∷ [])

-- no values, in mode 1 with k = -2
pub none_listed : listing (spell (1 ∷ 9 ∷ 9 ∷ 32 ∷ 1 ∷ 4294967294 ∷ 0 ∷ 0 ∷ 48 ∷ 48 ∷ 0 ∷ 48 ∷ [])) ≡ none_text
unfolding size signed_view number digits bytes_for largest width_of given_width group_length group_number group_codes within good_group highest_level known_level known_width fraction_bits width_need mode_need size_need need some_high stream_need lossless_mode is_zero allowed_setting allowed_mode known_size bin_for group_size limit_of groups_in first_fault chunk_answer first answer word header_of k_of chunks_in too_many need_right setting_right said_mode said_size layout_right every start_at start_right chunk_table_right part_at side_table_right ids_from ids_in joined count_of chunk_of chunk_state spell header_rows opening_rows need_row side_rows table_rows fault_detail fault_row rows_from chunk_row chunk_rows content_rows check_rows check_answer most_input digit decimal_in decimal minus signed_decimal newline point format_word needs_word width_word mode_word bound_word values_word chunks_word sides_word chunk_word at_word bytes_word groups_word refused_word detail_word labelled format_line setting_line count_line chunk_line stream_lines refused_line answer_lines listing k_offset last_bin allowed_k bin_of largest_u none_text
none_listed = refl

-- `format 1.13 needs 1.13`, `width 32 mode 256 bound 0`, `values 1024 chunks 1 sides 0`, `chunk 0 at 0 bytes 8 groups 8`
pub long_text : List ℕ
long_text =
    (102 ∷ 111 ∷ 114 ∷ 109 ∷ 97 ∷ 116 ∷ 32 ∷ 49 ∷ 46 ∷ 49 ∷ 51 ∷ 32 ∷ 110 ∷ 101 ∷ 101 ∷ 100 ∷ 115 ∷ 32 ∷ 49 ∷ 46 ∷ 49 ∷ 51 ∷ 10 ∷ [])
    ++ (119 ∷ 105 ∷ 100 ∷ 116 ∷ 104 ∷ 32 ∷ 51 ∷ 50 ∷ 32 ∷ 109 ∷ 111 ∷ 100 ∷ 101 ∷ 32 ∷ 50 ∷ 53 ∷ 54 ∷ 32 ∷ 98 ∷ 111 ∷ 117 ∷ 110 ∷ 100 ∷ 32 ∷ 48 ∷ 10 ∷ [])
    ++ (118 ∷ 97 ∷ 108 ∷ 117 ∷ 101 ∷ 115 ∷ 32 ∷ 49 ∷ 48 ∷ 50 ∷ 52 ∷ 32 ∷ 99 ∷ 104 ∷ 117 ∷ 110 ∷ 107 ∷ 115 ∷ 32 ∷ 49 ∷ 32 ∷ 115 ∷ 105 ∷ 100 ∷ 101 ∷ 115 ∷ 32 ∷ 48 ∷ 10 ∷ [])
    ++ (99 ∷ 104 ∷ 117 ∷ 110 ∷ 107 ∷ 32 ∷ 48 ∷ 32 ∷ 97 ∷ 116 ∷ 32 ∷ 48 ∷ 32 ∷ 98 ∷ 121 ∷ 116 ∷ 101 ∷ 115 ∷ 32 ∷ 56 ∷ 32 ∷ 103 ∷ 114 ∷ 111 ∷ 117 ∷ 112 ∷ 115 ∷ 32 ∷ 56 ∷ 10 ∷ [])

-- 1,024 zeros in groups of 128: "In the header and the listing 256 is added to the mode number"
pub long_listed : listing (spell (1 ∷ 13 ∷ 13 ∷ 32 ∷ 256 ∷ 0 ∷ 1024 ∷ 1 ∷ 48 ∷ 52 ∷ 0 ∷ 60 ∷ 0 ∷ []) ++ replicate 8 0) ≡ long_text
unfolding size signed_view number digits bytes_for largest width_of given_width group_length group_number group_codes within good_group highest_level known_level known_width fraction_bits width_need mode_need size_need need some_high stream_need lossless_mode is_zero allowed_setting allowed_mode known_size bin_for group_size limit_of groups_in first_fault chunk_answer first answer word header_of k_of chunks_in too_many need_right setting_right said_mode said_size layout_right every start_at start_right chunk_table_right part_at side_table_right ids_from ids_in joined count_of chunk_of chunk_state spell header_rows opening_rows need_row side_rows table_rows fault_detail fault_row rows_from chunk_row chunk_rows content_rows check_rows check_answer most_input digit decimal_in decimal minus signed_decimal newline point format_word needs_word width_word mode_word bound_word values_word chunks_word sides_word chunk_word at_word bytes_word groups_word refused_word detail_word labelled format_line setting_line count_line chunk_line stream_lines refused_line answer_lines listing k_offset last_bin allowed_k bin_of largest_u long_text
long_listed = refl

-- `refused 7 detail 15`
pub refused_text : List ℕ
refused_text =
    (114 ∷ 101 ∷ 102 ∷ 117 ∷ 115 ∷ 101 ∷ 100 ∷ 32 ∷ 55 ∷ 32 ∷ 100 ∷ 101 ∷ 116 ∷ 97 ∷ 105 ∷ 108 ∷ 32 ∷ 49 ∷ 53 ∷ 10 ∷ [])

-- a stream that needs 1.15
pub refused_listed : listing (spell (1 ∷ 15 ∷ 15 ∷ 32 ∷ 0 ∷ 0 ∷ 0 ∷ 0 ∷ 48 ∷ 48 ∷ 0 ∷ 48 ∷ [])) ≡ refused_text
unfolding size signed_view number digits bytes_for largest width_of given_width group_length group_number group_codes within good_group highest_level known_level known_width fraction_bits width_need mode_need size_need need some_high stream_need lossless_mode is_zero allowed_setting allowed_mode known_size bin_for group_size limit_of groups_in first_fault chunk_answer first answer word header_of k_of chunks_in too_many need_right setting_right said_mode said_size layout_right every start_at start_right chunk_table_right part_at side_table_right ids_from ids_in joined count_of chunk_of chunk_state spell header_rows opening_rows need_row side_rows table_rows fault_detail fault_row rows_from chunk_row chunk_rows content_rows check_rows check_answer most_input digit decimal_in decimal minus signed_decimal newline point format_word needs_word width_word mode_word bound_word values_word chunks_word sides_word chunk_word at_word bytes_word groups_word refused_word detail_word labelled format_line setting_line count_line chunk_line stream_lines refused_line answer_lines listing refused_text
refused_listed = refl
