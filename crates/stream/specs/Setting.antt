-- Document 01, "Levels", document 02, R-2, R-4, R-6 and R-7, and what a setting says of codes. A setting is a record of natural numbers (`Setting` of
-- src/setting.rt): a width, a mode, a bin, a group size and a rule for halves. It is made here, from the width, the mode, the k and the size of a call or of a
-- header, and for a writer from its level; all else is said of the record.
-- The number rules are those of the libraries `numbers` and `bins`.
use Rattle.std.specs.Prelude.{ℕ, ◌+◌, ◌-◌, ◌^◌, min, max, Bool, false, ◌&&◌, ◌||◌, cond, List, map, leb, eqb, ℤ, pos, negsuc}
use Rattle.numbers.specs.Signed.{bits_of}
use Rattle.numbers.specs.Lossless.{lossless_code, lossless_restored}
use Rattle.numbers.specs.Difference.{difference_codes, running_sums}
use Rattle.bins.specs.Tolerance.{allowed_k, bin_of, last_bin, tolerance_code, tolerance_restored, largest_u}
use Rattle.numbers.specs.Bound.{exponent_of}
use Rattle.stream.specs.declared.setting.Setting.{Setting}

-- "A level is a minor number": 8 to 14, since "1 .. follows this and each later level" (R-4)
unfoldable pub highest_level : ℕ
highest_level = 14

unfoldable pub known_level : ℕ → Bool
known_level level = leb 8 level && leb level highest_level

-- "W is the width, 32 or 64", and "With m fraction bits (23 or 52)"
unfoldable pub known_width : ℕ → Bool
known_width W = eqb W 32 || eqb W 64

unfoldable pub fraction_bits : ℕ → ℕ
fraction_bits W = cond (eqb W 32) 23 52

-- "a group size, 32 or 128" (R-6)
unfoldable pub known_size : ℕ → Bool
known_size size = eqb size 32 || eqb size 128

-- ---- the setting of a width, a mode, a k and a group size

-- the modes that lose nothing: 0, each pattern by itself, and 2, the differences
unfoldable pub lossless_mode : ℕ → Bool
lossless_mode mode = eqb mode 0 || eqb mode 2

-- not "mode or k not allowed (in mode 0 only k = 0 is)"; in mode 2 "k is 0, both widths"
unfoldable pub is_zero : ℤ → Bool
is_zero (pos n) = eqb n 0
is_zero (negsuc n) = false

unfoldable pub allowed_mode : ℕ → ℕ → ℤ → Bool
allowed_mode W mode k = cond (eqb mode 1) (allowed_k W (fraction_bits W) k) (lossless_mode mode && is_zero k)

-- and not "another size"
unfoldable pub allowed_setting : ℕ → ℕ → ℤ → ℕ → Bool
allowed_setting W mode k size = allowed_mode W mode k && known_size size

-- the bin: that of k in mode 1, and 0 in the others, which have none
unfoldable pub bin_for : ℕ → ℕ → ℤ → ℕ
bin_for W mode k = cond (eqb mode 1) (bin_of W (fraction_bits W) k) 0

-- as a reader has it, and for what does not depend on the rule for halves, which is 0 here whatever wrote the stream: no writer codes by this one
abbrev pub setting_of : ℕ → ℕ → ℤ → ℕ → Setting
setting_of W mode k size = record { width = W; mode = mode; bin = bin_for W mode k; size = size; halves = 0 }

-- "Writers at level 14 and later" send halves to even (1), "writers at 8 to 13 keep the old rule" (0), away from zero. It is the level told to pack that
-- decides, and not the need.
unfoldable pub halves_at : ℕ → ℕ
halves_at level = cond (leb 14 level) 1 0

-- a setting with a rule, and that of a writer at a level
abbrev pub ruled : ℕ → Setting → Setting
ruled halves t = record { width = t.width; mode = t.mode; bin = t.bin; size = t.size; halves = halves }

abbrev pub setting_at : ℕ → ℕ → ℕ → ℤ → ℕ → Setting
setting_at level W mode k size = ruled (halves_at level) (setting_of W mode k size)

-- ---- what a setting says

-- "Width 64 needs 10; else mode 1 needs 9; else 8", mode 2 "needs level 11", groups of 128 need "level 13", and "Where several needs apply, the largest
-- stands"
unfoldable pub width_need : ℕ → ℕ
width_need W = cond (eqb W 64) 10 8

unfoldable pub mode_need : ℕ → ℕ
mode_need mode = cond (eqb mode 1) 9 (cond (eqb mode 2) 11 8)

unfoldable pub size_need : ℕ → ℕ
size_need size = cond (eqb size 128) 13 8

unfoldable pub need : Setting → ℕ
need t = max (max (width_need t.width) (mode_need t.mode)) (size_need t.size)

-- the need of a stream, with a high id among those of its side parts (`high_id`) or without: "A stream with such an id needs level 12", and the
-- largest stands here too
unfoldable pub stream_need : Setting → Bool → ℕ
stream_need t high = cond high (max (need t) 12) (need t)

-- "k in two's complement (0 in mode 0)", and in mode 2 too: the number that the header has for it
unfoldable pub k_bits : Setting → ℕ
k_bits t = cond (eqb t.mode 1) (bits_of 32 (exponent_of t.width (fraction_bits t.width) t.bin)) 0

-- "In the header .. 256 is added to the mode number for 128"
unfoldable pub mode_number : Setting → ℕ
mode_number t = cond (eqb t.size 128) (t.mode + 256) t.mode

-- "It is cut into groups of 32", or of 128: the size of a group. One that is not allowed counts as 32, so that a chunk is cut into groups in any setting.
unfoldable pub group_size : Setting → ℕ
group_size t = cond (eqb t.size 128) 128 32

-- ---- the codes of a chunk's values, and the values of a chunk's codes

-- modes 0 and 1: the code of a pattern and the pattern of a code, each by itself (in mode 2 nothing asks them). A bin past the last counts as the last.
unfoldable pub clipped : Setting → ℕ
clipped t = min t.bin (last_bin t.width (fraction_bits t.width))

unfoldable pub code_at : Setting → ℕ → ℕ
code_at t p =
    cond (eqb t.mode 0) (lossless_code t.width (fraction_bits t.width) p) (tolerance_code t.width (fraction_bits t.width) t.halves (clipped t) p)

unfoldable pub pattern_at : Setting → ℕ → ℕ
pattern_at t c =
    cond (eqb t.mode 0) (lossless_restored t.width (fraction_bits t.width) c)
    (tolerance_restored t.width (fraction_bits t.width) (clipped t) c)

-- all modes, of values that stand behind the pattern `before`, which counts in mode 2 alone
unfoldable pub codes_after : Setting → ℕ → List ℕ → List ℕ
codes_after t before vs = cond (eqb t.mode 2) (difference_codes t.width before vs) (map (code_at t) vs)

unfoldable pub patterns_after : Setting → ℕ → List ℕ → List ℕ
patterns_after t before cs = cond (eqb t.mode 2) (running_sums t.width before cs) (map (pattern_at t) cs)

-- a whole chunk: "the first minus 0"
abbrev pub codes_of : Setting → List ℕ → List ℕ
codes_of t = codes_after t 0

abbrev pub patterns_of : Setting → List ℕ → List ℕ
patterns_of t = patterns_after t 0

-- "u above its largest": the largest u of mode 1; in the others every u of W - 1 bits is allowed
unfoldable pub limit_of : Setting → ℕ
limit_of t = cond (eqb t.mode 1) (largest_u t.width (fraction_bits t.width) (clipped t)) (2 ^ (t.width - 1) - 1)
