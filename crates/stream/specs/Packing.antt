-- For the contracts of the packing functions and the theorems about what they write: what pack accepts, and the room that suffices.
use Rattle.std.specs.Prelude.{◌≡◌, ℕ, ◌+◌, ◌*◌, ◌/◌, ◌^◌, ◌≤◌, ◌<◌, true, List, ltb, ℤ, length}
use Rattle.blocks.specs.Bytes.{Below}
use Rattle.stream.specs.Setting.{known_width, allowed_setting, setting_of, need, group_size}
use Rattle.stream.specs.Chunk.{groups_in}
use Rattle.stream.specs.Header.{chunks_in}
use Rattle.stream.specs.Rows.{Row, row}
use Rattle.stream.specs.Writing.{end_of, stream, Side, placed, add_sides, WellFormedSides}
use Rattle.stream.specs.declared.answers.Refusal.TheVariants.{NoRoom}
use Rattle.stream.specs.declared.setting.Setting.{Setting}

-- A list of values, W bits wide, with a written minor and a setting that a stream may have: the minor reaches the need. The levels that
-- pack takes are some of these minors (`known_level`); the others are those of later writers: "A stream from a later minor is read if its
-- need allows."
pub record Packable (W level mode : ℕ) (k : ℤ) (size : ℕ) (vs : List ℕ) : Type 0 where
  pub width : known_width W ≡ true
  pub minor : level < 2 ^ 32
  pub allowed : allowed_setting W mode k size ≡ true
  pub needs : need (setting_of W mode k size) ≤ level
  pub few : length vs ≤ 1048576
  pub patterns : Below (2 ^ W) vs

-- The bytes s of such a list as a reader may meet them: with these side parts, which are none or well-formed, behind the data, and with any number for the
-- needed minor, at 8. What pack wrote has the setting's own need there (`the_plain_stream`, `with_side_parts`).
pub record Sent (written : ℕ) (t : Setting) (vs : List ℕ) (sides : List Side) (needed : ℕ) (s : List ℕ) : Type 0 where
  pub well_formed : WellFormedSides (length (stream written t vs) + 12 * length sides) sides
  pub fits : needed < 2 ^ 32
  pub bytes : s ≡ placed 8 needed (add_sides (stream written t vs) sides)

-- "Packed length is never above 48 + 4c + (n/32 rounded up) + n·W/8", and "The length formula uses the size in place of 32" (R-6).
unfoldable pub most_bytes : Setting → ℕ → ℕ
most_bytes t n = 48 + 4 * chunks_in n + groups_in (group_size t) n + n * t.width / 8

-- 4, with the length by its end of data. A level alters it by the setting's rule for halves alone, and not as the written minor.
unfoldable pub short_row : Setting → List ℕ → ℕ → Row
short_row t vs room = row (NoRoom (end_of t vs (chunks_in (length vs)))) (ltb room (end_of t vs (chunks_in (length vs))))
