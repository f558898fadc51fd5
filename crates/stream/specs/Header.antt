-- Document 01, "The stream": the header. Its rules are in two parts: what the setting decides, and how the bytes are laid out.
use Rattle.std.specs.Prelude.{ℕ, ◌+◌, ◌-◌, ◌*◌, ◌/◌, Bool, ◌&&◌, not, cond, List, leb, ltb, eqb, ℤ, take, drop}
use Rattle.numbers.specs.Signed.{signed_view}
use Rattle.blocks.specs.Bytes.{number}
use Rattle.stream.specs.Setting.{known_width, allowed_setting, setting_of, need}
use Rattle.stream.specs.declared.header.Header.{Header}
use Rattle.stream.specs.declared.setting.Setting.{Setting}

-- "All header and table numbers are 32-bit little-endian": the number at the byte place p
unfoldable pub word : List ℕ → ℕ → ℕ
word s p = number 256 (take 4 (drop p s))

-- the table "at | number"
unfoldable pub header_of : List ℕ → Header
header_of s =
    record {
      major = word s 0;
      written = word s 4;
      needed = word s 8;
      width = word s 12;
      mode = word s 16;
      exponent = word s 20;
      count = word s 24;
      chunks = word s 28;
      table = word s 32;
      start = word s 36;
      sides = word s 40;
      end = word s 44;
    }

-- "k in two's complement"
unfoldable pub k_of : Header → ℤ
k_of h = signed_view 32 h.exponent

-- Document 02, R-6: "In the header .. 256 is added to the mode number for 128". So this is the mode that a number says, and the group size; but for 0, 1, 2,
-- 256, 257 and 258, it says a mode that is not allowed.
unfoldable pub said_mode : ℕ → ℕ
said_mode number = cond (ltb number 256) number (number - 256)

unfoldable pub said_size : ℕ → ℕ
said_size number = cond (ltb number 256) 32 128

-- the header's setting
abbrev pub setting_in : Header → Setting
setting_in h = setting_of h.width (said_mode h.mode) (k_of h) (said_size h.mode)

-- "chunk count c = n/1024 rounded up"
unfoldable pub chunks_in : ℕ → ℕ
chunks_in n = (n + 1023) / 1024

-- "more than 1,048,576 values"
unfoldable pub too_many : ℕ → Bool
too_many n = ltb 1048576 n

-- ---- refusal 8

-- not "need below 8 or not that of the setting, written below needed". Since document 02, R-4, the need "must only be at least the setting's" here: it
-- "is compared for equality after the tables have passed" (`need_row`).
unfoldable pub need_right : Header → Bool
need_right h = leb 8 h.needed && leb (need (setting_in h)) h.needed && leb h.needed h.written

-- and "width, mode, k"
unfoldable pub setting_right : Header → Bool
setting_right h =
    known_width h.width && need_right h
    && allowed_setting h.width (said_mode h.mode) (k_of h) (said_size h.mode)

-- "n above the limit, c, places, s, end of data before its start or past the bytes": none of these, in a stream of so many bytes
unfoldable pub layout_right : ℕ → Header → Bool
layout_right size h =
    not (too_many h.count)
    && eqb h.chunks (chunks_in h.count)
    && eqb h.table 48
    && eqb h.start (48 + 4 * h.chunks)
    && leb h.sides 64
    && leb h.start h.end
    && leb h.end size
