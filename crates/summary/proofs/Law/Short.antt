-- An accepted stream without side parts is short: a chunk has at most 32 groups of at most 257 bytes, and there are at most 1,024 chunks. So the place of
-- a part behind it is a number of 32 bits.
use mathlib.Core.Path.{◌≡◌, ap}
use mathlib.Core.Bool.{true}
use mathlib.Core.List.{List}
use Prim.Native.Nat.{ℕ, zero, suc, ◌+◌, ◌-◌, ◌*◌, ◌^◌, ◌≤◌, ◌<◌}
use native.Mathlib.Nat.{lt_of_lt_of_le}
use native.Mathlib.Numerals.{add-one}
use native.Mathlib.Omega.{arith}
use borrow.Author.Tests.{le-ltb, eqb-true}
use lib.Dec.{eqb}
use lib.ListN.{length, drop, length-drop}
use lib.Pow.{pow_mono}
use lib.Seq.{length-take-le}
use Rattle.blocks.specs.Bytes.{Below}
use Rattle.blocks.proofs.Law.Digits.{below_take, below_drop}
use Rattle.stream.specs.Setting.{known_width, group_size, limit_of}
use Rattle.stream.specs.Chunk.{good, groups_in, chunk_codes}
use Rattle.stream.specs.Header.{header_of, setting_in}
use Rattle.stream.specs.Tables.{every, start_at, start_right, chunk_table_right}
use Rattle.stream.specs.Stream.{count_of, chunk_of, chunk_state}
use Rattle.stream.specs.Rows.{first}
use Rattle.stream.specs.Operations.{check_rows}
use Rattle.std.specs.Prelude.{Ok}
use Rattle.stream.specs.declared.header.Header.{Header}
use Rattle.stream.proofs.Theorems.{chunk_read_is_written, chunk_length_is_bounded}
use Rattle.stream.proofs.Law.Plain.Truth.{and_left}
use Rattle.stream.proofs.Law.Setting.Allowed.{width_most, size_some, groups_most, settled}
use Rattle.stream.proofs.Law.Tables.Starts.{placed}
use Rattle.stream.proofs.Law.Rows.Chunks.{all_good}
use Rattle.stream.proofs.Law.Rows.Passed.{checking}
use Rattle.stream.proofs.Law.Accepted.{accepted_layout}
use Rattle.summary.proofs.Law.Copy.{no_sides_end}

module _ (h : Header) (s : List ℕ) (bytes : Below 256 s) where
  -- 32 bytes for the groups' widths, and 8 for each value
  good_short : known_width h.width ≡ true → (j : ℕ) → chunk_state h s j ≡ good → length (chunk_of h s j) ≤ 8224
  unfolding chunk_state chunk_of count_of
  good_short known j good =
      let size = group_size (setting_in h) in
      let n = count_of h j in
      let part = chunk_of h s j in
      let codes = chunk_codes size n part in
      let few : n ≤ 1024 = omega arith in
      let below : Below 256 part =
      below_take 256 (start_at h s (j + 1) - start_at h s j) (drop (h.start + start_at h s j) s) (below_drop 256 (h.start + start_at h s j) s bytes) in
      let c = chunk_read_is_written size (size_some (setting_in h)) h.width (limit_of (setting_in h)) n part below good in
      let most =
      chunk_length_is_bounded size (size_some (setting_in h)) 8 codes (λ i. lt_of_lt_of_le (c.below i) (pow_mono (width_most h.width known))) in
      omega (arith, ap length c.bytes, c.count, most, ap (groups_in size) c.count, groups_most (setting_in h) n few)

module _ (level : ℕ) (s : List ℕ) (pass : first (check_rows level s) ≡ Ok tt) (bytes : Below 256 s) where
  abbrev h : Header
  h = header_of s

  right : chunk_table_right h s ≡ true
  right = (checking level s pass).1.chunks

  -- one chunk more
  step_short : (j : ℕ) → j < h.chunks → start_at h s (j + 1) ≤ start_at h s j + 8224
  unfolding chunk_of
  step_short j l =
      let c = checking level s pass in
      let laid = accepted_layout level s pass in
      let p = placed (length s) h s laid right j l in
      let short = good_short h s bytes (settled h c.0.setting).known j (all_good h s c.2 j l) in
      let whole =
      length-take-le (start_at h s (j + 1) - start_at h s j) (drop (h.start + start_at h s j) s)
      (rw (length-drop (h.start + start_at h s j) s) (omega (arith, laid, p.0, p.1))) in
      omega (arith, short, whole, p.0)

  starts_short : (j : ℕ) → j ≤ h.chunks → start_at h s j ≤ 8224 * j
  unfolding chunk_table_right
  starts_short zero l = omega (arith, eqb-true (start_at h s 0) 0 (and_left (eqb (start_at h s 0) 0) (every (start_right h s) h.chunks 0) right))
  starts_short (suc j) l = omega (arith, starts_short j (omega arith), step_short j (omega arith), ap (start_at h s) (add-one j))

  data_end : start_at h s h.chunks ≡ h.end - h.start
  unfolding start_at
  data_end = rw (le-ltb h.chunks h.chunks (omega arith))

  pub end_short : h.end ≤ 2 ^ 24
  end_short = omega (arith, starts_short h.chunks (omega arith), data_end, accepted_layout level s pass)

  pub accepted_short : h.sides ≡ 0 → length s ≤ 2 ^ 24
  accepted_short none = omega (arith, end_short, no_sides_end level s pass none)
