-- The values of a chunk of a stream that a check has accepted: patterns of its width, 1024 at most.
use mathlib.Core.Path.{◌≡◌, sym, subst}
use mathlib.Core.Bool.{true}
use mathlib.Core.List.{List}
use Prim.Native.Nat.{ℕ, zero, suc, ◌-◌, ◌^◌, ◌≤◌, ◌<◌, min}
use native.Mathlib.Nat.{lt_of_lt_of_le}
use native.Mathlib.Omega.{arith}
use lib.ListN.{length, drop}
use lib.Pow.{pow_pos, pow_mono}
use Rattle.blocks.specs.Bytes.{Below}
use Rattle.blocks.proofs.Law.Digits.{below_append}
use Rattle.stream.specs.Setting.{group_size}
use Rattle.stream.specs.Group.{group_length, group_codes, whole_group}
use Rattle.stream.specs.Chunk.{good, groups_in, whole_groups, whole_chunk, groups_codes, chunk_codes}
use Rattle.stream.specs.Header.{header_of, setting_in}
use Rattle.stream.specs.Stream.{count_of, chunk_of, chunk_state, chunk_values}
use Rattle.stream.specs.declared.header.Header.{Header}
use Rattle.stream.proofs.Law.Plain.Truth.{and_left, and_right}
use Rattle.stream.proofs.Law.Group.RoundTrip.{codes_below}
use Rattle.stream.proofs.Law.Chunk.Whole.{whole_facts}
use Rattle.stream.proofs.Law.Chunk.LongerBytes.{state_whole}
use Rattle.stream.proofs.Law.Setting.Allowed.{width_format}
use Rattle.stream.proofs.Law.Setting.Codes.{patterns_under}
use Rattle.stream.proofs.Law.Values.Counts.{length_chunk}
use Rattle.stream.proofs.Law.Rows.Chunks.{all_good}
use Rattle.stream.proofs.Law.Rows.Passed.{checking}
use Rattle.summary.specs.Private.{Accepted}
use Rattle.summary.proofs.Law.Stream.{known}

-- the codes of groups that are there to be read
module _ (W size : ℕ) where
  groups_below : (q n : ℕ) (s : List ℕ) → whole_groups W size q n s ≡ true → Below (2 ^ W) (groups_codes size q n s)
  unfolding whole_groups groups_codes
  groups_below zero n s e = λ i. pow_pos W
  groups_below (suc q) n s e =
      let rest = drop (group_length (min size n) s) s in
      let here = and_left (whole_group W (min size n) s) (whole_groups W size q (n - size) rest) e in
      below_append (2 ^ W) (group_codes (min size n) s) (groups_codes size q (n - size) rest)
      (λ i. lt_of_lt_of_le (codes_below (min size n) s i) (pow_mono (whole_facts W (min size n) s here).0))
      (groups_below q (n - size) rest (and_right (whole_group W (min size n) s) (whole_groups W size q (n - size) rest) e))

  chunk_below : (n : ℕ) (s : List ℕ) → whole_chunk W size n s ≡ true → Below (2 ^ W) (chunk_codes size n s)
  unfolding whole_chunk chunk_codes
  chunk_below n s = groups_below (groups_in size n) n s

module _ (h : Header) (s : List ℕ) (a : Accepted h s) where
  pub values_below : (j : ℕ) → j < h.chunks → Below (2 ^ h.width) (chunk_values h s j)
  unfolding chunk_values
  values_below j l =
      let kept = subst (λ (g : Header). (i : ℕ) → i < g.chunks → chunk_state g s i ≡ good) (sym a.header) (all_good (header_of s) s (checking a.level s a.pass).2) j l in
      let t = setting_in h in
      patterns_under t (width_format h.width (known h s a)) 0 (chunk_codes (group_size t) (count_of h j) (chunk_of h s j))
      (chunk_below h.width (group_size t) (count_of h j) (chunk_of h s j) (state_whole h s j kept))

pub values_few : (h : Header) (s : List ℕ) (j : ℕ) → length (chunk_values h s j) ≤ 1024
unfolding count_of
values_few h s j = omega (arith, length_chunk h s j)
