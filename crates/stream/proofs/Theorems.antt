-- The theorems of groups and chunks, over any width, count and group size. The proofs are citations of the laws in proofs/Law/.
use mathlib.Core.Path.{◌≡◌, sym, ap, ◌∙◌}
use mathlib.Core.Logic.{◌↔◌}
use mathlib.Core.Bool.{true}
use mathlib.Core.List.{List, ◌++◌}
use Prim.Native.Nat.{ℕ, ◌+◌, ◌-◌, ◌*◌, ◌^◌, ◌≤◌, ◌<◌}
use lib.ListN.{length, replicate}
use Rattle.blocks.specs.Bytes.{Below}
use Rattle.stream.specs.Group.{bytes_for, packed, group_codes, good_group}
use Rattle.stream.specs.Chunk.{good, groups_in, groups_bytes, chunk_bytes, chunk_answer, chunk_codes}
use Rattle.stream.specs.Theorem.{bits, Limited, Starts, Canonical}
use Rattle.stream.proofs.Law.Group.LowestFirst.{lowest_first}
use Rattle.stream.proofs.Law.Group.Exact.{accepted_exactly}
use Rattle.stream.proofs.Law.Chunk.Groups.{written_is_good, written_is_read, good_is_exact, length_chunk_codes, chunk_most}

-- "w bits each, lowest bit first, filling each byte from its lowest bit, with zero bits to the next byte", read literally
pub codes_lie_lowest_bit_first : (w : ℕ) (cs : List ℕ) → Below (2 ^ w) cs
    → bits 8 (packed w cs) ≡ bits w cs ++ replicate (8 * bytes_for w (length cs) - w * length cs) 0
codes_lie_lowest_bit_first = lowest_first

-- A group is accepted exactly when its bytes begin with those of some n codes, each below 2 ^ W and with u at most U; then these are the
-- codes that are read, and no other list has the same bytes.
pub group_accepted_exactly : (W U n : ℕ) (s : List ℕ) → Below 256 s
    → ((good_group W U n s ≡ true) ↔ ((cs : List ℕ) × Starts W U n s cs)) × ((cs : List ℕ) → Starts W U n s cs → cs ≡ group_codes n s)
group_accepted_exactly = accepted_exactly

module _ (size : ℕ) (some : 0 < size) where
  -- read of written: a chunk of allowed codes is accepted, and gives them back
  pub chunk_written_is_read : (W U : ℕ) (cs : List ℕ) → Below (2 ^ W) cs → Limited U cs
      → (chunk_answer W U size (length cs) (chunk_bytes size cs) ≡ good) × (chunk_codes size (length cs) (chunk_bytes size cs) ≡ cs)
  chunk_written_is_read W U cs below limited = (written_is_good size some W U cs below limited, written_is_read size some cs)

  -- written of read: an accepted chunk is just the bytes of the codes that are read from it; no other bytes are accepted
  pub chunk_read_is_written : (W U n : ℕ) (s : List ℕ) → Below 256 s → chunk_answer W U size n s ≡ good → Canonical size W U n s
  unfolding chunk_bytes
  chunk_read_is_written W U n s below e =
      let exact = good_is_exact size some W U n s below e in
      let count = length_chunk_codes size some n s in
      record {
        bytes = exact.bytes ∙ ap (λ (k : ℕ). groups_bytes size (groups_in size k) (chunk_codes size n s)) (sym count);
        count = count;
        below = exact.below;
        limited = exact.limited;
      }

  -- the length: at most a byte for each group, and b bytes for each value of a width of 8 * b bits
  pub chunk_length_is_bounded : (b : ℕ) (cs : List ℕ) → Below (2 ^ (8 * b)) cs → length (chunk_bytes size cs) ≤ groups_in size (length cs) + b * length cs
  chunk_length_is_bounded = chunk_most size some
