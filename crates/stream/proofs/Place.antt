-- What refusal 10 tells, as theorems about the promises: detail / 32 is the first bad chunk, and detail % 32 its first bad group (`Fault`).
use Rattle.std.specs.Prelude.{Err}
use mathlib.Core.Path.{◌≡◌, ap}
use mathlib.Core.Logic.{◌↔◌}
use mathlib.Core.List.{List}
use Prim.Native.Nat.{ℕ, ◌/◌, ◌%◌, ◌<◌}
use Rattle.stream.specs.Header.{header_of}
use Rattle.stream.specs.Chunk.{good, chunk_answer}
use Rattle.stream.specs.Stream.{chunk_state, value_at}
use Rattle.stream.specs.Rows.{first, answer}
use Rattle.stream.specs.Probe.{shown32, shown64}
use Rattle.stream.specs.Operations.{check_rows, check_answer, unpack_rows, unpack_answer, probe_rows, probe_answer32, probe_answer64}
use Rattle.stream.specs.Theorem.{FirstBad, BadGroup, Fault}
use Rattle.std.specs.Prelude.{⊤, Result, Ok, Err}
use Rattle.stream.specs.declared.answers.Refusal.{Refusal}
use Rattle.stream.specs.declared.answers.Refusal.TheVariants.{BrokenChunk}
use Rattle.stream.proofs.Law.Chunk.FirstBad.{bad_exactly}
use Rattle.stream.proofs.Law.Rows.Place.{check_named, unpack_checked, probe_named, probe_whole, probe_lost, probe_kept}
use Rattle.stream.proofs.Law.Rows.First.{refused_stop}

-- The group that is found is the first bad one: every group before it is good; it is bad itself, or it is the last and bytes are left over.
pub the_group_found_is_the_first_bad : (W U size : ℕ) → 0 < size → (n : ℕ) (s : List ℕ) → 0 < n → (g : ℕ) → chunk_answer W U size n s ≡ Err g ↔ FirstBad W U size n s g
the_group_found_is_the_first_bad = bad_exactly

-- ---- the place that is named

module _ (level : ℕ) (s : List ℕ) (detail : ℕ) where
  pub check_names_the_place : check_answer level s ≡ Err (BrokenChunk detail) → Fault s (detail / 32) (detail % 32)
  unfolding check_answer
  check_names_the_place e = check_named level s detail (refused_stop (first (check_rows level s)) (header_of s).count (BrokenChunk detail) e)

  -- unpack: the same place as check
  pub check_names_what_unpack_names : (W room : ℕ) → unpack_answer W level s room ≡ Err (BrokenChunk detail) → check_answer level s ≡ Err (BrokenChunk detail)
  unfolding unpack_answer check_answer answer
  check_names_what_unpack_names W room e =
      ap (λ (a : Result ⊤ Refusal). answer a (header_of s).count)
      (unpack_checked level s detail W room (refused_stop (first (unpack_rows W level s room)) (header_of s).count (BrokenChunk detail) e))

  pub unpack_names_the_place : (W room : ℕ) → unpack_answer W level s room ≡ Err (BrokenChunk detail) → Fault s (detail / 32) (detail % 32)
  unpack_names_the_place W room e = check_names_the_place (check_names_what_unpack_names W room e)

  -- probe: "the last for its own chunk only"
  pub probe_names_the_place32 : (i : ℕ) → probe_answer32 level s i ≡ Err (BrokenChunk detail) → (detail / 32 ≡ i / 1024) × BadGroup s (detail / 32) (detail % 32)
  unfolding probe_answer32
  probe_names_the_place32 i e = probe_named level s detail 32 i (refused_stop (first (probe_rows 32 level s i)) (shown32 (value_at s i)) (BrokenChunk detail) e)

  pub probe_names_the_place64 : (i : ℕ) → probe_answer64 level s i ≡ Err (BrokenChunk detail) → (detail / 32 ≡ i / 1024) × BadGroup s (detail / 32) (detail % 32)
  unfolding probe_answer64
  probe_names_the_place64 i e = probe_named level s detail 64 i (refused_stop (first (probe_rows 64 level s i)) (shown64 (value_at s i)) (BrokenChunk detail) e)

  -- ---- the values that are lost: where probe refuses one value by 10, it refuses each of that chunk, by the same detail

  pub a_chunk_is_lost_whole32 : (i : ℕ) → probe_answer32 level s i ≡ Err (BrokenChunk detail)
      → (k : ℕ) → k < (header_of s).count → k / 1024 ≡ i / 1024 → probe_answer32 level s k ≡ Err (BrokenChunk detail)
  unfolding probe_answer32 answer
  a_chunk_is_lost_whole32 i e k below same =
      ap (λ (a : Result ⊤ Refusal). answer a (shown32 (value_at s k)))
      (probe_whole level s detail 32 i (refused_stop (first (probe_rows 32 level s i)) (shown32 (value_at s i)) (BrokenChunk detail) e) k below same)

  pub a_chunk_is_lost_whole64 : (i : ℕ) → probe_answer64 level s i ≡ Err (BrokenChunk detail)
      → (k : ℕ) → k < (header_of s).count → k / 1024 ≡ i / 1024 → probe_answer64 level s k ≡ Err (BrokenChunk detail)
  unfolding probe_answer64 answer
  a_chunk_is_lost_whole64 i e k below same =
      ap (λ (a : Result ⊤ Refusal). answer a (shown64 (value_at s k)))
      (probe_whole level s detail 64 i (refused_stop (first (probe_rows 64 level s i)) (shown64 (value_at s i)) (BrokenChunk detail) e) k below same)

-- Where check refuses by 10, probe refuses each value of the named chunk by the very same detail, and reads each value of every good chunk. (Those
-- before the named one are good: `Fault`.)
module _ (level : ℕ) (s : List ℕ) (detail : ℕ) (refused : check_answer level s ≡ Err (BrokenChunk detail)) (i : ℕ) (below : i < (header_of s).count) where
  stops : first (check_rows level s) ≡ Err (BrokenChunk detail)
  unfolding check_answer
  stops = refused_stop (first (check_rows level s)) (header_of s).count (BrokenChunk detail) refused

  pub the_named_chunk_is_lost32 : (header_of s).width ≡ 32 → i / 1024 ≡ detail / 32 → probe_answer32 level s i ≡ Err (BrokenChunk detail)
  unfolding probe_answer32 answer
  the_named_chunk_is_lost32 width same = ap (λ (a : Result ⊤ Refusal). answer a (shown32 (value_at s i))) (probe_lost level s detail stops 32 i width below same)

  pub a_good_chunk_is_read32 : (header_of s).width ≡ 32 → chunk_state (header_of s) s (i / 1024) ≡ good → probe_answer32 level s i ≡ Ok (shown32 (value_at s i))
  unfolding probe_answer32 answer
  a_good_chunk_is_read32 width good = ap (λ (a : Result ⊤ Refusal). answer a (shown32 (value_at s i))) (probe_kept level s detail stops 32 i width below good)

  pub the_named_chunk_is_lost64 : (header_of s).width ≡ 64 → i / 1024 ≡ detail / 32 → probe_answer64 level s i ≡ Err (BrokenChunk detail)
  unfolding probe_answer64 answer
  the_named_chunk_is_lost64 width same = ap (λ (a : Result ⊤ Refusal). answer a (shown64 (value_at s i))) (probe_lost level s detail stops 64 i width below same)

  pub a_good_chunk_is_read64 : (header_of s).width ≡ 64 → chunk_state (header_of s) s (i / 1024) ≡ good → probe_answer64 level s i ≡ Ok (shown64 (value_at s i))
  unfolding probe_answer64 answer
  a_good_chunk_is_read64 width good = ap (λ (a : Result ⊤ Refusal). answer a (shown64 (value_at s i))) (probe_kept level s detail stops 64 i width below good)
