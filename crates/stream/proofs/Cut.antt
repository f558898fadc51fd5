-- "A file cut off by a full disk was read past its end": a stream that is cut is refused, wherever it is cut, and so is one behind which
-- something was added.
use mathlib.Core.Path.{◌≡◌, sym, subst}
use mathlib.Core.Logic.{◌⊎◌, inl, inr}
use mathlib.Core.List.{List, [], ◌++◌}
use Prim.Native.Nat.{ℕ, ◌≤◌, ◌<◌}
use native.Mathlib.Omega.{arith}
use lib.ListN.{length, take, length-append}
use lib.Seq.{take-append_seam}
use Rattle.stream.specs.Header.{header_of}
use Rattle.stream.specs.Stream.{value_at}
use Rattle.stream.specs.Rows.{first, answer, after}
use Rattle.stream.specs.Probe.{shown32, shown64}
use Rattle.stream.specs.Operations.{check_rows, check_answer, unpack_rows, unpack_answer, unpack_out, probe_rows, probe_answer32, probe_answer64}
use Rattle.stream.specs.Theorem.{cut_refusal, cut_answer, Accepts, by_check, by_unpack, by_probe32, by_probe64}
use Rattle.std.specs.Prelude.{Ok, Err}
use Rattle.stream.specs.declared.answers.Refusal.TheVariants.{BrokenTable}
use Rattle.blocks.proofs.Law.Truth.{le_or_lt}
use Rattle.stream.proofs.Law.Rows.Passed.{Opening, Tables, Unpacking, Probing, checking, unpacking, probing}
use Rattle.stream.proofs.Law.Values.Cut.{check_cut, unpack_cut, probe_cut, no_cut, nothing, check_cut_at, check_added, unpack_added, probe_added}
use Rattle.stream.proofs.Law.Rows.First.{done_pass}

-- ---- what an answer says of the stream

checked : (level : ℕ) (s : List ℕ) (n : ℕ) → check_answer level s ≡ Ok n → Opening level s × Tables (header_of s) s
unfolding check_answer
checked level s n e = let a = checking level s (done_pass (first (check_rows level s)) (header_of s).count n e).0 in (a.0, a.1)

unpacked : (W level : ℕ) (s : List ℕ) (room n : ℕ) → unpack_answer W level s room ≡ Ok n → Unpacking W level s room
unfolding unpack_answer
unpacked W level s room n e = unpacking W level s room (done_pass (first (unpack_rows W level s room)) (header_of s).count n e).0

probed_by32 : (level : ℕ) (s : List ℕ) (i p : ℕ) → probe_answer32 level s i ≡ Ok (shown32 p) → Probing 32 level s i
unfolding probe_answer32
probed_by32 level s i p e = probing 32 level s i (done_pass (first (probe_rows 32 level s i)) (shown32 (value_at s i)) (shown32 p) e).0

probed_by64 : (level : ℕ) (s : List ℕ) (i p : ℕ) → probe_answer64 level s i ≡ Ok (shown64 p) → Probing 64 level s i
unfolding probe_answer64
probed_by64 level s i p e = probing 64 level s i (done_pass (first (probe_rows 64 level s i)) (shown64 (value_at s i)) (shown64 p) e).0

-- ---- what a reader that accepts s answers of its first c bytes: 5, 8 or 9, by where the cut is

module _ (level : ℕ) (s : List ℕ) (c : ℕ) (cut : c < length s) where
  pub cut_check : (n : ℕ) → check_answer level s ≡ Ok n → check_answer level (take c s) ≡ Err (cut_refusal (header_of s) c)
  unfolding check_answer answer
  cut_check n e =
      let a = checked level s n e in
      rw (check_cut s c cut level a.0 a.1)

  pub cut_unpack : (W : ℕ) (out : List ℕ) (n : ℕ) → unpack_answer W level s (length out) ≡ Ok n
      → (unpack_answer W level (take c s) (length out) ≡ Err (cut_refusal (header_of s) c)) × (unpack_out W level (take c s) out ≡ out)
  unfolding unpack_answer unpack_out answer after
  cut_unpack W out n e =
      let u = unpacked W level s (length out) n e in
      let stops = unpack_cut s c cut level u.opening u.tables W u.width (length out) u.enough in
      (rw stops, rw stops)

  pub cut_probe32 : (i p : ℕ) → probe_answer32 level s i ≡ Ok (shown32 p) → probe_answer32 level (take c s) i ≡ Err (cut_refusal (header_of s) c)
  unfolding probe_answer32 answer
  cut_probe32 i p e =
      let b = probed_by32 level s i p e in
      rw (probe_cut s c cut level b.opening b.tables 32 b.width i b.index)

  pub cut_probe64 : (i p : ℕ) → probe_answer64 level s i ≡ Ok (shown64 p) → probe_answer64 level (take c s) i ≡ Err (cut_refusal (header_of s) c)
  unfolding probe_answer64 answer
  cut_probe64 i p e =
      let b = probed_by64 level s i p e in
      rw (probe_cut s c cut level b.opening b.tables 64 b.width i b.index)

-- ---- and of s with something behind it: 9

module _ (level : ℕ) (s more : List ℕ) (some : more ≡ [] → ⊥) where
  pub added_check : (n : ℕ) → check_answer level s ≡ Ok n → check_answer level (s ++ more) ≡ Err BrokenTable
  unfolding check_answer answer
  added_check n e =
      let a = checked level s n e in
      rw (check_added s more some level a.0 a.1)

  pub added_unpack : (W : ℕ) (out : List ℕ) (n : ℕ) → unpack_answer W level s (length out) ≡ Ok n
      → (unpack_answer W level (s ++ more) (length out) ≡ Err BrokenTable) × (unpack_out W level (s ++ more) out ≡ out)
  unfolding unpack_answer unpack_out answer after
  added_unpack W out n e =
      let u = unpacked W level s (length out) n e in
      let stops = unpack_added s more some level u.opening u.tables W u.width (length out) u.enough in
      (rw stops, rw stops)

  pub added_probe32 : (i p : ℕ) → probe_answer32 level s i ≡ Ok (shown32 p) → probe_answer32 level (s ++ more) i ≡ Err BrokenTable
  unfolding probe_answer32 answer
  added_probe32 i p e =
      let b = probed_by32 level s i p e in
      rw (probe_added s more some level b.opening b.tables 32 b.width i b.index)

  pub added_probe64 : (i p : ℕ) → probe_answer64 level s i ≡ Ok (shown64 p) → probe_answer64 level (s ++ more) i ≡ Err BrokenTable
  unfolding probe_answer64 answer
  added_probe64 i p e =
      let b = probed_by64 level s i p e in
      rw (probe_added s more some level b.opening b.tables 64 b.width i b.index)

-- ---- at any level, by any reader

pub accepted : (level : ℕ) (s : List ℕ) → Accepts level s → Opening level s × Tables (header_of s) s
accepted level s (by_check n e) = checked level s n e
accepted level s (by_unpack W room n e) =
    let u = unpacked W level s room n e in (u.opening, u.tables)
accepted level s (by_probe32 i p e) =
    let b = probed_by32 level s i p e in (b.opening, b.tables)
accepted level s (by_probe64 i p e) =
    let b = probed_by64 level s i p e in (b.opening, b.tables)

-- No proper beginning of an accepted stream is accepted.
pub no_beginning_is_accepted : (level level' : ℕ) (s : List ℕ) (c : ℕ) → Accepts level s → Accepts level' (take c s) → length s ≤ c
no_beginning_is_accepted level level' s c whole part =
    let a = accepted level s whole in
    let b = accepted level' (take c s) part in
    go (le_or_lt (length s) c) a.1 b.0 b.1
  where
    go : (length s ≤ c) ⊎ (c < length s) → Tables (header_of s) s → Opening level' (take c s) → Tables (header_of (take c s)) (take c s) → length s ≤ c
    go (inl l) t o t' = l
    go (inr l) t o t' = absurd (no_cut s c l level' t o t')

-- So nothing can be added behind one.
pub nothing_is_added : (level level' : ℕ) (s more : List ℕ) → Accepts level s → Accepts level' (s ++ more) → more ≡ []
nothing_is_added level level' s more part whole =
    nothing more
    (let l = no_beginning_is_accepted level' level (s ++ more) (length s) whole (subst (λ (b : List ℕ). Accepts level b) (sym (take-append_seam s more)) part) in
    omega (arith, l, length-append s more))

-- What check answers of a cut stream, at any level, whoever accepts the whole.
pub cut_check_at : (level level' : ℕ) (s : List ℕ) (c : ℕ) → c < length s → Accepts level s → check_answer level' (take c s) ≡ cut_answer level' (header_of s) c
unfolding check_answer
cut_check_at level level' s c cut whole = let a = accepted level s whole in check_cut_at s c cut level level' a.0 a.1
