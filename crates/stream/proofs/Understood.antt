-- Document 02, R-4: "a reader that meets one refuses". Whatever the bytes, every reader refuses a stream with a high id, at any level: none hands out a
-- value of it. And where the refusal is 15, what it tells (`NotUnderstood`). By what a packed stream with such an id is refused is said in Written.antt
-- (`it_is_too_new`, `refused_by_8`, `refused_by_15`).
use mathlib.Core.Path.{◌≡◌, refl, sym, ap, ◌∙◌}
use mathlib.Core.Logic.{◌↔◌}
use mathlib.Core.Bool.{true, false}
use mathlib.Core.List.{List}
use Prim.Native.Nat.{ℕ, ◌^◌, ◌≤◌, ◌<◌}
use native.Mathlib.Omega.{arith}
use borrow.Author.Tests.{leb-true, le-leb}
use lib.ListN.{length}
use Rattle.stream.specs.Header.{header_of}
use Rattle.stream.specs.Tables.{side_id, ids_in, high_id, some_high}
use Rattle.stream.specs.Rows.{first, answer}
use Rattle.stream.specs.Stream.{value_at}
use Rattle.stream.specs.Operations.{check_rows, check_answer, unpack_rows, unpack_answer, probe_rows, probe_answer32, probe_answer64}
use Rattle.stream.specs.Theorem.{Accepts, by_check, by_unpack, by_probe32, by_probe64, RefusedByAll, NotUnderstood}
use Rattle.stream.specs.Probe.{shown32, shown64}
use Rattle.std.specs.Prelude.{⊤, Result, Ok, Err}
use Rattle.stream.specs.declared.answers.Refusal.{Refusal}
use Rattle.stream.specs.declared.answers.Refusal.TheVariants.{MustBeUnderstood}
use Rattle.stream.proofs.Cut.{accepted}
use Rattle.stream.proofs.Readers.{refused_untouched}
use Rattle.stream.proofs.Law.Rows.Ids.{high_entry}
use Rattle.stream.proofs.Law.Rows.Understood.{check_told, unpack_told, probe_told}
use Rattle.stream.proofs.Law.Rows.First.{refused_stop}

pub an_accepted_stream_has_no_high_id : (level : ℕ) (s : List ℕ) → Accepts level s → some_high (ids_in (header_of s) s) ≡ false
an_accepted_stream_has_no_high_id level s a = (accepted level s a).1.low

-- "Ids from 2^31 up"
pub the_high_ids : (id : ℕ) → high_id id ≡ true ↔ 2 ^ 31 ≤ id
unfolding high_id
the_high_ids id = (leb-true (2 ^ 31) id, le-leb (2 ^ 31) id)

-- a step that does not pass stops somewhere
stops : (a : Result ⊤ Refusal) → (a ≡ Ok tt → ⊥) → (refusal : Refusal) × (a ≡ Err refusal)
stops (Ok u) n = absurd (n refl)
stops (Err refusal) n = (refusal, refl)

-- an entry of the side table has a high id
module _ (level : ℕ) (s : List ℕ) (i : ℕ) (entry : i < (header_of s).sides) (high : 2 ^ 31 ≤ side_id (header_of s) s i) where
  not_accepted : Accepts level s → ⊥
  not_accepted a =
      let z : true ≡ false = sym (high_entry (header_of s) s i entry high) ∙ an_accepted_stream_has_no_high_id level s a in
      let none : ◌≡◌ {A = ℕ} 0 1 = cc in
      omega (arith, none)

  check_refused : (refusal : Refusal) × (check_answer level s ≡ Err refusal)
  unfolding check_answer answer
  check_refused =
      let r = stops (first (check_rows level s)) (λ e. not_accepted (by_check (header_of s).count (ap (λ (a : Result ⊤ Refusal). answer a (header_of s).count) e))) in
      (r.0, ap (λ (a : Result ⊤ Refusal). answer a (header_of s).count) r.1)

  unpack_refused : (W room : ℕ) → (refusal : Refusal) × (unpack_answer W level s room ≡ Err refusal)
  unfolding unpack_answer answer
  unpack_refused W room =
      let r = stops (first (unpack_rows W level s room)) (λ e. not_accepted (by_unpack W room (header_of s).count (ap (λ (a : Result ⊤ Refusal). answer a (header_of s).count) e))) in
      (r.0, ap (λ (a : Result ⊤ Refusal). answer a (header_of s).count) r.1)

  probe_refused32 : (j : ℕ) → (refusal : Refusal) × (probe_answer32 level s j ≡ Err refusal)
  unfolding probe_answer32 answer
  probe_refused32 j =
      let r = stops (first (probe_rows 32 level s j)) (λ e. not_accepted (by_probe32 j (value_at s j) (ap (λ (a : Result ⊤ Refusal). answer a (shown32 (value_at s j))) e))) in
      (r.0, ap (λ (a : Result ⊤ Refusal). answer a (shown32 (value_at s j))) r.1)

  probe_refused64 : (j : ℕ) → (refusal : Refusal) × (probe_answer64 level s j ≡ Err refusal)
  unfolding probe_answer64 answer
  probe_refused64 j =
      let r = stops (first (probe_rows 64 level s j)) (λ e. not_accepted (by_probe64 j (value_at s j) (ap (λ (a : Result ⊤ Refusal). answer a (shown64 (value_at s j))) e))) in
      (r.0, ap (λ (a : Result ⊤ Refusal). answer a (shown64 (value_at s j))) r.1)

  pub a_high_id_is_never_skipped : RefusedByAll level s
  a_high_id_is_never_skipped =
      record {
        check = check_refused;
        unpack = λ W back. let r = unpack_refused W (length back) in (r.0, r.1, refused_untouched W level s back r.0 r.1);
        probe32 = probe_refused32;
        probe64 = probe_refused64;
      }

-- ---- "15, an id that must be understood, detail the first such id"

module _ (level : ℕ) (s : List ℕ) (id : ℕ) where
  pub check_names_the_id : check_answer level s ≡ Err (MustBeUnderstood id) → NotUnderstood level s id
  unfolding check_answer
  check_names_the_id e = check_told level s id (refused_stop (first (check_rows level s)) (header_of s).count (MustBeUnderstood id) e)

  pub unpack_names_the_id : (W room : ℕ) → unpack_answer W level s room ≡ Err (MustBeUnderstood id) → NotUnderstood level s id
  unfolding unpack_answer
  unpack_names_the_id W room e = unpack_told level s id W room (refused_stop (first (unpack_rows W level s room)) (header_of s).count (MustBeUnderstood id) e)

  pub probe_names_the_id32 : (i : ℕ) → probe_answer32 level s i ≡ Err (MustBeUnderstood id) → NotUnderstood level s id
  unfolding probe_answer32
  probe_names_the_id32 i e = probe_told level s id 32 i (refused_stop (first (probe_rows 32 level s i)) (shown32 (value_at s i)) (MustBeUnderstood id) e)

  pub probe_names_the_id64 : (i : ℕ) → probe_answer64 level s i ≡ Err (MustBeUnderstood id) → NotUnderstood level s id
  unfolding probe_answer64
  probe_names_the_id64 i e = probe_told level s id 64 i (refused_stop (first (probe_rows 64 level s i)) (shown64 (value_at s i)) (MustBeUnderstood id) e)
