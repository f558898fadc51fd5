-- What an operation answers fits, for an export to hand on whole: a refusal's number is not 0, and it and its detail have 32 bits, as has
-- what success says; and a value that is read has W bits. Of the bytes and the values only what a caller can lend is asked.
use mathlib.Core.Path.{◌≡◌, refl, ◌∙◌}
use mathlib.Core.Bool.{true}
use mathlib.Core.List.{List}
use Prim.Native.Nat.{ℕ, ◌^◌, ◌<◌}
use native.Mathlib.Omega.{arith}
use lib.IntN.{ℤ}
use lib.ListN.{length, get_or}
use Rattle.blocks.specs.Bytes.{Below}
use Rattle.stream.specs.Setting.{known_width}
use Rattle.stream.specs.Header.{header_of}
use Rattle.stream.specs.Stream.{value_at}
use Rattle.stream.specs.Rows.{first, answer, answer_number}
use Rattle.stream.specs.Probe.{shown32, shown64}
use Rattle.stream.specs.Operations.{check_answer, unpack_rows, unpack_answer, unpack_out, length_answer, pack_answer, probe_rows, probe_answer32, probe_answer64}
use Rattle.std.specs.Prelude.{⊤, Result, Ok, Err}
use Rattle.stream.specs.declared.answers.Refusal.{Refusal}
use Rattle.stream.proofs.Law.Rows.Small.{Told, SmallAnswer, check_answer_small, unpack_answer_small, probe_small, value_small, length_answer_small, pack_answer_small}
use Rattle.stream.proofs.Law.Values.ThreeReaders.{probe_passes, probe_value}
use Rattle.stream.proofs.Readers.{written_values}
use Rattle.stream.proofs.Law.Rows.First.{done_pass, refused_stop}

-- a refusal's number and detail
abbrev pub RefusalFits : Refusal → Type 0
RefusalFits = Told (2 ^ 32)

-- an answer: `Ok n` with n, or a refusal
abbrev pub Fits : Result ℕ Refusal → Type 0
Fits = SmallAnswer (2 ^ 32)

-- ---- an answer of the number 0 tells that its rows passed

accepted_pass : {A : Type 0} (step : Result ⊤ Refusal) (x : A) → ((refusal : Refusal) → step ≡ Err refusal → RefusalFits refusal) → answer_number (answer step x) ≡ 0 → step ≡ Ok tt
unfolding answer answer_number
accepted_pass (Ok u) x told e = refl
accepted_pass (Err refusal) x told e = absurd (omega (arith, (told refusal refl).some, e))

-- ---- reading bytes

module _ (level : ℕ) (s : List ℕ) (bytes : Below 256 s) where
  pub check_fits : Fits (check_answer level s)
  check_fits = check_answer_small level s bytes

  pub unpack_fits : (W room : ℕ) → Fits (unpack_answer W level s room)
  unpack_fits W room = unpack_answer_small level s bytes W room

  -- each value that unpack writes
  pub unpacked_value_fits : (W : ℕ) (out : List ℕ) (n i : ℕ) → unpack_answer W level s (length out) ≡ Ok n → i < n → get_or (unpack_out W level s out) i 0 < 2 ^ W
  unfolding unpack_answer
  unpacked_value_fits W out n i e below =
      let done = done_pass (first (unpack_rows W level s (length out))) (header_of s).count n e in
      let inside : i < (header_of s).count = omega (arith, done.1) in
      rw ((written_values W level s out n e).1 i below ∙ probe_value W level s (length out) done.0 i inside)
      (value_small level s bytes W i (probe_passes W level s (length out) done.0 i inside))

  -- probe, refused and accepted
  pub probe_fits32 : (i : ℕ) (refusal : Refusal) → probe_answer32 level s i ≡ Err refusal → RefusalFits refusal
  unfolding probe_answer32
  probe_fits32 i refusal e =
      probe_small level s bytes 32 i refusal (refused_stop (first (probe_rows 32 level s i)) (shown32 (value_at s i)) refusal e)

  pub probed_value_fits32 : (i : ℕ) → answer_number (probe_answer32 level s i) ≡ 0
      → (probe_answer32 level s i ≡ Ok (shown32 (value_at s i))) × (value_at s i < 2 ^ 32)
  unfolding probe_answer32 answer
  probed_value_fits32 i e =
      let pass = accepted_pass (first (probe_rows 32 level s i)) (shown32 (value_at s i)) (probe_small level s bytes 32 i) e in
      (rw pass, value_small level s bytes 32 i pass)

  -- probe, refused and accepted
  pub probe_fits64 : (i : ℕ) (refusal : Refusal) → probe_answer64 level s i ≡ Err refusal → RefusalFits refusal
  unfolding probe_answer64
  probe_fits64 i refusal e =
      probe_small level s bytes 64 i refusal (refused_stop (first (probe_rows 64 level s i)) (shown64 (value_at s i)) refusal e)

  pub probed_value_fits64 : (i : ℕ) → answer_number (probe_answer64 level s i) ≡ 0
      → (probe_answer64 level s i ≡ Ok (shown64 (value_at s i))) × (value_at s i < 2 ^ 64)
  unfolding probe_answer64 answer
  probed_value_fits64 i e =
      let pass = accepted_pass (first (probe_rows 64 level s i)) (shown64 (value_at s i)) (probe_small level s bytes 64 i) e in
      (rw pass, value_small level s bytes 64 i pass)

-- ---- writing values of W bits

module _ (W level mode : ℕ) (k : ℤ) (size : ℕ) (vs : List ℕ) (known : known_width W ≡ true) (patterns : Below (2 ^ W) vs) where
  pub length_fits : Fits (length_answer W level mode k size vs)
  length_fits = length_answer_small W level mode k size vs known patterns

  pub pack_fits : (room : ℕ) → Fits (pack_answer W level mode k size vs room)
  pack_fits room = pack_answer_small W level mode k size vs known patterns room
