-- The theorems of the operations on streams for C: what a caller reads off the one number and off what it lent. The words are those of specs/, the
-- proofs citations of the laws.
use mathlib.Core.Path.{◌≡◌, refl, sym, ap, ◌∙◌}
use mathlib.Core.Bool.{true}
use mathlib.Core.List.{List}
use Prim.Native.Nat.{ℕ, ◌/◌, ◌%◌, ◌^◌, ◌<◌}
use lib.Dec.{lit<}
use lib.IntN.{ℤ}
use lib.ListN.{length, get_or}
use Rattle.blocks.specs.Bytes.{Below}
use Rattle.stream.specs.Setting.{known_width}
use Rattle.stream.specs.Stream.{value_at}
use Rattle.stream.specs.Probe.{shown32, shown64}
use Rattle.stream.specs.Operations.{check_answer, unpack_answer, unpack_out, length_answer, pack_answer, probe_answer32, probe_answer64}
use Rattle.std.specs.Prelude.{Result, Ok, Err}
use Rattle.stream.specs.declared.answers.Refusal.{Refusal}
use Rattle.stream.specs.declared.answers.Shown.TheVariants.{Finite, Infinity, NotANumber}
use Rattle.stream.specs.declared.answers.Shown.{Shown}
use Rattle.stream.specs.Theorem.{BadGroup, Fault}
use Rattle.stream.proofs.Readers.{probe_as_unpack32, probe_as_unpack64}
use Rattle.stream.proofs.Place.{check_names_the_place, unpack_names_the_place, probe_names_the_place32, probe_names_the_place64}
use Rattle.stream.proofs.Fitting.{check_fits, unpack_fits, unpacked_value_fits, probe_fits32, probed_value_fits32, probe_fits64, probed_value_fits64, length_fits, pack_fits}
use Rattle.summary.specs.Operations.{add_answer, test_answer, list_answer}
use Rattle.summary.proofs.Theorems.{add_names_the_place, test_names_the_place, list_names_the_place}
use Rattle.summary.proofs.Fitting.{add_fits, test_fits, list_fits}
use Rattle.gwizdorad_numbers.specs.Theorem.{Uncut}
use Rattle.gwizdorad_numbers.proofs.Theorems.{a_result_tells_both}
use Rattle.gwizdorad.specs.Result.{answer_result, probe_detail, probe_result, probe_out32, probe_out64}
use Rattle.gwizdorad.specs.Theorem.{Spelled}
use Rattle.gwizdorad.proofs.Law.Spelled.{answer_spelled, answer_told, refused_so, probe_spelled, probe_refused_so}
use Rattle.gwizdorad.proofs.Law.Pattern.{pattern_left32, pattern_left64}
use Rattle.stream.specs.Rows.{number_of, answer_number}
use lib.Ieee.{Float}

-- ---- nothing is cut: a number, and the detail or the answer beside it, have 32 bits each, whatever bytes and patterns are lent; and a
-- refusal's number is not 0

module _ (level : ℕ) (s : List ℕ) (bytes : Below 256 s) where
  pub check_is_spelled : Spelled (check_answer level s)
  check_is_spelled = answer_spelled (check_answer level s) (check_fits level s bytes)

  pub unpack_is_spelled : (W room : ℕ) → Spelled (unpack_answer W level s room)
  unpack_is_spelled W room = answer_spelled (unpack_answer W level s room) (unpack_fits level s bytes W room)

  pub probe32_is_uncut : (i : ℕ) → let a = probe_answer32 level s i in Uncut (answer_number a) (probe_detail a) (probe_result a)
  probe32_is_uncut i = probe_spelled (probe_answer32 level s i) (probe_fits32 level s bytes i)

  pub a_refused_probe32_is_numbered : (i : ℕ) (refusal : Refusal) → probe_answer32 level s i ≡ Err refusal → 0 < number_of refusal
  a_refused_probe32_is_numbered i refusal e = (probe_fits32 level s bytes i refusal e).some

  pub probe64_is_uncut : (i : ℕ) → let a = probe_answer64 level s i in Uncut (answer_number a) (probe_detail a) (probe_result a)
  probe64_is_uncut i = probe_spelled (probe_answer64 level s i) (probe_fits64 level s bytes i)

  pub a_refused_probe64_is_numbered : (i : ℕ) (refusal : Refusal) → probe_answer64 level s i ≡ Err refusal → 0 < number_of refusal
  a_refused_probe64_is_numbered i refusal e = (probe_fits64 level s bytes i refusal e).some

  pub add_is_spelled : (room : ℕ) → Spelled (add_answer level s room)
  add_is_spelled room = answer_spelled (add_answer level s room) (add_fits level s bytes room)

  pub test_is_spelled : Spelled (test_answer level s)
  test_is_spelled = answer_spelled (test_answer level s) (test_fits level s bytes)

  pub list_is_spelled : (W x room : ℕ) → Spelled (list_answer W level x s room)
  list_is_spelled W x room = answer_spelled (list_answer W level x s room) (list_fits level s bytes W x room)

module _ (W level mode : ℕ) (k : ℤ) (group : ℕ) (vs : List ℕ) (known : known_width W ≡ true) (patterns : Below (2 ^ W) vs) where
  pub length_is_spelled : Spelled (length_answer W level mode k group vs)
  length_is_spelled = answer_spelled (length_answer W level mode k group vs) (length_fits W level mode k group vs known patterns)

  pub pack_is_spelled : (room : ℕ) → Spelled (pack_answer W level mode k group vs room)
  pack_is_spelled room = answer_spelled (pack_answer W level mode k group vs room) (pack_fits W level mode k group vs known patterns room)

-- ---- the same result of an operation but probe is the same answer

pub a_result_tells_its_answer : (a b : Result ℕ Refusal) → Spelled a → Spelled b → answer_result a ≡ answer_result b → a ≡ b
a_result_tells_its_answer a b spelled spelled' same =
    let both = a_result_tells_both (rw same at spelled.uncut) spelled'.uncut in
    answer_told a b spelled spelled' both.0 both.1

-- ---- probe's pattern is the stream's own

-- what is shown of a pattern of 32 bits leaves that pattern, whatever stood there
pub the_shown_pattern_is_left32 : (p old : ℕ) → p < 2 ^ 32 → probe_out32 (Ok (shown32 p)) old ≡ p
unfolding shown32
the_shown_pattern_is_left32 p old small = pattern_left32 p old small

-- so what is shown fixes the pattern: 0 and -0, and any two not-a-numbers, are told apart
pub what_is_shown_fixes_the_pattern32 : (p q : ℕ) → p < 2 ^ 32 → q < 2 ^ 32 → shown32 p ≡ shown32 q → p ≡ q
what_is_shown_fixes_the_pattern32 p q small small' same =
    sym (the_shown_pattern_is_left32 p 0 small) ∙ ap (λ (a : Shown Float ℕ). probe_out32 (Ok a) 0) same ∙ the_shown_pattern_is_left32 q 0 small'

-- what is shown of a pattern of 64 bits leaves that pattern, whatever stood there
pub the_shown_pattern_is_left64 : (p old : ℕ) → p < 2 ^ 64 → probe_out64 (Ok (shown64 p)) old ≡ p
unfolding shown64
the_shown_pattern_is_left64 p old small = pattern_left64 p old small

-- so what is shown fixes the pattern: 0 and -0, and any two not-a-numbers, are told apart
pub what_is_shown_fixes_the_pattern64 : (p q : ℕ) → p < 2 ^ 64 → q < 2 ^ 64 → shown64 p ≡ shown64 q → p ≡ q
what_is_shown_fixes_the_pattern64 p q small small' same =
    sym (the_shown_pattern_is_left64 p 0 small) ∙ ap (λ (a : Shown Float ℕ). probe_out64 (Ok a) 0) same ∙ the_shown_pattern_is_left64 q 0 small'

module _ (level : ℕ) (s : List ℕ) (bytes : Below 256 s) where
  -- a probe whose number is 0 leaves the value at its index ..
  pub probe32_leaves_the_value : (i old : ℕ) → answer_number (probe_answer32 level s i) ≡ 0 → probe_out32 (probe_answer32 level s i) old ≡ value_at s i
  probe32_leaves_the_value i old accepted =
      let shows = probed_value_fits32 level s bytes i accepted in
      ap (λ (a : Result (Shown Float ℕ) Refusal). probe_out32 a old) shows.0 ∙ the_shown_pattern_is_left32 (value_at s i) old shows.1

  -- .. and where unpack accepts, the value that unpack leaves there
  pub probe32_leaves_what_unpack_leaves : (out : List ℕ) (n i old : ℕ) → unpack_answer 32 level s (length out) ≡ Ok n → i < n
      → probe_out32 (probe_answer32 level s i) old ≡ get_or (unpack_out 32 level s out) i 0
  probe32_leaves_what_unpack_leaves out n i old done below =
      ap (λ (a : Result (Shown Float ℕ) Refusal). probe_out32 a old) (probe_as_unpack32 level s out n i done below)
      ∙ the_shown_pattern_is_left32 (get_or (unpack_out 32 level s out) i 0) old (unpacked_value_fits level s bytes 32 out n i done below)

  -- a probe whose number is 0 leaves the value at its index ..
  pub probe64_leaves_the_value : (i old : ℕ) → answer_number (probe_answer64 level s i) ≡ 0 → probe_out64 (probe_answer64 level s i) old ≡ value_at s i
  probe64_leaves_the_value i old accepted =
      let shows = probed_value_fits64 level s bytes i accepted in
      ap (λ (a : Result (Shown Float ℕ) Refusal). probe_out64 a old) shows.0 ∙ the_shown_pattern_is_left64 (value_at s i) old shows.1

  -- .. and where unpack accepts, the value that unpack leaves there
  pub probe64_leaves_what_unpack_leaves : (out : List ℕ) (n i old : ℕ) → unpack_answer 64 level s (length out) ≡ Ok n → i < n
      → probe_out64 (probe_answer64 level s i) old ≡ get_or (unpack_out 64 level s out) i 0
  probe64_leaves_what_unpack_leaves out n i old done below =
      ap (λ (a : Result (Shown Float ℕ) Refusal). probe_out64 a old) (probe_as_unpack64 level s out n i done below)
      ∙ the_shown_pattern_is_left64 (get_or (unpack_out 64 level s out) i 0) old (unpacked_value_fits level s bytes 64 out n i done below)

-- ---- a refusal, whose number is not 0, leaves what was lent for the second answer as it was

pub a_refused_probe32_leaves_the_pattern : (a : Result (Shown Float ℕ) Refusal) (old : ℕ) → (answer_number a ≡ 0 → ⊥) → probe_out32 a old ≡ old
unfolding answer_number probe_out32
a_refused_probe32_leaves_the_pattern (Ok (Finite x)) old refused = absurd (refused refl)
a_refused_probe32_leaves_the_pattern (Ok (Infinity negative)) old refused = absurd (refused refl)
a_refused_probe32_leaves_the_pattern (Ok (NotANumber p)) old refused = absurd (refused refl)
a_refused_probe32_leaves_the_pattern (Err refusal) old refused = refl

pub a_refused_probe64_leaves_the_pattern : (a : Result (Shown Float ℕ) Refusal) (old : ℕ) → (answer_number a ≡ 0 → ⊥) → probe_out64 a old ≡ old
unfolding answer_number probe_out64
a_refused_probe64_leaves_the_pattern (Ok (Finite x)) old refused = absurd (refused refl)
a_refused_probe64_leaves_the_pattern (Ok (Infinity negative)) old refused = absurd (refused refl)
a_refused_probe64_leaves_the_pattern (Ok (NotANumber p)) old refused = absurd (refused refl)
a_refused_probe64_leaves_the_pattern (Err refusal) old refused = refl

-- ---- where a stream is bad. A result r has the refusal r / 2^32 and the detail r % 2^32 (gwz_refusal, gwz_detail); where the refusal is 10,
-- detail / 32 is the first bad chunk and detail % 32 its first bad group (gwz_bad_chunk, gwz_bad_group).

module _ (level : ℕ) (s : List ℕ) (bytes : Below 256 s) where
  pub check_tells_the_place : let r = answer_result (check_answer level s) in r / 2 ^ 32 ≡ 10 → Fault s (r % 2 ^ 32 / 32) (r % 2 ^ 32 % 32)
  check_tells_the_place ten =
      check_names_the_place level s (answer_result (check_answer level s) % 2 ^ 32) (refused_so (check_answer level s) 10 (check_is_spelled level s bytes) (lit< tt) ten)

  pub unpack_tells_the_place : (W room : ℕ) → let r = answer_result (unpack_answer W level s room) in r / 2 ^ 32 ≡ 10 → Fault s (r % 2 ^ 32 / 32) (r % 2 ^ 32 % 32)
  unpack_tells_the_place W room ten =
      unpack_names_the_place level s (answer_result (unpack_answer W level s room) % 2 ^ 32) W room (refused_so (unpack_answer W level s room) 10 (unpack_is_spelled level s bytes W room) (lit< tt) ten)

  -- the summary's operations hand on what check found
  pub add_tells_the_place : (room : ℕ) → let r = answer_result (add_answer level s room) in r / 2 ^ 32 ≡ 10 → Fault s (r % 2 ^ 32 / 32) (r % 2 ^ 32 % 32)
  add_tells_the_place room ten =
      let d = answer_result (add_answer level s room) % 2 ^ 32 in
      check_names_the_place level s d (add_names_the_place level s room d (refused_so (add_answer level s room) 10 (add_is_spelled level s bytes room) (lit< tt) ten))

  pub test_tells_the_place : let r = answer_result (test_answer level s) in r / 2 ^ 32 ≡ 10 → Fault s (r % 2 ^ 32 / 32) (r % 2 ^ 32 % 32)
  test_tells_the_place ten =
      let d = answer_result (test_answer level s) % 2 ^ 32 in
      check_names_the_place level s d (test_names_the_place level s d (refused_so (test_answer level s) 10 (test_is_spelled level s bytes) (lit< tt) ten))

  pub list_tells_the_place : (W x room : ℕ) → let r = answer_result (list_answer W level x s room) in r / 2 ^ 32 ≡ 10 → Fault s (r % 2 ^ 32 / 32) (r % 2 ^ 32 % 32)
  list_tells_the_place W x room ten =
      let d = answer_result (list_answer W level x s room) % 2 ^ 32 in
      check_names_the_place level s d (list_names_the_place W level x s room d (refused_so (list_answer W level x s room) 10 (list_is_spelled level s bytes W x room) (lit< tt) ten))

  -- probe's own chunk
  pub probe32_tells_the_place : (i : ℕ) → let r = probe_result (probe_answer32 level s i) in r / 2 ^ 32 ≡ 10
      → (r % 2 ^ 32 / 32 ≡ i / 1024) × BadGroup s (r % 2 ^ 32 / 32) (r % 2 ^ 32 % 32)
  probe32_tells_the_place i ten =
      probe_names_the_place32 level s (probe_result (probe_answer32 level s i) % 2 ^ 32) i (probe_refused_so (probe_answer32 level s i) 10 (probe_result (probe_answer32 level s i)) (probe32_is_uncut level s bytes i) (lit< tt) ten)

  pub probe64_tells_the_place : (i : ℕ) → let r = probe_result (probe_answer64 level s i) in r / 2 ^ 32 ≡ 10
      → (r % 2 ^ 32 / 32 ≡ i / 1024) × BadGroup s (r % 2 ^ 32 / 32) (r % 2 ^ 32 % 32)
  probe64_tells_the_place i ten =
      probe_names_the_place64 level s (probe_result (probe_answer64 level s i) % 2 ^ 32) i (probe_refused_so (probe_answer64 level s i) 10 (probe_result (probe_answer64 level s i)) (probe64_is_uncut level s bytes i) (lit< tt) ten)
