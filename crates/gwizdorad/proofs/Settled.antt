-- "That two answers meeting it are equal is proved", of every function for C: two calls that meet its promise return the same number and
-- leave the same. Each promise is an equation with a definition of specs/, so one law says it of all.
use mathlib.Core.Path.{◌≡◌}
use mathlib.Core.List.{List}
use Prim.Native.Nat.{ℕ}
use lib.IntN.{ℤ}
use lib.ListN.{length}
use Rattle.numbers.specs.Lossless.{lossless_code, lossless_restored}
use Rattle.numbers.specs.Difference.{difference_code, difference_restored}
use Rattle.numbers.specs.Answers.{code_answer, pattern_answer}
use Rattle.numbers.specs.Bound.{bound_answer}
use Rattle.stream.specs.Operations.{check_answer, unpack_answer, unpack_out, probe_answer32, probe_answer64, length_answer, pack_answer, pack_out}
use Rattle.stream.proofs.Settled.{one, Promised, both}
use Rattle.summary.specs.Operations.{add_answer, add_out, test_answer, list_answer, list_out}
use Rattle.gwizdorad_numbers.specs.Result.{bound_result, code_result, code_out, pattern_result, pattern_out}
use Rattle.gwizdorad.specs.Result.{answer_result, probe_result, probe_out32, probe_result, probe_out64}

-- ---- gwz_pack32, gwz_pack64, gwz_length32, gwz_length64

module _ (W level mode : ℕ) (k : ℤ) (group : ℕ) (vs : List ℕ) where
  pub gwz_length_is_settled : (r r' : ℕ) → r ≡ answer_result (length_answer W level mode k group vs) → r' ≡ answer_result (length_answer W level mode k group vs) → r ≡ r'
  gwz_length_is_settled r r' = one

  pub gwz_pack_is_settled : (out : List ℕ) (r r' : ℕ) (now now' : List ℕ)
      → Promised (answer_result (pack_answer W level mode k group vs (length out))) (pack_out W level mode k group vs out) r now
      → Promised (answer_result (pack_answer W level mode k group vs (length out))) (pack_out W level mode k group vs out) r' now'
      → (r ≡ r') × (now ≡ now')
  gwz_pack_is_settled out r r' now now' = both

-- ---- gwz_check, gwz_unpack32, gwz_unpack64, gwz_probe32, gwz_probe64

module _ (level : ℕ) (s : List ℕ) where
  pub gwz_check_is_settled : (r r' : ℕ) → r ≡ answer_result (check_answer level s) → r' ≡ answer_result (check_answer level s) → r ≡ r'
  gwz_check_is_settled r r' = one

  pub gwz_unpack_is_settled : (W : ℕ) (out : List ℕ) (r r' : ℕ) (now now' : List ℕ)
      → Promised (answer_result (unpack_answer W level s (length out))) (unpack_out W level s out) r now
      → Promised (answer_result (unpack_answer W level s (length out))) (unpack_out W level s out) r' now'
      → (r ≡ r') × (now ≡ now')
  gwz_unpack_is_settled W out r r' now now' = both

  pub gwz_probe32_is_settled : (i old r r' now now' : ℕ)
      → Promised (probe_result (probe_answer32 level s i)) (probe_out32 (probe_answer32 level s i) old) r now
      → Promised (probe_result (probe_answer32 level s i)) (probe_out32 (probe_answer32 level s i) old) r' now'
      → (r ≡ r') × (now ≡ now')
  gwz_probe32_is_settled i old r r' now now' = both

  pub gwz_probe64_is_settled : (i old r r' now now' : ℕ)
      → Promised (probe_result (probe_answer64 level s i)) (probe_out64 (probe_answer64 level s i) old) r now
      → Promised (probe_result (probe_answer64 level s i)) (probe_out64 (probe_answer64 level s i) old) r' now'
      → (r ≡ r') × (now ≡ now')
  gwz_probe64_is_settled i old r r' now now' = both

-- ---- gwz_add_summary, gwz_test_summary, gwz_chunks_from32, gwz_chunks_from64

module _ (level : ℕ) (s : List ℕ) where
  pub gwz_add_summary_is_settled : (out : List ℕ) (r r' : ℕ) (now now' : List ℕ)
      → Promised (answer_result (add_answer level s (length out))) (add_out level s out) r now
      → Promised (answer_result (add_answer level s (length out))) (add_out level s out) r' now'
      → (r ≡ r') × (now ≡ now')
  gwz_add_summary_is_settled out r r' now now' = both

  pub gwz_test_summary_is_settled : (r r' : ℕ) → r ≡ answer_result (test_answer level s) → r' ≡ answer_result (test_answer level s) → r ≡ r'
  gwz_test_summary_is_settled r r' = one

  pub gwz_chunks_from_is_settled : (W x : ℕ) (out : List ℕ) (r r' : ℕ) (now now' : List ℕ)
      → Promised (answer_result (list_answer W level x s (length out))) (list_out W level x s out) r now
      → Promised (answer_result (list_answer W level x s (length out))) (list_out W level x s out) r' now'
      → (r ≡ r') × (now ≡ now')
  gwz_chunks_from_is_settled W x out r r' now now' = both

-- ---- the number rules

pub gwz_bound_is_settled : (width tolerance r r' : ℕ) → r ≡ bound_result (bound_answer width tolerance) → r' ≡ bound_result (bound_answer width tolerance) → r ≡ r'
gwz_bound_is_settled width tolerance r r' = one

-- the difference rule, which Rattle alone reaches
module _ (W before : ℕ) where
  pub a_difference_code_is_settled : (p r r' : ℕ) → r ≡ difference_code W before p → r' ≡ difference_code W before p → r ≡ r'
  a_difference_code_is_settled p r r' = one

  pub a_restored_difference_is_settled : (c r r' : ℕ) → r ≡ difference_restored W before c → r' ≡ difference_restored W before c → r ≡ r'
  a_restored_difference_is_settled c r r' = one

module _ (W m : ℕ) where
  pub gwz_lossless_code_is_settled : (p r r' : ℕ) → r ≡ lossless_code W m p → r' ≡ lossless_code W m p → r ≡ r'
  gwz_lossless_code_is_settled p r r' = one

  pub gwz_lossless_restored_is_settled : (c r r' : ℕ) → r ≡ lossless_restored W m c → r' ≡ lossless_restored W m c → r ≡ r'
  gwz_lossless_restored_is_settled c r r' = one

  pub gwz_tolerance_code_is_settled : (halves : ℕ) (k : ℤ) (p old r r' now now' : ℕ)
      → Promised (code_result (code_answer W m halves k p)) (code_out (code_answer W m halves k p) old) r now
      → Promised (code_result (code_answer W m halves k p)) (code_out (code_answer W m halves k p) old) r' now'
      → (r ≡ r') × (now ≡ now')
  gwz_tolerance_code_is_settled halves k p old r r' now now' = both

  pub gwz_tolerance_restored_is_settled : (k : ℤ) (c old r r' now now' : ℕ)
      → Promised (pattern_result (pattern_answer W m k c)) (pattern_out (pattern_answer W m k c) old) r now
      → Promised (pattern_result (pattern_answer W m k c)) (pattern_out (pattern_answer W m k c) old) r' now'
      → (r ≡ r') × (now ≡ now')
  gwz_tolerance_restored_is_settled k c old r r' now now' = both
