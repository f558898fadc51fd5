-- The theorems of the number rules for C: what a caller reads off the one number and off what it lent. The words are those of specs/, the
-- proofs citations of the laws.
use mathlib.Core.Path.{◌≡◌, refl, sym, ap, ◌∙◌}
use Prim.Native.Nat.{ℕ, ◌/◌, ◌%◌, ◌^◌, ◌<◌}
use lib.Dec.{lit<}
use Rattle.numbers.specs.Signed.{signed_view, bits_of}
use Rattle.numbers.specs.Answers.{code_number, pattern_number}
use Rattle.numbers.specs.Bound.{bound_answer, bound_number, bound_detail}
use Rattle.std.specs.Prelude.{Option, Some, None, Result, Ok, Err}
use Rattle.numbers.specs.declared.tolerance.PatternError.{PatternError}
use Rattle.numbers.specs.declared.tolerance.PatternError.TheVariants.{NotAllowed, AboveLargest}
use Rattle.gwizdorad_numbers.specs.Result.{result_of, bound_result, code_result, code_out, pattern_result, pattern_out}
use Rattle.gwizdorad_numbers.specs.Theorem.{Uncut}
use Rattle.gwizdorad_numbers.proofs.Law.Spelled.{uncut, apart, signed_fits, bound_folded, bound_number_small, bound_told}

-- ---- nothing is cut: a number, and the detail or the answer beside it, have 32 bits each

-- whatever fits in 32 bits each is spelled whole
pub two_that_fit_are_uncut : (number detail : ℕ) → number < 2 ^ 32 → detail < 2 ^ 32 → Uncut number detail (result_of number detail)
two_that_fit_are_uncut number detail n d = uncut number detail n d

-- bound's k stands in two's complement, and is read back from it
pub bound_is_uncut : (width tolerance : ℕ) → let a = bound_answer width tolerance in
    Uncut (bound_number a) (bits_of 32 (bound_detail a)) (bound_result a) × (signed_view 32 (bits_of 32 (bound_detail a)) ≡ bound_detail a)
unfolding bound_result
bound_is_uncut width tolerance =
    let a = bound_answer width tolerance in
    let k = signed_fits (bound_detail a) (bound_folded width tolerance) in
    (uncut (bound_number a) (bits_of 32 (bound_detail a)) (bound_number_small a) k.0, k.1)

-- the tolerance code and its way back have a number, and nothing beside it
pub code_is_uncut : (a : Option ℕ) → Uncut (code_number a) 0 (code_result a)
unfolding code_result code_number
code_is_uncut (Some c) = uncut 0 0 (lit< tt) (lit< tt)
code_is_uncut None = uncut 2 0 (lit< tt) (lit< tt)

pub pattern_is_uncut : (a : Result ℕ PatternError) → Uncut (pattern_number a) 0 (pattern_result a)
unfolding pattern_result pattern_number
pattern_is_uncut (Ok p) = uncut 0 0 (lit< tt) (lit< tt)
pattern_is_uncut (Err NotAllowed) = uncut 2 0 (lit< tt) (lit< tt)
pattern_is_uncut (Err AboveLargest) = uncut 10 0 (lit< tt) (lit< tt)

-- ---- a caller takes the result apart: r / 2^32 is the number, r % 2^32 the detail or the answer

pub a_result_is_taken_apart : {number detail r : ℕ} → Uncut number detail r → (r / 2 ^ 32 ≡ number) × (r % 2 ^ 32 ≡ detail)
a_result_is_taken_apart u = apart u

-- so the same result is the same number and the same detail
pub a_result_tells_both : {number detail number' detail' r : ℕ} → Uncut number detail r → Uncut number' detail' r → (number ≡ number') × (detail ≡ detail')
a_result_tells_both u v = (sym (apart u).0 ∙ (apart v).0, sym (apart u).1 ∙ (apart v).1)

-- and of bound
pub a_result_tells_the_bound : (width tolerance width' tolerance' : ℕ) → bound_result (bound_answer width tolerance) ≡ bound_result (bound_answer width' tolerance')
    → bound_answer width tolerance ≡ bound_answer width' tolerance'
a_result_tells_the_bound width tolerance width' tolerance' same =
    let u = bound_is_uncut width tolerance in
    let v = bound_is_uncut width' tolerance' in
    let both = a_result_tells_both (rw same at u.0) v.0 in
    bound_told (bound_answer width tolerance) (bound_answer width' tolerance') both.0 (sym u.1 ∙ ap (signed_view 32) both.1 ∙ v.1)

-- ---- a refusal, whose number is not 0, leaves what was lent for the second answer as it was

pub a_refused_code_is_not_written : (a : Option ℕ) (old : ℕ) → (code_number a ≡ 0 → ⊥) → code_out a old ≡ old
unfolding code_number code_out
a_refused_code_is_not_written (Some c) old refused = absurd (refused refl)
a_refused_code_is_not_written None old refused = refl

pub a_refused_pattern_is_not_written : (a : Result ℕ PatternError) (old : ℕ) → (pattern_number a ≡ 0 → ⊥) → pattern_out a old ≡ old
unfolding pattern_number pattern_out
a_refused_pattern_is_not_written (Ok p) old refused = absurd (refused refl)
a_refused_pattern_is_not_written (Err e) old refused = refl
