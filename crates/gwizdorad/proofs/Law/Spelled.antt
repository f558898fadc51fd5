-- The operations' answers, and probe's kinds, in one number.
use mathlib.Core.Path.{◌≡◌, refl, sym, ap, ap₂, ◌∙◌}
use mathlib.Core.Bool.{cond}
use Prim.Native.Nat.{ℕ, ◌/◌, ◌%◌, ◌^◌, ◌<◌}
use native.Mathlib.Omega.{arith}
use lib.Dec.{eqb, lit<}
use lib.Ieee.{Float}
use Rattle.std.specs.Prelude.{Result, Ok, Err}
use Rattle.stream.specs.Rows.{number_of, detail_of, answer_number, answer_detail}
use Rattle.stream.specs.declared.answers.Refusal.{Refusal}
use Rattle.stream.specs.declared.answers.Refusal.TheVariants.{UnknownLevel, NotAllowed, TooManyValues, NoRoom, NoHeader, OtherMajor, NeedsMinor, BrokenHeader, BrokenTable, BrokenChunk, NoSuchIndex, OtherWidth, MustBeUnderstood, HasSideParts, NoTrueSummary}
use Rattle.stream.specs.declared.answers.Shown.{Shown}
use Rattle.stream.specs.declared.answers.Shown.TheVariants.{Finite, Infinity, NotANumber}
use Rattle.stream.proofs.Fitting.{RefusalFits, Fits}
use Rattle.gwizdorad_numbers.specs.Theorem.{Uncut}
use Rattle.gwizdorad_numbers.proofs.Theorems.{two_that_fit_are_uncut, a_result_is_taken_apart}
use Rattle.gwizdorad.specs.Result.{answer_result, probe_detail, probe_result}
use Rattle.gwizdorad.specs.Theorem.{Spelled}

-- ---- a refusal is told by its number and its detail

-- the refusal of a number (17 for any other), with a detail
abbrev pub refusal_of : ℕ → ℕ → Refusal
refusal_of n d =
    cond (eqb n 1) UnknownLevel
    (cond (eqb n 2) NotAllowed
    (cond (eqb n 3) TooManyValues
    (cond (eqb n 4) (NoRoom d)
    (cond (eqb n 5) NoHeader
    (cond (eqb n 6) OtherMajor
    (cond (eqb n 7) (NeedsMinor d)
    (cond (eqb n 8) BrokenHeader
    (cond (eqb n 9) BrokenTable
    (cond (eqb n 10) (BrokenChunk d)
    (cond (eqb n 11) NoSuchIndex
    (cond (eqb n 14) OtherWidth
    (cond (eqb n 15) (MustBeUnderstood d)
    (cond (eqb n 16) HasSideParts NoTrueSummary)))))))))))))

named : (r : Refusal) → refusal_of (number_of r) (detail_of r) ≡ r
named UnknownLevel = refl
named NotAllowed = refl
named TooManyValues = refl
named (NoRoom needed) = refl
named NoHeader = refl
named OtherMajor = refl
named (NeedsMinor needed) = refl
named BrokenHeader = refl
named BrokenTable = refl
named (BrokenChunk place) = refl
named NoSuchIndex = refl
named OtherWidth = refl
named (MustBeUnderstood id) = refl
named HasSideParts = refl
named NoTrueSummary = refl

refusal_told : (a b : Refusal) → number_of a ≡ number_of b → detail_of a ≡ detail_of b → a ≡ b
refusal_told a b number detail = sym (named a) ∙ ap₂ refusal_of number detail ∙ named b

-- ---- answers

pub answer_spelled : (a : Result ℕ Refusal) → Fits a → Spelled a
unfolding answer_result answer_number answer_detail
answer_spelled (Ok n) small =
    record {
      uncut = two_that_fit_are_uncut 0 n (lit< tt) small;
      numbered = λ refusal e. let z : ◌≡◌ {A = ℕ} 0 1 = cc in absurd (omega arith);
    }
answer_spelled (Err x) told =
    record {
      uncut = two_that_fit_are_uncut (number_of x) (detail_of x) told.number_small told.detail_small;
      numbered = λ refusal e. let same : x ≡ refusal = cc in rw same at told.some;
    }

-- an answer is told by its number and what stands beside it
pub answer_told : (a b : Result ℕ Refusal) → Spelled a → Spelled b → answer_number a ≡ answer_number b → answer_detail a ≡ answer_detail b → a ≡ b
unfolding answer_number answer_detail
answer_told (Ok n) (Ok m) s t number detail = ap Ok detail
answer_told (Ok n) (Err x) s t number detail = absurd (omega (arith, t.numbered x refl, number))
answer_told (Err x) (Ok n) s t number detail = absurd (omega (arith, s.numbered x refl, number))
answer_told (Err x) (Err y) s t number detail = ap Err (refusal_told x y number detail)

pub probe_spelled : (a : Result (Shown Float ℕ) Refusal) → ((refusal : Refusal) → a ≡ Err refusal → RefusalFits refusal)
    → Uncut (answer_number a) (probe_detail a) (probe_result a)
unfolding probe_result answer_number probe_detail
probe_spelled (Ok (Finite x)) h = two_that_fit_are_uncut 0 0 (lit< tt) (lit< tt)
probe_spelled (Ok (Infinity negative)) h = two_that_fit_are_uncut 0 1 (lit< tt) (lit< tt)
probe_spelled (Ok (NotANumber p)) h = two_that_fit_are_uncut 0 2 (lit< tt) (lit< tt)
probe_spelled (Err x) h = let r = h x refl in two_that_fit_are_uncut (number_of x) (detail_of x) r.number_small r.detail_small

-- ---- a refusal, from its result: the halves are a number that is not 0, and the detail

module _ {A : Type 0} (detail : Result A Refusal → ℕ) (says : (r : Refusal) → detail (Err r) ≡ detail_of r) where
  told : (a : Result A Refusal) (x y : ℕ) → 0 < x → answer_number a ≡ x → detail a ≡ y → a ≡ Err (refusal_of x y)
  unfolding answer_number
  told (Ok n) x y some number is = absurd (omega (arith, number))
  told (Err r) x y some number is = ap Err (sym (named r) ∙ ap₂ refusal_of number (sym (says r) ∙ is))

  from_result : (a : Result A Refusal) (x r : ℕ) → Uncut (answer_number a) (detail a) r → 0 < x → r / 2 ^ 32 ≡ x → a ≡ Err (refusal_of x (r % 2 ^ 32))
  from_result a x r uncut some is = let t = a_result_is_taken_apart uncut in told a x (r % 2 ^ 32) some (sym t.0 ∙ is) (sym t.1)

pub refused_so : (a : Result ℕ Refusal) (x : ℕ) → Spelled a → 0 < x → answer_result a / 2 ^ 32 ≡ x → a ≡ Err (refusal_of x (answer_result a % 2 ^ 32))
unfolding answer_detail
refused_so a x spelled = from_result answer_detail (λ r. refl) a x (answer_result a) spelled.uncut

pub probe_refused_so : (a : Result (Shown Float ℕ) Refusal) (x r : ℕ) → Uncut (answer_number a) (probe_detail a) r → 0 < x → r / 2 ^ 32 ≡ x → a ≡ Err (refusal_of x (r % 2 ^ 32))
unfolding probe_detail
probe_refused_so a x r = from_result probe_detail (λ r. refl) a x r
