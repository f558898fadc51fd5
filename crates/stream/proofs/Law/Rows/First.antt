-- Rows: the first that is given decides.
use mathlib.Core.Path.{◌≡◌, refl, sym, ap, ◌∙◌}
use mathlib.Core.Bool.{Bool, true, false, ◌&&◌, not}
use mathlib.Core.List.{List, [], ◌∷◌, ◌++◌}
use Prim.Native.Nat.{ℕ}
use native.Mathlib.Omega.{arith}
use borrow.Author.Tests.{eq-eqb}
use lib.Dec.{eqb}
use Rattle.stream.specs.Rows.{number_of, Row, row, first, none_given, Decides, numbers_of, answer}
use Rattle.std.specs.Prelude.{⊤, Result, Ok, Err}
use Rattle.std.specs.Result.{IsErrAnd}
use Rattle.std.proofs.lemmas.Result.{err_from_is_err_and}
use Rattle.stream.specs.declared.answers.Refusal.{Refusal}
use Rattle.stream.proofs.Law.Plain.Truth.{and_right}

-- what comes after rows of which none is given
unfoldable pub and_then : Result ⊤ Refusal → Result ⊤ Refusal → Result ⊤ Refusal
and_then (Ok u) later = later
and_then (Err refusal) later = Err refusal

pub then_none : (a : Result ⊤ Refusal) → and_then a (Ok tt) ≡ a
unfolding and_then
then_none (Ok u) = refl
then_none (Err refusal) = refl

pub then_pass : (a b : Result ⊤ Refusal) → and_then a b ≡ Ok tt → (a ≡ Ok tt) × (b ≡ Ok tt)
unfolding and_then
then_pass (Ok u) b e = (refl, e)
then_pass (Err refusal) b e = let z : Err refusal ≡ Ok tt = e in (cc, cc)

first_cons : (r : Row) (rows : List Row) → first (r ∷ rows) ≡ and_then (first (r ∷ [])) (first rows)
unfolding first and_then
first_cons (row refusal true) rows = refl
first_cons (row refusal false) rows = refl

pub first_append : (before rows : List Row) → first (before ++ rows) ≡ and_then (first before) (first rows)
unfolding first and_then
first_append [] rows = refl
first_append (row refusal true ∷ before) rows = refl
first_append (row refusal false ∷ before) rows = first_append before rows

-- one row and then others
module _ (r : Row) (rows : List Row) where
  pub passed : first (r ∷ []) ≡ Ok tt → first (r ∷ rows) ≡ first rows
  unfolding and_then
  passed e = first_cons r rows ∙ ap (λ (a : Result ⊤ Refusal). and_then a (first rows)) e

  pub passed_both : first (r ∷ rows) ≡ Ok tt → (first (r ∷ []) ≡ Ok tt) × (first rows ≡ Ok tt)
  passed_both e = then_pass (first (r ∷ [])) (first rows) (sym (first_cons r rows) ∙ e)

pub stopped : (refusal : Refusal) (r : Row) (rows : List Row) → first (r ∷ []) ≡ Err refusal → first (r ∷ rows) ≡ Err refusal
unfolding and_then
stopped refusal r rows e = first_cons r rows ∙ ap (λ (a : Result ⊤ Refusal). and_then a (first rows)) e

-- a row that is not given
pub not_given : (refusal : Refusal) (given : Bool) → first (row refusal given ∷ []) ≡ Ok tt → given ≡ false
unfolding first
not_given refusal true e = let z : Err refusal ≡ Ok tt = e in cc
not_given refusal false e = refl

-- rows and then others
module _ (before rows : List Row) where
  pub opened : first before ≡ Ok tt → first (before ++ rows) ≡ first rows
  unfolding and_then
  opened e = first_append before rows ∙ ap (λ (a : Result ⊤ Refusal). and_then a (first rows)) e

  pub opened_both : first (before ++ rows) ≡ Ok tt → (first before ≡ Ok tt) × (first rows ≡ Ok tt)
  opened_both e = then_pass (first before) (first rows) (sym (first_append before rows) ∙ e)

pub shut : (refusal : Refusal) (before rows : List Row) → first before ≡ Err refusal → first (before ++ rows) ≡ Err refusal
unfolding and_then
shut refusal before rows e = first_append before rows ∙ ap (λ (a : Result ⊤ Refusal). and_then a (first rows)) e

-- the row that is found is given, and none before it
pub decides : (rows : List Row) (refusal : Refusal) → first rows ≡ Err refusal → Decides rows refusal
unfolding first none_given
decides [] refusal e = let z : Ok tt ≡ Err refusal = e in absurd (let n : ◌≡◌ {A = ℕ} 0 1 = cc in omega (arith, n))
decides (row x true ∷ rows) refusal e =
    let z : Err x ≡ Err refusal = e in
    let same : x ≡ refusal = cc in
    record { before = []; later = rows; listed = ap (λ (a : Refusal). row a true ∷ rows) same; earlier = refl }
decides (row x false ∷ rows) refusal e =
    let r = decides rows refusal e in
    record { before = row x false ∷ r.before; later = r.later; listed = ap (λ (l : List Row). row x false ∷ l) r.listed; earlier = r.earlier }

-- and such a row is found
pub decided : (rows : List Row) (refusal : Refusal) → Decides rows refusal → first rows ≡ Err refusal
unfolding first none_given
decided rows refusal d = ap first d.listed ∙ behind d.before d.earlier
  where
    behind : (before : List Row) → none_given before ≡ true → first (before ++ row refusal true ∷ d.later) ≡ Err refusal
    behind [] e = refl
    behind (row x true ∷ before) e = let z : false ≡ true = e in absurd (let n : ◌≡◌ {A = ℕ} 0 1 = cc in omega (arith, n))
    behind (row x false ∷ before) e = behind before e

-- ---- the rows before one have other numbers

-- none of these numbers is x
unfoldable pub without : ℕ → List ℕ → Bool
without x [] = true
without x (n ∷ ns) = not (eqb n x) && without x ns

pub others : (x : Refusal) (before rows : List Row) → without (number_of x) (numbers_of before) ≡ true → first (before ++ rows) ≡ Err x → (first before ≡ Ok tt) × (first rows ≡ Err x)
unfolding first numbers_of without
others x [] rows w e = (refl, e)
others x (row y true ∷ before) rows w e =
    let z : Err y ≡ Err x = e in
    let same : y ≡ x = cc in
    let no : false ≡ true = rw (eq-eqb (number_of y) (number_of x) (ap number_of same)) at w in
    absurd (let n : ◌≡◌ {A = ℕ} 0 1 = cc in omega (arith, n))
others x (row y false ∷ before) rows w e = others x before rows (and_right (not (eqb (number_of y) (number_of x))) (without (number_of x) (numbers_of before)) w) e

-- ---- an answer tells its rows, and rows make an answer

-- what a `?` returns: the refusal as it came
pub handed_on : {A : Type 0} {r : Result A Refusal} {x : Refusal} → IsErrAnd r (λ y. y ≡ x) → r ≡ Err x
handed_on {A} {r} e = let p = err_from_is_err_and r e in p.1 ∙ ap Err p.2

module _ {A : Type 0} where
  pub refused_is : {x : Refusal} (a : Result ⊤ Refusal) (m : A) → a ≡ Err x → Err x ≡ answer a m
  unfolding answer
  refused_is a m stop = rw stop

  pub refuses : {r : Result A Refusal} {x : Refusal} (a : Result ⊤ Refusal) (m : A) → IsErrAnd r (λ y. y ≡ x) → a ≡ Err x → r ≡ answer a m
  refuses a m e stop = handed_on e ∙ refused_is a m stop

  pub passes : (a : Result ⊤ Refusal) (m n : A) → a ≡ Ok tt → n ≡ m → Ok n ≡ answer a m
  unfolding answer
  passes a m n pass is = rw pass (ap Ok is)

  pub done_pass : (a : Result ⊤ Refusal) (m n : A) → answer a m ≡ Ok n → (a ≡ Ok tt) × (m ≡ n)
  unfolding answer
  done_pass (Ok u) m n e = let z : Ok m ≡ Ok n = e in (refl, cc)
  done_pass (Err x) m n e = let z : Err x ≡ Ok n = e in (cc, cc)

  pub refused_stop : (a : Result ⊤ Refusal) (m : A) (refusal : Refusal) → answer a m ≡ Err refusal → a ≡ Err refusal
  unfolding answer
  refused_stop (Ok u) m refusal e = let z : Ok m ≡ Err refusal = e in cc
  refused_stop (Err x) m refusal e = let z : Err x ≡ Err refusal = e in cc
