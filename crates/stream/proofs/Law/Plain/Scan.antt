-- Scans: a definition that goes from i on through k steps, and the loop that follows it. "What is left decides": at each turn of the
-- loop the whole is what the steps that are left make.
use mathlib.Core.Path.{◌≡◌, refl, sym, ap, ◌∙◌}
use mathlib.Core.Logic.{◌⊎◌, inl, inr}
use mathlib.Core.Bool.{Bool, true, false, ◌&&◌}
use mathlib.Core.List.{[], ◌∷◌}
use Prim.Native.Nat.{ℕ, zero, suc, ◌+◌, ◌-◌, ◌≤◌, ◌<◌}
use native.Mathlib.Numerals.{add-one}
use native.Mathlib.Omega.{arith}
use Rattle.stream.specs.Tables.{every}
use Rattle.stream.specs.Rows.{Row, rows_from, first}
use Rattle.std.specs.Prelude.{⊤, Result, Ok, Err}
use Rattle.stream.specs.declared.answers.Refusal.{Refusal}
use Rattle.stream.proofs.Law.Rows.First.{passed, stopped, passed_both}
use Rattle.blocks.proofs.Law.Truth.{le_or_lt}
use Rattle.stream.proofs.Law.Plain.Truth.{and_left, and_right}

module _ {A : Type 0} (S : ℕ → ℕ → A) where
  -- the step at i, and then the rest
  pub next : (g : ℕ → A → A) → ((k i : ℕ) → S (suc k) i ≡ g i (S k (suc i))) → (n i : ℕ) → i < n → S (n - i) i ≡ g i (S (n - (i + 1)) (i + 1))
  next g unroll n i h =
      ap (λ (k : ℕ). S k i) (let e : n - i ≡ suc (n - (i + 1)) = omega arith in e)
      ∙ unroll (n - (i + 1)) i
      ∙ ap (λ (j : ℕ). g i (S (n - (i + 1)) j)) (sym (add-one i))

  -- all steps are left at the start, and none at the end
  pub all_left : (n : ℕ) → S n 0 ≡ S (n - 0) 0
  all_left n = ap (λ (k : ℕ). S k 0) (let e : n ≡ n - 0 = omega arith in e)

  pub none_left : (n i : ℕ) → n ≤ i → S (n - i) i ≡ S 0 i
  none_left n i h = ap (λ (k : ℕ). S k i) (let e : n - i ≡ 0 = omega arith in e)

module _ (f : ℕ → Bool) where
  every_next : (n i : ℕ) → i < n → every f (n - i) i ≡ f i && every f (n - (i + 1)) (i + 1)
  unfolding every
  every_next = next (every f) (λ i rest. f i && rest) (λ k i. refl)

  pub every_on : (n i : ℕ) → i < n → f i ≡ true → every f (n - i) i ≡ every f (n - (i + 1)) (i + 1)
  every_on n i h e = every_next n i h ∙ ap (λ (b : Bool). b && every f (n - (i + 1)) (i + 1)) e

  pub every_broken : (n i : ℕ) → i < n → f i ≡ false → every f (n - i) i ≡ false
  every_broken n i h e = every_next n i h ∙ ap (λ (b : Bool). b && every f (n - (i + 1)) (i + 1)) e

  pub every_done : (n i : ℕ) → n ≤ i → every f (n - i) i ≡ true
  unfolding every
  every_done n i h = none_left (every f) n i h

  -- what holds of each holds of one
  pub every_at : (k i j : ℕ) → every f k i ≡ true → i ≤ j → j < i + k → f j ≡ true
  unfolding every
  every_at zero i j e l h = absurd (omega arith)
  every_at (suc k) i j e l h =
      go (le_or_lt j i) (λ m. every_at k (suc i) j (and_right (f i) (every f k (suc i)) e) m (omega arith))
    where
      go : (j ≤ i) ⊎ (i < j) → (suc i ≤ j → f j ≡ true) → f j ≡ true
      go (inl m) later = ap f (let q : j ≡ i = omega arith in q) ∙ and_left (f i) (every f k (suc i)) e
      go (inr m) later = later m

module _ (f : ℕ → Row) where
  rows_next : (n i : ℕ) → i < n → rows_from f (n - i) i ≡ f i ∷ rows_from f (n - (i + 1)) (i + 1)
  unfolding rows_from
  rows_next = next (rows_from f) (λ i rest. f i ∷ rest) (λ k i. refl)

  pub rows_on : (n i : ℕ) → i < n → first (f i ∷ []) ≡ Ok tt → first (rows_from f (n - i) i) ≡ first (rows_from f (n - (i + 1)) (i + 1))
  rows_on n i h e = ap first (rows_next n i h) ∙ passed (f i) (rows_from f (n - (i + 1)) (i + 1)) e

  pub rows_stop : (refusal : Refusal) (n i : ℕ) → i < n → first (f i ∷ []) ≡ Err refusal → first (rows_from f (n - i) i) ≡ Err refusal
  rows_stop refusal n i h e = ap first (rows_next n i h) ∙ stopped refusal (f i) (rows_from f (n - (i + 1)) (i + 1)) e

  pub rows_done : (n i : ℕ) → n ≤ i → first (rows_from f (n - i) i) ≡ Ok tt
  unfolding rows_from first
  rows_done n i h = ap first (none_left (rows_from f) n i h)

  -- rows of which none is given: none of them is
  pub rows_at : (k i j : ℕ) → first (rows_from f k i) ≡ Ok tt → i ≤ j → j < i + k → first (f j ∷ []) ≡ Ok tt
  unfolding rows_from
  rows_at zero i j e l h = absurd (omega arith)
  rows_at (suc k) i j e l h =
      go (le_or_lt j i) (λ m. rows_at k (suc i) j both.1 m (omega arith))
    where
      both : (first (f i ∷ []) ≡ Ok tt) × (first (rows_from f k (suc i)) ≡ Ok tt)
      both = passed_both (f i) (rows_from f k (suc i)) e

      go : (j ≤ i) ⊎ (i < j) → (suc i ≤ j → first (f j ∷ []) ≡ Ok tt) → first (f j ∷ []) ≡ Ok tt
      go (inl m) later = ap (λ (j : ℕ). first (f j ∷ [])) (let q : j ≡ i = omega arith in q) ∙ both.0
      go (inr m) later = later m

  -- the row that is found, and none before it
  pub record FoundRow (refusal : Refusal) (k i : ℕ) : Type 0 where
    pub at : ℕ
    pub from : i ≤ at
    pub below : at < i + k
    pub before : (l : ℕ) → i ≤ l → l < at → first (f l ∷ []) ≡ Ok tt
    pub stops : first (f at ∷ []) ≡ Err refusal

  one_more : (refusal : Refusal) (k i : ℕ) → first (f i ∷ []) ≡ Ok tt → FoundRow refusal k (suc i) → FoundRow refusal (suc k) i
  one_more refusal k i pass r =
      record { at = r.at; from = omega (arith, r.from); below = omega (arith, r.below); before = λ l low high. go l low high (le_or_lt l i); stops = r.stops }
    where
      go : (l : ℕ) → i ≤ l → l < r.at → (l ≤ i) ⊎ (i < l) → first (f l ∷ []) ≡ Ok tt
      go l low high (inl m) = ap (λ (j : ℕ). first (f j ∷ [])) (let q : l ≡ i = omega arith in q) ∙ pass
      go l low high (inr m) = r.before l m high

  pub rows_found : (refusal : Refusal) (k i : ℕ) → first (rows_from f k i) ≡ Err refusal → FoundRow refusal k i
  unfolding rows_from first
  rows_found refusal zero i e = let z : Ok tt ≡ Err refusal = e in absurd (let n : ◌≡◌ {A = ℕ} 0 1 = cc in omega (arith, n))
  rows_found refusal (suc k) i e = go (first (f i ∷ [])) refl (λ r. rows_found refusal k (suc i) r)
    where
      go : (a : Result ⊤ Refusal) → first (f i ∷ []) ≡ a → (first (rows_from f k (suc i)) ≡ Err refusal → FoundRow refusal k (suc i)) → FoundRow refusal (suc k) i
      go (Ok u) pass later = one_more refusal k i pass (later (sym (passed (f i) (rows_from f k (suc i)) pass) ∙ e))
      go (Err x) stop later =
          record { at = i; from = omega arith; below = omega arith; before = λ l low high. absurd (omega arith); stops = stop ∙ sym (stopped x (f i) (rows_from f k (suc i)) stop) ∙ e }
