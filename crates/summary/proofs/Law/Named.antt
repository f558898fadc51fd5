-- Numbers in order: those from i on at which something holds (`numbers_from`).
use mathlib.Core.Path.{◌≡◌, refl, sym, ap, ◌∙◌}
use mathlib.Core.Logic.{◌⊎◌, inl, inr}
use mathlib.Core.Bool.{Bool, true, false, cond, false≢true}
use mathlib.Core.List.{List, ◌∷◌}
use Prim.Native.Nat.{ℕ, zero, suc, ◌+◌, ◌≤◌, ◌<◌}
use native.Mathlib.Nat.{not-suc-le-zero}
use native.Mathlib.Omega.{arith}
use borrow.Author.Tests.{eq-eqb, eqb-true}
use lib.Dec.{eqb}
use lib.ListN.{length, get_or}
use Rattle.summary.specs.Summary.{numbers_from}

-- the number j is the n-th
abbrev pub Stands : List ℕ → ℕ → Type 0
Stands ns j = (n : ℕ) × (n < length ns) × (get_or ns n 0 ≡ j)

-- it is one of the k from i on, and f holds at it
abbrev pub Named : (ℕ → Bool) → ℕ → ℕ → ℕ → Type 0
Named f k i j = (i ≤ j) × (j < i + k) × (f j ≡ true)

or_other : (i j : ℕ) → (i ≡ j) ⊎ (i ≡ j → ⊥)
or_other i j = go (eqb i j) refl
  where
    go : (b : Bool) → eqb i j ≡ b → (i ≡ j) ⊎ (i ≡ j → ⊥)
    go true e = inl (eqb-true i j e)
    go false e = inr (λ is. false≢true (sym e ∙ eq-eqb i j is))

module _ (f : ℕ → Bool) where
  pub named : (k i n : ℕ) → n < length (numbers_from f k i) → Named f k i (get_or (numbers_from f k i) n 0)
  unfolding numbers_from
  named zero i n l = absurd (not-suc-le-zero l)
  named (suc k) i n l = go (f i) refl n l (λ m l'. named k (suc i) m l')
    where
      later : (j : ℕ) → Named f k (suc i) j → Named f (suc k) i j
      later j p = (omega (arith, p.0), omega (arith, p.1), p.2)

      go : (b : Bool) → f i ≡ b → (n : ℕ) → n < length (cond b (i ∷ numbers_from f k (suc i)) (numbers_from f k (suc i)))
          → ((m : ℕ) → m < length (numbers_from f k (suc i)) → Named f k (suc i) (get_or (numbers_from f k (suc i)) m 0))
          → Named f (suc k) i (get_or (cond b (i ∷ numbers_from f k (suc i)) (numbers_from f k (suc i))) n 0)
      go true e zero l again = (omega arith, omega arith, e)
      go true e (suc n) l again = later _ (again n (omega (arith, l)))
      go false e n l again = later _ (again n l)

  pub stands : (k i j : ℕ) → Named f k i j → Stands (numbers_from f k i) j
  unfolding numbers_from
  stands zero i j p = absurd (let q : j < j = omega (arith, p.0, p.1) in omega arith)
  stands (suc k) i j p = go (f i) refl (λ q. stands k (suc i) j q)
    where
      here : (i ≡ j → ⊥) → Named f k (suc i) j
      here other = (omega (arith, p.0), omega (arith, p.1), p.2)

      pick : (Named f k (suc i) j → Stands (numbers_from f k (suc i)) j) → (i ≡ j) ⊎ (i ≡ j → ⊥) → Stands (i ∷ numbers_from f k (suc i)) j
      pick again (inl is) = (0, omega arith, is)
      pick again (inr other) = let r = again (here other) in (suc r.0, omega (arith, r.1), r.2)

      go : (b : Bool) → f i ≡ b → (Named f k (suc i) j → Stands (numbers_from f k (suc i)) j) → Stands (cond b (i ∷ numbers_from f k (suc i)) (numbers_from f k (suc i))) j
      go true e again = pick again (or_other i j)
      go false e again = again (here (λ is. false≢true (sym e ∙ ap f is ∙ p.2)))

  -- each greater than the one before
  pub rising : (k i n : ℕ) → suc n < length (numbers_from f k i) → get_or (numbers_from f k i) n 0 < get_or (numbers_from f k i) (suc n) 0
  unfolding numbers_from
  rising zero i n l = absurd (not-suc-le-zero l)
  rising (suc k) i n l = go (f i) n l (λ m l'. rising k (suc i) m l')
    where
      go : (b : Bool) (n : ℕ) → suc n < length (cond b (i ∷ numbers_from f k (suc i)) (numbers_from f k (suc i)))
          → ((m : ℕ) → suc m < length (numbers_from f k (suc i)) → get_or (numbers_from f k (suc i)) m 0 < get_or (numbers_from f k (suc i)) (suc m) 0)
          → get_or (cond b (i ∷ numbers_from f k (suc i)) (numbers_from f k (suc i))) n 0 < get_or (cond b (i ∷ numbers_from f k (suc i)) (numbers_from f k (suc i))) (suc n) 0
      go true zero l again = (named k (suc i) 0 (omega (arith, l))).0
      go true (suc n) l again = again n (omega (arith, l))
      go false n l again = again n l

  -- at most all
  pub names_most : (k i : ℕ) → length (numbers_from f k i) ≤ k
  unfolding numbers_from
  names_most zero i = omega arith
  names_most (suc k) i = go (f i) (names_most k (suc i))
    where
      go : (b : Bool) → length (numbers_from f k (suc i)) ≤ k → length (cond b (i ∷ numbers_from f k (suc i)) (numbers_from f k (suc i))) ≤ suc k
      go true h = omega (arith, h)
      go false h = omega (arith, h)
