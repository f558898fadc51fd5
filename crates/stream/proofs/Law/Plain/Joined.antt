-- Lists f 0, f 1, .. joined one after the other: how long, which part is which, and what holds of every element.
use mathlib.Core.Path.{◌≡◌, refl, sym, ap, ap₂, ◌∙◌}
use mathlib.Core.Logic.{◌⊎◌, inl, inr}
use mathlib.Core.List.{List, [], ◌∷◌, ◌++◌, map, map-append, append_assoc, append-nil}
use Prim.Native.Nat.{ℕ, zero, suc, ◌+◌, ◌-◌, ◌≤◌, ◌<◌}
use native.Mathlib.Nat.{add-zero, add-suc}
use native.Mathlib.Numerals.{add-one}
use native.Mathlib.Omega.{arith}
use lib.ListN.{length, take, drop, get_or, length-append, get_or-append}
use lib.Seq.{take_at, drop_at, get_or_at}
use Rattle.blocks.specs.Bytes.{Below}
use Rattle.stream.specs.Stream.{joined}
use Rattle.blocks.proofs.Law.Truth.{le_or_lt}
use Rattle.blocks.proofs.Law.Digits.{below_append}

module _ (f : ℕ → List ℕ) where
  pub length_joined : (j : ℕ) → length (joined f (suc j)) ≡ length (joined f j) + length (f j)
  unfolding joined
  length_joined j = length-append (joined f j) (f j)

  -- the first j, and what is behind them
  behind : ℕ → ℕ → List ℕ
  behind j zero = []
  behind j (suc d) = behind j d ++ f (j + d)

  split : (j d : ℕ) → joined f (j + d) ≡ joined f j ++ behind j d
  unfolding joined behind
  split j zero = ap (joined f) (add-zero j) ∙ sym (append-nil (joined f j))
  split j (suc d) =
      ap (joined f) (add-suc j d) ∙ ap (λ (l : List ℕ). l ++ f (j + d)) (split j d) ∙ append_assoc (joined f j) (behind j d) (f (j + d))

  pub joined_grows : (j k : ℕ) → j ≤ k → length (joined f j) ≤ length (joined f k)
  joined_grows j k h =
      let e : length (joined f k) ≡ length (joined f j) + length (behind j (k - j)) =
      ap (λ (n : ℕ). length (joined f n)) (let q : k ≡ j + (k - j) = omega arith in q)
      ∙ ap length (split j (k - j)) ∙ length-append (joined f j) (behind j (k - j)) in
      omega arith

  -- the list number j stands between the lengths of the first j and the first j + 1
  pub joined_part : (j k : ℕ) (t : List ℕ) → j < k
      → take (length (joined f (j + 1)) - length (joined f j)) (drop (length (joined f j)) (joined f k ++ t)) ≡ f j
  unfolding joined
  joined_part j k t h =
      let rest = behind (suc j) (k - suc j) ++ t in
      let whole : joined f k ++ t ≡ joined f j ++ (f j ++ rest) =
      ap (λ (n : ℕ). joined f n ++ t) (let q : k ≡ suc j + (k - suc j) = omega arith in q)
      ∙ ap (λ (l : List ℕ). l ++ t) (split (suc j) (k - suc j))
      ∙ append_assoc (joined f j ++ f j) (behind (suc j) (k - suc j)) t
      ∙ append_assoc (joined f j) (f j) rest in
      ap₂ (λ (n : ℕ) (l : List ℕ). take (length (joined f n) - length (joined f j)) l) (add-one j)
      (ap (drop (length (joined f j))) whole ∙ drop_at (joined f j) (f j ++ rest) (length (joined f j)) refl)
      ∙ take_at (f j) rest (length (joined f j ++ f j) - length (joined f j)) (let e = length_joined j in omega arith)

  pub joined_below : (b : ℕ) → 0 < b → ((j : ℕ) → Below b (f j)) → (k : ℕ) → Below b (joined f k)
  unfolding joined
  joined_below b some h zero = λ i. some
  joined_below b some h (suc k) = below_append b (joined f k) (f k) (joined_below b some h k) (h k)

  pub joined_map : (g : ℕ → ℕ) (k : ℕ) → joined (λ j. map g (f j)) k ≡ map g (joined f k)
  unfolding joined
  joined_map g zero = refl
  joined_map g (suc k) = ap (λ (l : List ℕ). l ++ map g (f k)) (joined_map g k) ∙ sym (map-append g (joined f k) (f k))

  pub joined_same : (g : ℕ → List ℕ) (k : ℕ) → ((j : ℕ) → j < k → f j ≡ g j) → joined f k ≡ joined g k
  unfolding joined
  joined_same g zero h = refl
  joined_same g (suc k) h = ap₂ ◌++◌ (joined_same g k (λ j l. h j (omega arith))) (h k (omega arith))

  pub lengths_joined : (g : ℕ → List ℕ) (k : ℕ) → ((j : ℕ) → length (f j) ≡ length (g j)) → length (joined f k) ≡ length (joined g k)
  unfolding joined
  lengths_joined g zero h = refl
  lengths_joined g (suc k) h = length-append (joined f k) (f k) ∙ ap₂ ◌+◌ (lengths_joined g k h) (h k) ∙ sym (length-append (joined g k) (g k))

-- one element each
module _ (a : ℕ → ℕ) where
  pub length_singles : (k : ℕ) → length (joined (λ j. a j ∷ []) k) ≡ k
  unfolding joined
  length_singles zero = refl
  length_singles (suc k) = length-append (joined (λ j. a j ∷ []) k) (a k ∷ []) ∙ add-one (length (joined (λ j. a j ∷ []) k)) ∙ ap suc (length_singles k)

  pub singles_at : (k j : ℕ) → j < k → get_or (joined (λ j. a j ∷ []) k) j 0 ≡ a j
  unfolding joined
  singles_at zero j h = absurd (omega arith)
  singles_at (suc k) j h = go (le_or_lt k j) (singles_at k j)
    where
      go : (k ≤ j) ⊎ (j < k) → (j < k → get_or (joined (λ j. a j ∷ []) k) j 0 ≡ a j) → get_or (joined (λ j. a j ∷ []) k ++ (a k ∷ [])) j 0 ≡ a j
      go (inl l) before =
          let e : k ≡ j = omega arith in
          get_or_at (joined (λ j. a j ∷ []) k) (a k) [] 0 j (length_singles k ∙ e) ∙ ap a e
      go (inr l) before = get_or-append (joined (λ j. a j ∷ []) k) (a k ∷ []) 0 j (rw (length_singles k) l) ∙ before l
