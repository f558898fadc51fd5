-- The numbers of a list of machine words: where a word is its number, the list itself.
use Rattle.std.specs.Prelude.{◌≡◌, ℕ, List, [], ◌∷◌, map, refl}
use Rattle.std.proofs.Common.{ap}

pub values_are : (xs : List ℕ) → xs ≡ map (λ (x : ℕ). x) xs
values_are [] = refl
values_are (x ∷ xs) = ap (λ (l : List ℕ). x ∷ l) (values_are xs)
