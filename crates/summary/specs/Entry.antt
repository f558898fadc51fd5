-- Document 02, R-5, what the summary says of one chunk's values vs: "a count of not-a-numbers, the smallest and the largest other value as patterns (0
-- and 0 if none; -0 stands below 0)", and its bytes: "the count takes 4 bytes, each pattern W/8, little-endian, with no gaps".
use Rattle.std.specs.Prelude.{ℕ, suc, ◌+◌, ◌*◌, ◌/◌, Bool, false, ◌||◌, cond, List, [], ◌∷◌, ◌++◌, ltb}
use Rattle.blocks.specs.Bytes.{digits}
use Rattle.summary.specs.Order.{not_a_number, rank, at_least}

-- "a count of not-a-numbers"
unfoldable pub nans_in : ℕ → ℕ → List ℕ → ℕ
nans_in W m [] = 0
nans_in W m (p ∷ ps) = cond (not_a_number W m p) (suc (nans_in W m ps)) (nans_in W m ps)

-- the "other" values, in their order
unfoldable pub others : ℕ → ℕ → List ℕ → List ℕ
others W m [] = []
others W m (p ∷ ps) = cond (not_a_number W m p) (others W m ps) (p ∷ others W m ps)

-- the smallest of p and what follows it, and the largest
unfoldable pub smallest_from : ℕ → ℕ → List ℕ → ℕ
smallest_from W p [] = p
smallest_from W p (q ∷ qs) = smallest_from W (cond (ltb (rank W q) (rank W p)) q p) qs

unfoldable pub largest_from : ℕ → ℕ → List ℕ → ℕ
largest_from W p [] = p
largest_from W p (q ∷ qs) = largest_from W (cond (ltb (rank W p) (rank W q)) q p) qs

-- "0 and 0 if none"
unfoldable pub smallest_in : ℕ → List ℕ → ℕ
smallest_in W [] = 0
smallest_in W (p ∷ ps) = smallest_from W p ps

unfoldable pub largest_in : ℕ → List ℕ → ℕ
largest_in W [] = 0
largest_in W (p ∷ ps) = largest_from W p ps

-- "the smallest and the largest other value"
unfoldable pub smallest : ℕ → ℕ → List ℕ → ℕ
smallest W m vs = smallest_in W (others W m vs)

unfoldable pub largest : ℕ → ℕ → List ℕ → ℕ
largest W m vs = largest_in W (others W m vs)

-- how many bytes one chunk takes
unfoldable pub entry_length : ℕ → ℕ
entry_length W = 4 + 2 * (W / 8)

unfoldable pub entry_bytes : ℕ → ℕ → List ℕ → List ℕ
entry_bytes W m vs = digits 256 4 (nans_in W m vs) ++ digits 256 (W / 8) (smallest W m vs) ++ digits 256 (W / 8) (largest W m vs)

-- "chunks that hold some value at least x"
unfoldable pub holds : ℕ → ℕ → ℕ → List ℕ → Bool
holds W m x [] = false
holds W m x (p ∷ ps) = at_least W m x p || holds W m x ps
