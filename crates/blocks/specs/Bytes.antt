-- Lists of digits and the numbers that they spell, lowest digit first. The digits in base 256 are bytes, those in base 2 are bits.
use Rattle.std.specs.Prelude.{ℕ, zero, suc, ◌+◌, ◌*◌, ◌/◌, ◌%◌, ◌<◌, List, [], ◌∷◌, get_or}

-- "lowest bit first": what the digits say in base b, of which the first counts 1, the next b, and so on
unfoldable pub number : ℕ → List ℕ → ℕ
number b [] = 0
number b (x ∷ xs) = x + b * number b xs

-- the k lowest digits of n in base b
unfoldable pub digits : ℕ → ℕ → ℕ → List ℕ
digits b zero n = []
digits b (suc k) n = n % b ∷ digits b k (n / b)

-- each element is below b; past the end of the list stands 0, of which it is said too
abbrev pub Below : ℕ → List ℕ → Type 0
Below b xs = (i : ℕ) → get_or xs i 0 < b
