-- Document 02, R-2, mode 2: "inside a chunk, take the pattern minus the pattern before it, modulo 2^W, the first minus 0; read it as signed;
-- code it as mode 0's last step does". W is the width; fraction bits play no part. `before` is the pattern before.
use Rattle.std.specs.Prelude.{ℕ, List, [], ◌∷◌}
use Rattle.numbers.specs.Signed.{signed_view, folded, unfolded, bits_of}
use Rattle.numbers.specs.Lossless.{minus, plus}

unfoldable pub difference_code : ℕ → ℕ → ℕ → ℕ
difference_code W before p = folded (signed_view W (minus W p before))

-- the codes of a list that stands behind the pattern `before`
unfoldable pub difference_codes : ℕ → ℕ → List ℕ → List ℕ
difference_codes W before [] = []
difference_codes W before (p ∷ ps) = difference_code W before p ∷ difference_codes W p ps

-- ---- the way back

unfoldable pub difference_restored : ℕ → ℕ → ℕ → ℕ
difference_restored W before c = plus W before (bits_of W (unfolded c))

-- the patterns of a list of codes behind the pattern `before`: the running sums
unfoldable pub running_sums : ℕ → ℕ → List ℕ → List ℕ
running_sums W before [] = []
running_sums W before (c ∷ cs) = difference_restored W before c ∷ running_sums W (difference_restored W before c) cs

-- ---- the carry: the pattern before what follows a list, which is its last one, or where it is empty the one before it

unfoldable pub last_of : ℕ → List ℕ → ℕ
last_of before [] = before
last_of before (p ∷ ps) = last_of p ps
