-- A list whose first element is set and whose rest is lent: `out[0] = w`, then `&mut out[1..]`.
-- Assumes nothing.
use mathlib.Core.Path.{◌≡◌, refl, ap, ◌∙◌}
use mathlib.Core.List.{List, [], ◌∷◌, ◌++◌, append-nil}
use Prim.Native.Nat.{ℕ, zero, suc, ◌-◌, ◌<◌}
use native.Mathlib.Nat.{not-suc-le-zero}
use native.Mathlib.Numerals.{sub-one}
use lib.ListN.{length, take, drop, set}
use lib.Seq.{take-length, drop-length}
use borrow.Rule.Slice.PartMut.{put_mid}

-- the part that is lent is the rest of the list
pub behind_first : (l : List ℕ) (a : ℕ) → take (length (set l 0 a) - 1) (drop 1 (set l 0 a)) ≡ drop 1 l
behind_first [] a = refl
behind_first (x ∷ xs) a = ap (λ (n : ℕ). take n xs) (sub-one (suc (length xs))) ∙ take-length xs

-- and as it comes back, it stands behind the first element
pub first_back : (l ys : List ℕ) (a : ℕ) → zero < length l → put_mid 1 (length (set l 0 a) - 1) (set l 0 a) ys ≡ a ∷ ys
first_back [] ys a h = absurd (not-suc-le-zero h)
first_back (x ∷ xs) ys a h =
    ap (λ (r : List ℕ). a ∷ r) (ap (λ (n : ℕ). ys ++ drop n xs) (sub-one (suc (length xs))) ∙ ap (λ (r : List ℕ). ys ++ r) (drop-length xs) ∙ append-nil ys)
