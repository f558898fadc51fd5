-- The width by the OR of the codes: the bit length of an OR is the larger of the two lengths.
-- Assumes nothing.
use mathlib.Core.Path.{◌≡◌, sym, ap, ap₂, ◌∙◌, subst}
use mathlib.Core.List.{List, [], ◌∷◌, ◌++◌}
use Prim.Native.Nat.{ℕ, ◌^◌, ◌≤◌, ◌<◌, max}
use native.Mathlib.Nat.{le_antisymm, le-max_left, le-max_right, max-le, lt_of_le_of_lt, lt_of_lt_of_le}
use native.Mathlib.Omega.{arith}
use lib.Bits.{bit_or, or_comm, or_lt, or_add_and, and_le_r}
use lib.Ieee.{size}
use lib.Ieee.Digits.{size-lt, size-le}
use lib.ListN.{get_or}
use lib.Pow.{pow_mono}
use Rattle.stream.specs.Group.{largest, width_of}
use Rattle.stream.proofs.Law.Group.RoundTrip.{largest_at}

size_mono : (a b : ℕ) → a ≤ b → size a ≤ size b
size_mono a b h = size-le a (size b) (lt_of_le_of_lt h (size-lt b))

le_or : (a b : ℕ) → a ≤ bit_or a b
le_or a b = omega (arith, or_add_and a b, and_le_r a b)

-- what holds two numbers and no more bits than they need has the larger of the two lengths
size_join : (x a b : ℕ) → a ≤ x → b ≤ x → ((m : ℕ) → a < 2 ^ m → b < 2 ^ m → x < 2 ^ m) → size x ≡ max (size a) (size b)
size_join x a b ha hb within =
    let m : ℕ = max (size a) (size b) in
    le_antisymm
    (size-le x m
    (within m (lt_of_lt_of_le (size-lt a) (pow_mono (le-max_left (size a) (size b)))) (lt_of_lt_of_le (size-lt b) (pow_mono (le-max_right (size a) (size b))))))
    (max-le (size_mono a x ha) (size_mono b x hb))

size_or : (a b : ℕ) → size (bit_or a b) ≡ max (size a) (size b)
size_or a b = size_join (bit_or a b) a b (le_or a b) (subst (λ (x : ℕ). b ≤ x) (or_comm b a) (le_or b a)) (λ m. or_lt m a b)

pub size_max : (a b : ℕ) → size (max a b) ≡ max (size a) (size b)
size_max a b = size_join (max a b) a b (le-max_left a b) (le-max_right a b) (λ m ha hb. omega arith)

-- no code is wider than all of them
pub size_at : (cs : List ℕ) (i : ℕ) → size (get_or cs i 0) ≤ width_of cs
unfolding width_of
size_at cs i = size_mono (get_or cs i 0) (largest cs) (largest_at cs i)

largest_snoc : (xs : List ℕ) (c : ℕ) → largest (xs ++ (c ∷ [])) ≡ max (largest xs) c
unfolding largest
largest_snoc [] c = omega arith
largest_snoc (x ∷ xs) c = omega (arith, largest_snoc xs c)

-- one code more
pub or_width : (all c : ℕ) (xs : List ℕ) → size all ≡ width_of xs → size (bit_or all c) ≡ width_of (xs ++ (c ∷ []))
unfolding width_of
or_width all c xs e =
    size_or all c ∙ ap (λ (m : ℕ). max m (size c)) e ∙ sym (size_max (largest xs) c) ∙ ap size (sym (largest_snoc xs c))

-- the OR of four
pub size_four : (a b c d : ℕ) → size (bit_or (bit_or a b) (bit_or c d)) ≡ max (max (size a) (size b)) (max (size c) (size d))
size_four a b c d = size_or (bit_or a b) (bit_or c d) ∙ ap₂ max (size_or a b) (size_or c d)
