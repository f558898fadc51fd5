-- Places, as signs and ordinals around H = 2 ^ (W - 1), compare as IEEE 754 compares signs and sizes.
use mathlib.Core.Path.{◌≡◌, sym, ◌∙◌}
use mathlib.Core.Logic.{◌⊎◌, inl, inr}
use mathlib.Core.Bool.{Bool, true, false, ◌&&◌, ◌||◌, and-false, false≢true}
use Prim.Native.Nat.{ℕ, suc, ◌+◌, ◌≤◌, ◌<◌}
use native.Mathlib.Omega.{arith}
use borrow.Author.Tests.{lt-ltb, le-ltb, le-leb, lt-leb, eq-eqb, ne_eqb, ltb-true}
use lib.Dec.{leb, ltb, eqb}
use lib.Ieee.{below, level}
use Rattle.bins.proofs.Law.Number.{le_or_lt}

-- r is the place of the ordinal a with the sign s
abbrev pub Placed : ℕ → Bool → ℕ → ℕ → Type 0
Placed H false a r = r ≡ H + a
Placed H true a r = r + suc a ≡ H

-- ---- two tests that one order decides are one

decides : (x : Bool) (a b : ℕ) → (a ≤ b → x ≡ true) → (b < a → x ≡ false) → x ≡ leb a b
decides x a b up down = elim (le_or_lt a b) [ inl l ↦ up l ∙ sym (le-leb a b l) | inr l ↦ down l ∙ sym (lt-leb a b l) ]

less_or_equal : (x : Bool) (a b : ℕ) → (a ≡ b → x ≡ true) → (b < a → x ≡ false) → (ltb a b || (x && true)) ≡ leb a b
less_or_equal x a b same more = decides (ltb a b || (x && true)) a b (λ l. go l (le_or_lt b a)) (λ l. rw (le-ltb a b (omega arith), more l))
  where
    go : a ≤ b → (b ≤ a) ⊎ (a < b) → (ltb a b || (x && true)) ≡ true
    go l (inl k) = rw (le-ltb a b k, same (omega arith))
    go l (inr k) = rw (lt-ltb a b k)

zeros : (a b : ℕ) → (eqb a 0 && eqb b 0) ≡ (eqb a b && eqb a 0)
zeros a b = go (le_or_lt a 0) (le_or_lt b 0)
  where
    go : (a ≤ 0) ⊎ (0 < a) → (b ≤ 0) ⊎ (0 < b) → (eqb a 0 && eqb b 0) ≡ (eqb a b && eqb a 0)
    go (inr l) k = rw (ne_eqb a 0 (λ e. omega (arith, e, l))) (sym (and-false (eqb a b)))
    go (inl l) (inl k) = rw (eq-eqb a 0 (omega arith), eq-eqb b 0 (omega arith), eq-eqb a b (omega arith))
    go (inl l) (inr k) = rw (eq-eqb a 0 (omega arith), ne_eqb b 0 (λ e. omega (arith, e, k)), ne_eqb a b (λ e. omega (arith, e, k, l)))

-- ---- at the places r and q, in order or both zeros: not above, as IEEE 754 has it

pub by_places : (H : ℕ) (s t : Bool) (a b r q : ℕ) → Placed H s a r → Placed H t b q → (leb r q || (eqb a 0 && eqb b 0)) ≡ (below s a t b || level s a t b)
by_places H false false a b r q p g =
    decides (leb r q || (eqb a 0 && eqb b 0)) a b (λ l. rw (le-leb r q (omega (arith, p, g)))) (λ l. rw (lt-leb r q (omega (arith, p, g)), ne_eqb a 0 (λ e. omega (arith, e, l))))
    ∙ sym (less_or_equal (eqb a b) a b (eq-eqb a b) (λ l. ne_eqb a b (λ e. omega (arith, e, l))))
by_places H false true a b r q p g = rw (lt-leb r q (omega (arith, p, g))) (zeros a b)
by_places H true false a b r q p g = rw (le-leb r q (omega (arith, p, g))) (go (le_or_lt (a + b) 0))
  where
    go : (a + b ≤ 0) ⊎ (0 < a + b) → true ≡ (ltb 0 (a + b) || (eqb a b && eqb a 0))
    go (inl l) = rw (le-ltb 0 (a + b) l, eq-eqb a b (omega arith), eq-eqb a 0 (omega arith))
    go (inr l) = rw (lt-ltb 0 (a + b) l)
by_places H true true a b r q p g =
    decides (leb r q || (eqb a 0 && eqb b 0)) b a (λ l. rw (le-leb r q (omega (arith, p, g))))
    (λ l. rw (lt-leb r q (omega (arith, p, g)), ne_eqb b 0 (λ e. omega (arith, e, l))) (and-false (eqb a 0)))
    ∙ sym (less_or_equal (eqb a b) b a (λ e. eq-eqb a b (sym e)) (λ l. ne_eqb a b (λ e. omega (arith, e, l))))

-- what IEEE 754 has below stands before
pub stands_before : (H : ℕ) (s t : Bool) (a b r q : ℕ) → Placed H s a r → Placed H t b q → below s a t b ≡ true → r < q
stands_before H false false a b r q p g h = omega (arith, p, g, ltb-true a b h)
stands_before H false true a b r q p g h = absurd (false≢true h)
stands_before H true false a b r q p g h = omega (arith, p, g)
stands_before H true true a b r q p g h = omega (arith, p, g, ltb-true b a h)
