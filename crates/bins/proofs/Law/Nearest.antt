-- The whole number nearest to a / b, once over the rule for halves. Every law about distance, exactness and size is here; nothing else asks the rule.
use Rattle.std.proofs.Common.{◌≡◌, ℕ, suc, ◌+◌, ◌-◌, ◌*◌, ◌/◌, ◌%◌, ◌<◌, ◌≤◌, Bool, true, false, cond, ◌&&◌, eqb, ◌⊎◌, sym, refl, ap, ◌∙◌, subst, ap₂, inl, inr, le_of_eq, lt_of_lt_of_le, add-zero, mod-lt, mul_assoc, suc-mul, add-mul, mul-lt-mul_of_pos_right, mul-pos, div-add-mod', le-div_iff_mul-le, zero-mul, mul_left_comm, arith, eq-eqb, ne_eqb, eqb-true}
use native.Mathlib.Nat.{mod-le, div-eq_of_lt}
use borrow.Author.Tests.{eqb-false}
use lib.Arith.{digits_div, digits_mod}
use Rattle.bins.specs.Tolerance.{upper, halfway, nearest}
use Rattle.bins.proofs.Law.Number.{le_or_lt}

-- u and r are the whole part and the rest of a / b + 1/2, in units of 1 / 2b
pub nearest_by : (rule a b u r : ℕ) → u * (2 * b) + r ≡ 2 * a + b → r < 2 * b → nearest rule a b ≡ cond (eqb rule 1 && eqb r 0) (u - u % 2) u
unfolding nearest upper halfway
nearest_by rule a b u r e l =
    ap₂ (λ (n k : ℕ). cond (eqb rule 1 && eqb k 0) (n - n % 2) n) (ap (λ (n : ℕ). n / (2 * b)) (sym e) ∙ digits_div u l) (ap (λ (n : ℕ). n % (2 * b)) (sym e) ∙ digits_mod u l)

-- What it is, in full: not halfway, or halfway and the upper one, or halfway and the lower one.
abbrev pub Found : ℕ → ℕ → ℕ → ℕ → Type 0
Found rule a b n =
    ((r : ℕ) × (n * (2 * b) + r ≡ 2 * a + b) × (0 < r) × (r < 2 * b))
    ⊎ ((n * (2 * b) ≡ 2 * a + b) × (rule ≡ 1 → n % 2 ≡ 0))
    ⊎ ((suc n * (2 * b) ≡ 2 * a + b) × (rule ≡ 1) × (n % 2 ≡ 0))

module _ (rule a b : ℕ) (some : 0 < b) where
  abbrev u : ℕ
  u = (2 * a + b) / (2 * b)

  abbrev r : ℕ
  r = (2 * a + b) % (2 * b)

  parts : u * (2 * b) + r ≡ 2 * a + b
  parts = div-add-mod' (2 * a + b) (2 * b)

  rest : r < 2 * b
  rest = mod-lt (2 * a + b) (omega arith)

  pub nearest_found : Found rule a b (nearest rule a b)
  nearest_found = subst (Found rule a b) (sym (nearest_by rule a b u r parts rest)) (go (eqb rule 1) refl (le_or_lt r 0) (le_or_lt (u % 2) 0))
    where
      whole : r ≤ 0 → u * (2 * b) ≡ 2 * a + b
      whole z = omega (arith, parts)

      at : (even : Bool) → r ≤ 0 → cond (even && eqb r 0) (u - u % 2) u ≡ cond even (u - u % 2) u
      at true z = ap (λ (half : Bool). cond half (u - u % 2) u) (eq-eqb r 0 (omega arith))
      at false z = refl

      off : (even : Bool) → 0 < r → cond (even && eqb r 0) (u - u % 2) u ≡ u
      off true z = ap (λ (half : Bool). cond half (u - u % 2) u) (ne_eqb r 0 (λ (e : r ≡ 0). omega arith))
      off false z = refl

      go : (even : Bool) → eqb rule 1 ≡ even → (r ≤ 0) ⊎ (0 < r) → (u % 2 ≤ 0) ⊎ (0 < u % 2) → Found rule a b (cond (even && eqb r 0) (u - u % 2) u)
      go even is (inr z) p = subst (Found rule a b) (sym (off even z)) (inl (r, parts, z, rest))
      go true is (inl z) (inl p) = subst (Found rule a b) (sym (at true z)) (inr (inl (rw (let e : u - u % 2 ≡ u = omega arith in e) (whole z), λ _. rw (let e : u - u % 2 ≡ u = omega arith in e) (omega arith))))
      go true is (inl z) (inr p) = subst (Found rule a b) (sym (at true z)) (inr (inr (rw (let e : suc (u - u % 2) ≡ u = omega arith in e) (whole z), eqb-true rule 1 is, omega arith)))
      go false is (inl z) p = subst (Found rule a b) (sym (at false z)) (inr (inl (whole z, λ e. absurd (eqb-false rule 1 is e))))

  -- twice the distance between a and so many b is at most b
  pub nearest_close : (2 * a ≤ 2 * (nearest rule a b * b) + b) × (2 * (nearest rule a b * b) ≤ 2 * a + b)
  nearest_close = go (nearest rule a b) nearest_found
    where
      go : (n : ℕ) → Found rule a b n → (2 * a ≤ 2 * (n * b) + b) × (2 * (n * b) ≤ 2 * a + b)
      go n (inl f) = (omega (arith, f.1, f.3, mul_left_comm n 2 b), omega (arith, f.1, mul_left_comm n 2 b))
      go n (inr (inl f)) = (omega (arith, f.0, mul_left_comm n 2 b), omega (arith, f.0, mul_left_comm n 2 b))
      go n (inr (inr f)) = (omega (arith, f.0, suc-mul n (2 * b), mul_left_comm n 2 b), omega (arith, f.0, suc-mul n (2 * b), mul_left_comm n 2 b))

  pub nearest_most : nearest rule a b ≤ u
  nearest_most = go (nearest rule a b) nearest_found
    where
      most : (n : ℕ) → n * (2 * b) ≤ 2 * a + b → n ≤ u
      most n h = (le-div_iff_mul-le (let e : 0 < 2 * b = omega arith in e)).1 h

      go : (n : ℕ) → Found rule a b n → n ≤ u
      go n (inl f) = most n (omega (arith, f.1))
      go n (inr (inl f)) = most n (le_of_eq f.0)
      go n (inr (inr f)) = omega (arith, most (suc n) (le_of_eq f.0))

  -- less than a half is nearest to 0
  pub nearest_none : 2 * a < b → nearest rule a b ≡ 0
  nearest_none h = let e : u ≡ 0 = div-eq_of_lt (omega arith) in omega (arith, nearest_most)

  -- a common factor changes nothing
  pub nearest_scaled : (d : ℕ) → 0 < d → nearest rule (a * d) (b * d) ≡ nearest rule a b
  nearest_scaled d h =
      nearest_by rule (a * d) (b * d) u (r * d)
      (ap (λ (n : ℕ). n + r * d) (ap (λ (n : ℕ). u * n) (sym (mul_assoc 2 b d)) ∙ sym (mul_assoc u (2 * b) d)) ∙ sym (add-mul (u * (2 * b)) r d) ∙ ap (λ (n : ℕ). n * d) parts ∙ add-mul (2 * a) b d
      ∙ ap (λ (n : ℕ). n + b * d) (mul_assoc 2 a d))
      (lt_of_lt_of_le (mul-lt-mul_of_pos_right rest h) (le_of_eq (mul_assoc 2 b d)))
      ∙ ap (λ (t : Bool). cond (eqb rule 1 && t) (u - u % 2) u) (none (le_or_lt r 0)) ∙ sym (nearest_by rule a b u r parts rest)
    where
      none : (r ≤ 0) ⊎ (0 < r) → eqb (r * d) 0 ≡ eqb r 0
      none (inl z) = let e : r ≡ 0 = omega arith in eq-eqb (r * d) 0 (rw e (zero-mul d)) ∙ sym (eq-eqb r 0 e)
      none (inr z) = ne_eqb (r * d) 0 (λ (e : r * d ≡ 0). omega (arith, mul-pos z h)) ∙ sym (ne_eqb r 0 (λ (e : r ≡ 0). omega arith))

-- ---- as code finds it

-- what a whole number is above the even one that halves go to, if they do
abbrev pub over : ℕ → ℕ → ℕ
over rule n = cond (eqb rule 1) (n % 2) 0

pub over_small : (rule n : ℕ) → (over rule n ≤ 1) × (over rule n ≤ n)
over_small rule n = go (eqb rule 1)
  where
    go : (b : Bool) → (cond b (n % 2) 0 ≤ 1) × (cond b (n % 2) 0 ≤ n)
    go true = (omega arith, mod-le n 2)
    go false = (omega arith, omega arith)

-- at a half u is the upper one
pub nearest_half : (rule a b u : ℕ) → 0 < b → u * (2 * b) ≡ 2 * a + b → u - over rule u ≡ nearest rule a b
nearest_half rule a b u some e = go (eqb rule 1) ∙ sym (nearest_by rule a b u 0 (add-zero (u * (2 * b)) ∙ e) (omega arith))
  where
    go : (t : Bool) → u - cond t (u % 2) 0 ≡ cond (t && eqb 0 0) (u - u % 2) u
    go true = refl
    go false = let e : u - 0 ≡ u = omega arith in e

-- and elsewhere it is the nearest by either rule
pub nearest_other : (rule a b u r : ℕ) → u * (2 * b) + r ≡ 2 * a + b → 0 < r → r < 2 * b → u ≡ nearest rule a b
nearest_other rule a b u r e some l = sym (nearest_by rule a b u r e l ∙ rw (ne_eqb r 0 (λ (z : r ≡ 0). omega arith)) (left (eqb rule 1)))
  where
    left : (t : Bool) → cond (t && false) (u - u % 2) u ≡ u
    left true = refl
    left false = refl

-- u whole b are nearest to u
pub nearest_exact : (rule b u : ℕ) → 0 < b → nearest rule (u * b) b ≡ u
nearest_exact rule b u some = sym (nearest_other rule (u * b) b u b (ap (λ (n : ℕ). n + b) (mul_left_comm u 2 b)) some (omega arith))
