-- The nearest whole number of `bins` is the nearest one, and of two that are as near the one that the rule for halves names.
use Rattle.std.proofs.Common.{◌≡◌, ℕ, suc, ◌+◌, ◌*◌, ◌%◌, ◌<◌, ◌≤◌, ◌⊎◌, inl, inr, le_refl, mul-le-mul_right, suc-mul, mul_left_comm, arith}
use Rattle.bins.specs.Tolerance.{nearest}
use Rattle.bins.proofs.Law.Number.{le_or_lt}
use Rattle.bins.proofs.Law.Nearest.{Found, nearest_found}
use Rattle.numbers.specs.Theorem.{distance, Nearest}

module _ (rule a b n : ℕ) (some : 0 < b) where
  abbrev N : ℕ
  N = n * b

  twice : n * (2 * b) ≡ 2 * N
  twice = mul_left_comm n 2 b

  -- another whole number is at least b away from n of them
  abbrev Away : ℕ → Type 0
  Away u = ((u < n) × (u * b + b ≤ N)) ⊎ ((n < u) × (N + b ≤ u * b))

  away : (u : ℕ) → (u ≡ n → ⊥) → Away u
  away u other = go (le_or_lt u n) (le_or_lt n u)
    where
      go : (u ≤ n) ⊎ (n < u) → (n ≤ u) ⊎ (u < n) → Away u
      go (inl l) (inr h) = inl (h, (let e : suc u * b ≤ N = mul-le-mul_right b h in omega (arith, e, suc-mul u b)))
      go (inr h) g = inr (h, (let e : suc n * b ≤ u * b = mul-le-mul_right b h in omega (arith, e, suc-mul n b)))
      go (inl l) (inl g) = absurd (other (omega arith))

  -- the two distances, doubled, in each case
  closer : Found rule a b n → (u : ℕ) → Away u → distance a N ≤ distance a (u * b)
  unfolding distance
  closer (inl f) u (inl h) = omega (arith, f.1, f.2, f.3, twice, h.1)
  closer (inl f) u (inr h) = omega (arith, f.1, f.2, f.3, twice, h.1)
  closer (inr (inl f)) u (inl h) = omega (arith, f.0, twice, h.1)
  closer (inr (inl f)) u (inr h) = omega (arith, f.0, twice, h.1)
  closer (inr (inr f)) u (inl h) = omega (arith, f.0, suc-mul n (2 * b), twice, h.1)
  closer (inr (inr f)) u (inr h) = omega (arith, f.0, suc-mul n (2 * b), twice, h.1)

  as_near : Found rule a b n → (u : ℕ) → Away u → distance a (u * b) ≡ distance a N → (rule ≡ 0 → u < n) × (rule ≡ 1 → n % 2 ≡ 0)
  unfolding distance
  as_near (inl f) u (inl h) e = absurd (omega (arith, f.1, f.2, f.3, twice, h.1, e))
  as_near (inl f) u (inr h) e = absurd (omega (arith, f.1, f.2, f.3, twice, h.1, e))
  as_near (inr (inl f)) u (inl h) e = (λ z. h.0, f.1)
  as_near (inr (inl f)) u (inr h) e = absurd (omega (arith, f.0, twice, h.1, e, some))
  as_near (inr (inr f)) u (inl h) e = absurd (omega (arith, f.0, suc-mul n (2 * b), twice, h.1, e, some))
  as_near (inr (inr f)) u (inr h) e = (λ z. absurd (omega (arith, z, f.1)), λ z. f.2)

pub nearest_is : (rule a b : ℕ) → 0 < b → Nearest rule a b (nearest rule a b)
unfolding distance
nearest_is rule a b some =
    let n = nearest rule a b in
    let found = nearest_found rule a b some in
    record {
      close = λ u. go u (le_or_lt u n) (le_or_lt n u);
      half = λ u other e. as_near rule a b n some found u (away rule a b n some u other) e;
    }
  where
    go : (u : ℕ) → (u ≤ nearest rule a b) ⊎ (nearest rule a b < u) → (nearest rule a b ≤ u) ⊎ (u < nearest rule a b) → distance a (nearest rule a b * b) ≤ distance a (u * b)
    go u (inr h) g = closer rule a b (nearest rule a b) some (nearest_found rule a b some) u (away rule a b (nearest rule a b) some u (λ e. omega arith))
    go u (inl l) (inr h) = closer rule a b (nearest rule a b) some (nearest_found rule a b some) u (away rule a b (nearest rule a b) some u (λ e. omega arith))
    go u (inl l) (inl g) = let e : u ≡ nearest rule a b = omega arith in rw e (le_refl (distance a (nearest rule a b * b)))
