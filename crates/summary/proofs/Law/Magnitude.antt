-- The magnitude of bins grows with the ordinal, once over the fraction bits m: numbers of one sign stand in the order of their ordinals.
use mathlib.Core.Path.{◌≡◌, sym, ap, ◌∙◌}
use mathlib.Core.Logic.{◌⊎◌, inl, inr}
use Prim.Native.Nat.{ℕ, zero, suc, ◌+◌, ◌-◌, ◌*◌, ◌/◌, ◌%◌, ◌^◌, ◌≤◌, ◌<◌}
use native.Mathlib.Nat.{le_refl, lt_trans, mul-lt-mul_of_pos_right, mod-lt, zero-mul, suc-mul, mul-add, add-mul, two-pow-succ}
use native.Mathlib.Omega.{arith}
use lib.Pow.{pow_pos, split}
use Rattle.bins.specs.Tolerance.{magnitude}
use Rattle.bins.proofs.Law.Number.{le_or_lt}
use Rattle.bins.proofs.Law.Tolerance.{magnitude_plain, magnitude_at, exponent_some}

module _ (m : ℕ) where
  -- an ordinal is d * 2 ^ m + q, where q has the place of the leading digit unless d is 0, and at most one place more than the fraction
  record Parts (o : ℕ) : Type 0 where
    d : ℕ
    q : ℕ
    is : o ≡ d * 2 ^ m + q
    short : q < 2 ^ m + 2 ^ m
    led : (d ≡ 0) ⊎ (2 ^ m ≤ q)

  parts : (o : ℕ) → Parts o
  parts o = go (le_or_lt (2 ^ m) o)
    where
      go : (2 ^ m ≤ o) ⊎ (o < 2 ^ m) → Parts o
      go (inr l) = record { d = 0; q = o; is = omega (arith, zero-mul (2 ^ m)); short = omega arith; led = inl (omega arith) }
      go (inl l) =
          let x : suc (o / 2 ^ m - 1) ≡ o / 2 ^ m = omega (arith, exponent_some m o l) in
          record {
            d = o / 2 ^ m - 1;
            q = 2 ^ m + o % 2 ^ m;
            is = omega (arith, split o m, ap (λ (n : ℕ). n * 2 ^ m) x, suc-mul (o / 2 ^ m - 1) (2 ^ m));
            short = omega (arith, mod-lt o (pow_pos m));
            led = inr (omega arith);
          }

  -- `magnitude_at` up to the first ordinal of the next exponent
  reaches : (d q : ℕ) → q ≤ 2 ^ m + 2 ^ m → (d ≡ 0) ⊎ (2 ^ m ≤ q) → magnitude m (d * 2 ^ m + q) ≡ q * 2 ^ d
  reaches d q h led = go (le_or_lt (2 ^ m + 2 ^ m) q)
    where
      go : (2 ^ m + 2 ^ m ≤ q) ⊎ (q < 2 ^ m + 2 ^ m) → magnitude m (d * 2 ^ m + q) ≡ q * 2 ^ d
      go (inr l) = magnitude_at m d q l led
      go (inl l) =
          let e : q ≡ 2 ^ m + 2 ^ m = omega arith in
          ap (magnitude m) (let s : d * 2 ^ m + q ≡ suc d * 2 ^ m + 2 ^ m = omega (arith, suc-mul d (2 ^ m)) in s)
          ∙ magnitude_at m (suc d) (2 ^ m) (omega (arith, pow_pos m)) (inr (le_refl (2 ^ m)))
          ∙ ap (λ (n : ℕ). 2 ^ m * n) (two-pow-succ d) ∙ mul-add (2 ^ m) (2 ^ d) (2 ^ d) ∙ sym (add-mul (2 ^ m) (2 ^ m) (2 ^ d)) ∙ ap (λ (n : ℕ). n * 2 ^ d) (sym e)

  step : (o : ℕ) → magnitude m o < magnitude m (suc o)
  step o =
      let p = parts o in
      let here : magnitude m o ≡ p.q * 2 ^ p.d = ap (magnitude m) p.is ∙ magnitude_at m p.d p.q p.short p.led in
      let next : magnitude m (suc o) ≡ suc p.q * 2 ^ p.d =
      ap (magnitude m) (let e : suc o ≡ p.d * 2 ^ m + suc p.q = omega (arith, p.is) in e) ∙ reaches p.d (suc p.q) p.short (more p.led) in
      rw (here, next) (mul-lt-mul_of_pos_right (let l : p.q < suc p.q = omega arith in l) (pow_pos p.d))
    where
      more : {d q : ℕ} → (d ≡ 0) ⊎ (2 ^ m ≤ q) → (d ≡ 0) ⊎ (2 ^ m ≤ suc q)
      more (inl z) = inl z
      more (inr l) = inr (omega arith)

  pub increasing : (a b : ℕ) → a < b → magnitude m a < magnitude m b
  increasing a zero l = absurd (omega (arith, l))
  increasing a (suc b) l = go (le_or_lt b a) (increasing a b)
    where
      go : (b ≤ a) ⊎ (a < b) → (a < b → magnitude m a < magnitude m b) → magnitude m a < magnitude m (suc b)
      go (inl h) rest = rw (let e : a ≡ b = omega arith in e) (step b)
      go (inr h) rest = lt_trans (rest h) (step b)

  pub reflects : (a b : ℕ) → magnitude m a < magnitude m b → a < b
  reflects a b l = go (le_or_lt b a) (le_or_lt a b)
    where
      go : (b ≤ a) ⊎ (a < b) → (a ≤ b) ⊎ (b < a) → a < b
      go (inr h) k = h
      go (inl h) (inl k) = absurd (omega (arith, l, ap (magnitude m) (let e : a ≡ b = omega arith in e)))
      go (inl h) (inr k) = absurd (omega (arith, l, increasing b a k))

  pub of_zero : magnitude m 0 ≡ 0
  of_zero = magnitude_plain m 0 (pow_pos m)
