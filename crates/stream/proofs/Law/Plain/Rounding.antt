-- A quotient rounded up: as the definitions write it, and as the library makes it.
use mathlib.Core.Path.{◌≡◌}
use mathlib.Core.Logic.{◌⊎◌, inl, inr}
use Prim.Native.Nat.{ℕ, suc, ◌+◌, ◌-◌, ◌*◌, ◌/◌, ◌%◌, ◌≤◌, ◌<◌, min}
use native.Mathlib.Nat.{mul-le-mul, mul_comm, mul-suc, le_refl, lt-div-mul-add, div-mul-le_self}
use native.Mathlib.Omega.{arith}
use Rattle.std.proofs.lemmas.Grind.{div_ceil_times}
use Rattle.blocks.proofs.Law.Truth.{le_or_lt}

-- the next multiple of s lies on one side
more_times : (a b s : ℕ) → a < b → a * s + s ≤ b * s
more_times a b s h = let k : suc a * s ≤ b * s = mul-le-mul h (le_refl s) in omega (arith, k, mul_comm (suc a) s, mul-suc s a, mul_comm s a)

-- both are the number of times that s has to be taken to reach n
as_many : (u w s n : ℕ) → 0 < s → (n ≤ u * s) × (u * s < n + s) → w * s ≤ n + (s - 1) → n + (s - 1) < w * s + s → u ≡ w
as_many u w s n some t a b = go (le_or_lt u w) (le_or_lt w u)
  where
    go : (u ≤ w) ⊎ (w < u) → (w ≤ u) ⊎ (u < w) → u ≡ w
    go (inl h) (inl k) = omega arith
    go (inl h) (inr k) = absurd (omega (arith, more_times u w s k, t.0))
    go (inr h) _ = absurd (omega (arith, more_times w u s h, t.1))

pub rounded_up : (n size : ℕ) → 0 < size → n / size + min 1 (n % size) ≡ (n + (size - 1)) / size
rounded_up n size some = as_many _ _ size n some (div_ceil_times n size some) (div-mul-le_self (n + (size - 1)) size) (lt-div-mul-add {a = n + (size - 1)} some)
