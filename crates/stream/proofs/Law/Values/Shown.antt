-- What a pattern is, from its ordinal, once over the format: above the infinity's it is a not-a-number, below it a finite number.
use mathlib.Core.Path.{◌≡◌, refl, sym, ap, ◌∙◌}
use mathlib.Core.Logic.{◌⊎◌, inl, inr}
use mathlib.Core.Bool.{Bool, true, false, not, cond}
use Prim.Native.Nat.{ℕ, ◌+◌, ◌-◌, ◌*◌, ◌%◌, ◌≤◌, ◌<◌}
use native.Mathlib.Nat.{mod-eq_of_lt, mod-eq-sub-mod, mul-suc, mul_comm}
use native.Mathlib.Omega.{arith}
use borrow.Author.Tests.{lt-ltb, le-ltb, le-leb, lt-leb}
use lib.Dec.{T, leb}
use lib.IntN.{ℤ}
use lib.Pow.{pow_pos}
use lib.Ieee.{Float, nan, inf, fin, Format, prec, hid, ones, top, fits, is_nan, nan_bits, of_bits, to_bits}
use lib.Ieee.Bits.{of_bits-to_bits, to_bits-of_bits, nan_bits_is, nan_bits_above}
use Rattle.blocks.proofs.Law.Truth.{le_or_lt}

-- a pattern is its ordinal, or its ordinal and the sign
sign_apart : (p t : ℕ) → p < 2 * t → ((p < t) × (p % t ≡ p)) ⊎ ((t ≤ p) × (p % t ≡ p - t))
sign_apart p t h = go (le_or_lt t p)
  where
    go : (t ≤ p) ⊎ (p < t) → ((p < t) × (p % t ≡ p)) ⊎ ((t ≤ p) × (p % t ≡ p - t))
    go (inl l) = inr (l, mod-eq-sub-mod l ∙ mod-eq_of_lt (omega arith))
    go (inr l) = inl (l, mod-eq_of_lt l)

nan_only : (v : Float) → is_nan v ≡ true → v ≡ nan
unfolding is_nan
nan_only nan e = refl
nan_only (inf s) e = let z : false ≡ true = e in cc
nan_only (fin s m x) e = let z : false ≡ true = e in cc

module _ (f : Format) (p : ℕ) where
  infinity_below : ones f * hid f < top f
  infinity_below = omega (arith, mul-suc (hid f) (ones f), mul_comm (hid f) (ones f), pow_pos (prec f - 1))

  pub no_nan : p % top f ≤ ones f * hid f → nan_bits f p ≡ false
  no_nan h = nan_bits_above f p ∙ le-ltb (ones f * hid f) (p % top f) h

  pub is_nan_lem : ones f * hid f < p % top f → of_bits f p ≡ nan
  is_nan_lem h = nan_only (of_bits f p) (sym (nan_bits_is f p) ∙ nan_bits_above f p ∙ lt-ltb (ones f * hid f) (p % top f) h)

  module _ (small : p < 2 * top f) where
    infinity_of : p % top f ≡ ones f * hid f → p ≡ to_bits f (inf (leb (top f) p))
    unfolding to_bits
    infinity_of h = go (sign_apart p (top f) small)
      where
        go : ((p < top f) × (p % top f ≡ p)) ⊎ ((top f ≤ p) × (p % top f ≡ p - top f)) → p ≡ cond (leb (top f) p) (top f) 0 + ones f * hid f
        go (inl (l, e)) = rw (lt-leb (top f) p l) (omega arith)
        go (inr (l, e)) = rw (le-leb (top f) p l) (omega arith)

    pub is_infinite : p % top f ≡ ones f * hid f → of_bits f p ≡ inf (leb (top f) p)
    unfolding fits
    is_infinite h = ap (of_bits f) (infinity_of h) ∙ of_bits-to_bits f (inf (leb (top f) p)) tt

    at_infinity : (s : Bool) → p ≡ to_bits f (inf s) → p % top f ≡ ones f * hid f
    unfolding to_bits
    at_infinity s e = go s (sign_apart p (top f) small) e
      where
        go : (s : Bool) → ((p < top f) × (p % top f ≡ p)) ⊎ ((top f ≤ p) × (p % top f ≡ p - top f))
            → p ≡ cond s (top f) 0 + ones f * hid f → p % top f ≡ ones f * hid f
        go true (inl (l, e)) is = absurd (omega (arith, is))
        go true (inr (l, e)) is = omega (arith, is)
        go false (inl (l, e)) is = omega (arith, is)
        go false (inr (l, e)) is = absurd (omega (arith, is, infinity_below))

    pub is_finite : p % top f < ones f * hid f → (s : Bool) × (m : ℕ) × (e : ℤ) × (of_bits f p ≡ fin s m e)
    unfolding is_nan
    is_finite h = go (of_bits f p) refl
      where
        go : (v : Float) → of_bits f p ≡ v → (s : Bool) × (m : ℕ) × (e : ℤ) × (of_bits f p ≡ fin s m e)
        go nan e = absurd (let z : true ≡ false = sym (ap is_nan e) ∙ sym (nan_bits_is f p) ∙ no_nan (omega arith) in let y : ◌≡◌ {A = ℕ} 0 1 = cc in omega arith)
        go (inf s) e =
            let no-nan-value : T (not (is_nan (of_bits f p))) = rw e tt in
            absurd (omega (arith, at_infinity s (sym (to_bits-of_bits f p small no-nan-value) ∙ ap (to_bits f) e)))
        go (fin s m x) e = (s, m, x, e)
