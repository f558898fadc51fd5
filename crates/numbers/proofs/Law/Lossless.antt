-- The laws of the lossless code, once over W and m with m + 2 ≤ W: every pattern is restored, and every code below 2 ^ W has exactly one pattern.
-- With H = 2 ^ (W - 1) and F = 2 ^ (m + 1) as plain numbers, the exponent step is three linear pieces, and so is its inverse.
use Rattle.std.proofs.Common.{◌≡◌, ℕ, suc, ◌+◌, ◌-◌, ◌*◌, ◌/◌, ◌%◌, ◌^◌, ◌<◌, ◌≤◌, Bool, true, false, ◌&&◌, eqb, ltb, leb, ◌⊎◌, pos, negsuc, sym, refl, ap, ◌∙◌, inl, inr, add-zero, mod-lt, mod-eq_of_lt, div-lt_iff_lt-mul, add-mul, add_comm, one-mul, le-div_iff_mul-le, zero-mul, arith, pow_pos, pow_mono, pow-add, le-ltb, lt-ltb, eqb-true, le-leb, leb-false, leb-true}
use native.Mathlib.Nat.{add-div_right, add-mul-div_right, add-mod_right, add-mul-mod_self_right, mod-add-div', div-eq_of_lt, zero-div}
use Rattle.std.proofs.Math.Nat.{mul-div_cancel}
use borrow.Author.Tests.{eqb-false, lt-leb}
use lib.Arith.{digits_div, digits_mod}
use Rattle.numbers.specs.Signed.{signed_view, unfolded, bits_of}
use Rattle.numbers.specs.Lossless.{rotated, field, minus, lowered, stepped, lossless_code, plus, raised, unstepped, unrotated, lossless_restored}
use Rattle.numbers.proofs.Law.Signed.{unfolded_folded, folded_unfolded, bits_of_view, view_of_bits, bits_below, folded_below}
use Rattle.bins.proofs.Law.Number.{le_or_lt, mod_once, minus_plain, minus_wraps, quotient_zero, quotient_some, twice_half, fraction_only, led_by_one}

both : (a b : Bool) → a && b ≡ true → (a ≡ true) × (b ≡ true)
both true b e = (refl, e)
both false b e = (e, (cc))

module _ (W : ℕ) (some : 0 < W) where
  -- ---- the rotation

  top_bit : (p : ℕ) → p < 2 ^ W → p / 2 ^ (W - 1) < 2
  top_bit p h = (div-lt_iff_lt-mul (pow_pos (W - 1))).1 (omega (arith, twice_half W some))

  pub unrotated_rotated : (p : ℕ) → p < 2 ^ W → unrotated W (rotated W p) ≡ p
  unfolding unrotated rotated
  unrotated_rotated p h =
      rw (digits_div (p % 2 ^ (W - 1)) (top_bit p h), digits_mod (p % 2 ^ (W - 1)) (top_bit p h)) (mod-add-div' p (2 ^ (W - 1)))

  half_below : (r : ℕ) → r < 2 ^ W → r / 2 < 2 ^ (W - 1)
  half_below r h = omega (arith, twice_half W some)

  pub rotated_unrotated : (r : ℕ) → r < 2 ^ W → rotated W (unrotated W r) ≡ r
  unfolding unrotated rotated
  rotated_unrotated r h =
      rw (add_comm (r / 2) (r % 2 * 2 ^ (W - 1)), digits_mod (r % 2) (half_below r h), digits_div (r % 2) (half_below r h)) (omega arith)

  pub rotated_below : (p : ℕ) → p < 2 ^ W → rotated W p < 2 ^ W
  unfolding rotated
  rotated_below p h =
      let b : p % 2 ^ (W - 1) < 2 ^ (W - 1) = mod-lt p (pow_pos (W - 1)) in
      omega (arith, twice_half W some, top_bit p h)

  pub unrotated_below : (r : ℕ) → r < 2 ^ W → unrotated W r < 2 ^ W
  unfolding unrotated
  unrotated_below r h = go (le_or_lt (r % 2) 0)
    where
      go : (r % 2 ≤ 0) ⊎ (0 < r % 2) → r / 2 + r % 2 * 2 ^ (W - 1) < 2 ^ W
      go (inl g) = rw (let e : r % 2 ≡ 0 = omega arith in e) (omega (arith, half_below r h, twice_half W some))
      go (inr g) = rw (let e : r % 2 ≡ 1 = omega arith in e) (omega (arith, half_below r h, twice_half W some))

  -- the lowest bit, put highest
  pub bit_below : (r : ℕ) → r % 2 * 2 ^ (W - 1) < 2 ^ W
  bit_below r = go (le_or_lt (r % 2) 0)
    where
      go : (r % 2 ≤ 0) ⊎ (0 < r % 2) → r % 2 * 2 ^ (W - 1) < 2 ^ W
      go (inl g) = rw (let e : r % 2 ≡ 0 = omega arith in e) (omega (arith, zero-mul (2 ^ (W - 1)), pow_pos W))
      go (inr g) = rw (let e : r % 2 ≡ 1 = omega arith in e) (omega (arith, one-mul (2 ^ (W - 1)), twice_half W some, pow_pos (W - 1)))

-- a unit, and the highest bit with one, are words
pub unit_below : (W m : ℕ) → m + 3 ≤ W → 2 ^ m * 2 < 2 ^ W
unit_below W m room =
    let up : 2 ^ (m + 2) ≤ 2 ^ W = pow_mono (omega arith) in
    let four : 2 ^ (m + 2) ≡ 2 ^ (m + 1) + 2 ^ (m + 1) = twice_half (m + 2) (omega arith) ∙ ap (λ (n : ℕ). 2 ^ n + 2 ^ n) (let e : m + 2 - 1 ≡ m + 1 = omega arith in e) in
    let two : 2 ^ (m + 1) ≡ 2 ^ m + 2 ^ m = twice_half (m + 1) (omega arith) ∙ ap (λ (n : ℕ). 2 ^ n + 2 ^ n) (let e : m + 1 - 1 ≡ m = omega arith in e) in
    omega (arith, up, four, two, pow_pos m)

pub highest_and_unit : (W m : ℕ) → m + 3 ≤ W → 2 ^ (W - 1) + 2 ^ (m + 1) < 2 ^ W
highest_and_unit W m room =
    let up : 2 ^ (m + 2) ≤ 2 ^ (W - 1) = pow_mono (omega arith) in
    let four : 2 ^ (m + 2) ≡ 2 ^ (m + 1) + 2 ^ (m + 1) = twice_half (m + 2) (omega arith) ∙ ap (λ (n : ℕ). 2 ^ n + 2 ^ n) (let e : m + 2 - 1 ≡ m + 1 = omega arith in e) in
    omega (arith, up, four, twice_half W (omega arith), pow_pos (m + 1))

module _ (W m : ℕ) (room : m + 2 ≤ W) where
  H_twice : 2 ^ W ≡ 2 ^ (W - 1) + 2 ^ (W - 1)
  H_twice = twice_half W (omega arith)

  F≤H : 2 ^ (m + 1) ≤ 2 ^ (W - 1)
  F≤H = pow_mono (omega arith)

  -- ---- the exponent step: zero stays, up to the middle goes below zero, above it comes down by H

  pub stepped_zero : (r : ℕ) → r < 2 ^ (m + 1) → stepped W m r ≡ r
  unfolding stepped field
  stepped_zero r h = rw (quotient_zero r (2 ^ (m + 1)) h)

  not_zero : (r : ℕ) → 2 ^ (m + 1) ≤ r → stepped W m r ≡ lowered W m (minus W r (2 ^ (W - 1)))
  unfolding stepped field
  not_zero r h = rw (quotient_some r (2 ^ (m + 1)) (pow_pos (m + 1)) h)

  -- the first difference, from the upper half and from the lower
  minus_half : (r : ℕ) → 2 ^ (W - 1) ≤ r → r < 2 ^ W → minus W r (2 ^ (W - 1)) ≡ r - 2 ^ (W - 1)
  unfolding minus
  minus_half r h l = minus_plain (2 ^ W) r (2 ^ (W - 1)) h l

  plus_half : (r : ℕ) → r < 2 ^ (W - 1) → minus W r (2 ^ (W - 1)) ≡ r + 2 ^ (W - 1)
  unfolding minus
  plus_half r h = minus_wraps (2 ^ W) r (2 ^ (W - 1)) h (omega (arith, H_twice)) ∙ (let e : r + (2 ^ W - 2 ^ (W - 1)) ≡ r + 2 ^ (W - 1) = omega (arith, H_twice) in e)

  lowers : (r : ℕ) → 2 ^ (m + 1) ≤ r → r < 2 ^ (W - 1) + 2 ^ (m + 1)
      → lowered W m (minus W r (2 ^ (W - 1))) ≡ minus W (minus W r (2 ^ (W - 1))) (2 ^ (m + 1))
  unfolding lowered field
  lowers r h l = go (le_or_lt (2 ^ (W - 1)) r)
    where
      go : (2 ^ (W - 1) ≤ r) ⊎ (r < 2 ^ (W - 1)) → lowered W m (minus W r (2 ^ (W - 1))) ≡ minus W (minus W r (2 ^ (W - 1))) (2 ^ (m + 1))
      go (inl g) = rw (minus_half r g (omega (arith, H_twice, F≤H))) (rw (quotient_zero (r - 2 ^ (W - 1)) (2 ^ (m + 1)) (omega arith)))
      go (inr g) =
          rw (plus_half r g)
          (rw (quotient_some (r + 2 ^ (W - 1)) (2 ^ (m + 1)) (pow_pos (m + 1)) (omega arith), le-leb (2 ^ (W - 1)) (r + 2 ^ (W - 1)) (omega arith)))

  lowered_is : (r : ℕ) → 2 ^ (m + 1) ≤ r → r < 2 ^ (W - 1) + 2 ^ (m + 1)
      → minus W (minus W r (2 ^ (W - 1))) (2 ^ (m + 1)) ≡ r + 2 ^ (W - 1) - 2 ^ (m + 1)
  unfolding minus
  lowered_is r h l = go (le_or_lt (2 ^ (W - 1)) r)
    where
      go : (2 ^ (W - 1) ≤ r) ⊎ (r < 2 ^ (W - 1)) → minus W (minus W r (2 ^ (W - 1))) (2 ^ (m + 1)) ≡ r + 2 ^ (W - 1) - 2 ^ (m + 1)
      go (inl g) =
          ap (λ (x : ℕ). minus W x (2 ^ (m + 1))) (minus_half r g (omega (arith, H_twice, F≤H)))
          ∙ minus_wraps (2 ^ W) (r - 2 ^ (W - 1)) (2 ^ (m + 1)) (omega arith) (omega (arith, H_twice, F≤H))
          ∙ (let e : r - 2 ^ (W - 1) + (2 ^ W - 2 ^ (m + 1)) ≡ r + 2 ^ (W - 1) - 2 ^ (m + 1) = omega (arith, H_twice, F≤H) in e)
      go (inr g) =
          ap (λ (x : ℕ). minus W x (2 ^ (m + 1))) (plus_half r g)
          ∙ minus_plain (2 ^ W) (r + 2 ^ (W - 1)) (2 ^ (m + 1)) (omega arith) (omega (arith, H_twice))

  pub stepped_low : (r : ℕ) → 2 ^ (m + 1) ≤ r → r < 2 ^ (W - 1) + 2 ^ (m + 1) → stepped W m r ≡ r + 2 ^ (W - 1) - 2 ^ (m + 1)
  stepped_low r h l = not_zero r h ∙ lowers r h l ∙ lowered_is r h l

  keeps : (r : ℕ) → 2 ^ (W - 1) + 2 ^ (m + 1) ≤ r → r < 2 ^ W → lowered W m (minus W r (2 ^ (W - 1))) ≡ minus W r (2 ^ (W - 1))
  unfolding lowered field
  keeps r h l =
      rw (minus_half r (omega arith) l)
      (rw (quotient_some (r - 2 ^ (W - 1)) (2 ^ (m + 1)) (pow_pos (m + 1)) (omega arith), lt-leb (2 ^ (W - 1)) (r - 2 ^ (W - 1)) (omega (arith, H_twice))))

  pub stepped_high : (r : ℕ) → 2 ^ (W - 1) + 2 ^ (m + 1) ≤ r → r < 2 ^ W → stepped W m r ≡ r - 2 ^ (W - 1)
  stepped_high r h l = not_zero r (omega arith) ∙ keeps r h l ∙ minus_half r (omega arith) l

  pub unstepped_zero : (s : ℕ) → s < 2 ^ (m + 1) → unstepped W m s ≡ s
  unfolding unstepped field
  unstepped_zero s h = rw (quotient_zero s (2 ^ (m + 1)) h)

  pub unstepped_low : (s : ℕ) → 2 ^ (W - 1) ≤ s → s < 2 ^ W → unstepped W m s ≡ s + 2 ^ (m + 1) - 2 ^ (W - 1)
  unfolding unstepped field raised plus
  unstepped_low s h l =
      rw (quotient_some s (2 ^ (m + 1)) (pow_pos (m + 1)) (omega (arith, F≤H)), le-leb (2 ^ (W - 1)) s h) (go (le_or_lt (2 ^ W) (s + 2 ^ (m + 1))))
    where
      go : (2 ^ W ≤ s + 2 ^ (m + 1)) ⊎ (s + 2 ^ (m + 1) < 2 ^ W)
          → ((s + 2 ^ (m + 1)) % 2 ^ W + 2 ^ (W - 1)) % 2 ^ W ≡ s + 2 ^ (m + 1) - 2 ^ (W - 1)
      go (inl g) =
          rw (mod_once (s + 2 ^ (m + 1)) (2 ^ W) g (omega (arith, F≤H, H_twice)))
          (mod-eq_of_lt (omega (arith, F≤H, H_twice)) ∙ (let e : s + 2 ^ (m + 1) - 2 ^ W + 2 ^ (W - 1) ≡ s + 2 ^ (m + 1) - 2 ^ (W - 1) = omega (arith, H_twice) in e))
      go (inr g) =
          rw (mod-eq_of_lt g)
          (mod_once (s + 2 ^ (m + 1) + 2 ^ (W - 1)) (2 ^ W) (omega (arith, H_twice)) (omega (arith, H_twice))
          ∙ (let e : s + 2 ^ (m + 1) + 2 ^ (W - 1) - 2 ^ W ≡ s + 2 ^ (m + 1) - 2 ^ (W - 1) = omega (arith, H_twice) in e))

  pub unstepped_high : (s : ℕ) → 2 ^ (m + 1) ≤ s → s < 2 ^ (W - 1) → unstepped W m s ≡ s + 2 ^ (W - 1)
  unfolding unstepped field raised plus
  unstepped_high s h l =
      rw (quotient_some s (2 ^ (m + 1)) (pow_pos (m + 1)) h, lt-leb (2 ^ (W - 1)) s l) (mod-eq_of_lt (omega (arith, H_twice)))

  -- ---- there and back

  pub stepped_below : (r : ℕ) → r < 2 ^ W → stepped W m r < 2 ^ W
  stepped_below r h = go (le_or_lt (2 ^ (m + 1)) r) (le_or_lt (2 ^ (W - 1) + 2 ^ (m + 1)) r)
    where
      go : (2 ^ (m + 1) ≤ r) ⊎ (r < 2 ^ (m + 1)) → (2 ^ (W - 1) + 2 ^ (m + 1) ≤ r) ⊎ (r < 2 ^ (W - 1) + 2 ^ (m + 1)) → stepped W m r < 2 ^ W
      go (inr z) g = rw (stepped_zero r z) h
      go (inl a) (inl g) = rw (stepped_high r g h) (omega arith)
      go (inl a) (inr g) = rw (stepped_low r a g) (omega (arith, H_twice))

  pub unstepped_stepped : (r : ℕ) → r < 2 ^ W → unstepped W m (stepped W m r) ≡ r
  unstepped_stepped r h = go (le_or_lt (2 ^ (m + 1)) r) (le_or_lt (2 ^ (W - 1) + 2 ^ (m + 1)) r)
    where
      go : (2 ^ (m + 1) ≤ r) ⊎ (r < 2 ^ (m + 1)) → (2 ^ (W - 1) + 2 ^ (m + 1) ≤ r) ⊎ (r < 2 ^ (W - 1) + 2 ^ (m + 1)) → unstepped W m (stepped W m r) ≡ r
      go (inr z) g = rw (stepped_zero r z) (unstepped_zero r z)
      go (inl a) (inl g) = rw (stepped_high r g h) (unstepped_high (r - 2 ^ (W - 1)) (omega arith) (omega (arith, H_twice)) ∙ (let e : r - 2 ^ (W - 1) + 2 ^ (W - 1) ≡ r = omega arith in e))
      go (inl a) (inr g) =
          rw (stepped_low r a g)
          (unstepped_low (r + 2 ^ (W - 1) - 2 ^ (m + 1)) (omega arith) (omega (arith, H_twice)) ∙ (let e : r + 2 ^ (W - 1) - 2 ^ (m + 1) + 2 ^ (m + 1) - 2 ^ (W - 1) ≡ r = omega arith in e))

  pub unstepped_below : (s : ℕ) → s < 2 ^ W → unstepped W m s < 2 ^ W
  unstepped_below s h = go (le_or_lt (2 ^ (m + 1)) s) (le_or_lt (2 ^ (W - 1)) s)
    where
      go : (2 ^ (m + 1) ≤ s) ⊎ (s < 2 ^ (m + 1)) → (2 ^ (W - 1) ≤ s) ⊎ (s < 2 ^ (W - 1)) → unstepped W m s < 2 ^ W
      go (inr z) g = rw (unstepped_zero s z) h
      go (inl a) (inl g) = rw (unstepped_low s g h) (omega (arith, F≤H))
      go (inl a) (inr g) = rw (unstepped_high s a g) (omega (arith, H_twice))

  pub stepped_unstepped : (s : ℕ) → s < 2 ^ W → stepped W m (unstepped W m s) ≡ s
  stepped_unstepped s h = go (le_or_lt (2 ^ (m + 1)) s) (le_or_lt (2 ^ (W - 1)) s)
    where
      go : (2 ^ (m + 1) ≤ s) ⊎ (s < 2 ^ (m + 1)) → (2 ^ (W - 1) ≤ s) ⊎ (s < 2 ^ (W - 1)) → stepped W m (unstepped W m s) ≡ s
      go (inr z) g = rw (unstepped_zero s z) (stepped_zero s z)
      go (inl a) (inl g) =
          rw (unstepped_low s g h)
          (stepped_low (s + 2 ^ (m + 1) - 2 ^ (W - 1)) (omega arith) (omega (arith, H_twice)) ∙ (let e : s + 2 ^ (m + 1) - 2 ^ (W - 1) + 2 ^ (W - 1) - 2 ^ (m + 1) ≡ s = omega arith in e))
      go (inl a) (inr g) =
          rw (unstepped_high s a g)
          (stepped_high (s + 2 ^ (W - 1)) (omega arith) (omega (arith, H_twice)) ∙ (let e : s + 2 ^ (W - 1) - 2 ^ (W - 1) ≡ s = omega arith in e))

  some : 0 < W
  some = omega arith

  -- ---- the exponent number in three cases: zero, up to the middle, above it

  -- the middle exponent is 2 ^ (W - 1) in units of the field, and with the next one the numbers above it begin
  pub middle_units : 2 ^ (W - 2 - m) * 2 ^ (m + 1) ≡ 2 ^ (W - 1)
  middle_units = sym (pow-add 2 (W - 2 - m) (m + 1)) ∙ ap (λ (n : ℕ). 2 ^ n) (let q : W - 2 - m + (m + 1) ≡ W - 1 = omega arith in q)

  pub next_units : (2 ^ (W - 2 - m) + 1) * 2 ^ (m + 1) ≡ 2 ^ (W - 1) + 2 ^ (m + 1)
  next_units = add-mul (2 ^ (W - 2 - m)) 1 (2 ^ (m + 1)) ∙ (let q : 2 ^ (W - 2 - m) * 2 ^ (m + 1) + 1 * 2 ^ (m + 1) ≡ 2 ^ (W - 1) + 2 ^ (m + 1) = omega (arith, middle_units, one-mul (2 ^ (m + 1))) in q)

  field_zero : (r : ℕ) → r < 2 ^ (m + 1) → field m r ≡ 0
  unfolding field
  field_zero r h = div-eq_of_lt h

  field_some : (r : ℕ) → 2 ^ (m + 1) ≤ r → 1 ≤ field m r
  unfolding field
  field_some r h = (le-div_iff_mul-le (pow_pos (m + 1))).1 (omega (arith, one-mul (2 ^ (m + 1))))

  field_up_to : (r : ℕ) → r < 2 ^ (W - 1) + 2 ^ (m + 1) → field m r ≤ 2 ^ (W - 2 - m)
  unfolding field
  field_up_to r h =
      let l : r / 2 ^ (m + 1) < 2 ^ (W - 2 - m) + 1 = (div-lt_iff_lt-mul (pow_pos (m + 1))).1 (omega (arith, next_units)) in
      omega arith

  field_above : (r : ℕ) → 2 ^ (W - 1) + 2 ^ (m + 1) ≤ r → 2 ^ (W - 2 - m) < field m r
  unfolding field
  field_above r h =
      let l : 2 ^ (W - 2 - m) + 1 ≤ r / 2 ^ (m + 1) = (le-div_iff_mul-le (pow_pos (m + 1))).1 (omega (arith, next_units)) in
      omega arith

  whole_some : (r : ℕ) → 1 ≤ field m r → 2 ^ (m + 1) ≤ r
  unfolding field
  whole_some r h = led_by_one (m + 1) r (λ e. omega arith)

  whole_up_to : (r : ℕ) → field m r ≤ 2 ^ (W - 2 - m) → r < 2 ^ (W - 1) + 2 ^ (m + 1)
  unfolding field
  whole_up_to r h =
      let l : r < (2 ^ (W - 2 - m) + 1) * 2 ^ (m + 1) = (div-lt_iff_lt-mul (pow_pos (m + 1))).0 (let q : r / 2 ^ (m + 1) < 2 ^ (W - 2 - m) + 1 = omega arith in q) in
      omega (arith, next_units)

  whole_above : (r : ℕ) → 2 ^ (W - 2 - m) < field m r → 2 ^ (W - 1) + 2 ^ (m + 1) ≤ r
  unfolding field
  whole_above r h =
      let l : (2 ^ (W - 2 - m) + 1) * 2 ^ (m + 1) ≤ r = (le-div_iff_mul-le (pow_pos (m + 1))).0 (let q : 2 ^ (W - 2 - m) + 1 ≤ r / 2 ^ (m + 1) = omega arith in q) in
      omega (arith, next_units)

  abbrev up_to_middle : ℕ → Bool
  up_to_middle r = leb 1 (field m r) && leb (field m r) (2 ^ (W - 2 - m))

  low_zero : (r : ℕ) → r < 2 ^ (m + 1) → up_to_middle r ≡ false
  unfolding field
  low_zero r z = rw (div-eq_of_lt z)

  low_some : (r : ℕ) → 2 ^ (m + 1) ≤ r → r < 2 ^ (W - 1) + 2 ^ (m + 1) → up_to_middle r ≡ true
  low_some r a g = rw (le-leb 1 (field m r) (field_some r a), le-leb (field m r) (2 ^ (W - 2 - m)) (field_up_to r g))

  low_above : (r : ℕ) → 2 ^ (W - 1) + 2 ^ (m + 1) ≤ r → up_to_middle r ≡ false
  low_above r g = rw (le-leb 1 (field m r) (field_some r (omega arith)), lt-leb (field m r) (2 ^ (W - 2 - m)) (field_above r g))

  -- the code tests whole patterns, in which the exponent stands highest: that tells the cases apart
  pub zero_test : (r : ℕ) → ltb r (2 ^ (m + 1)) ≡ eqb (field m r) 0
  unfolding field
  zero_test r = go (le_or_lt (2 ^ (m + 1)) r)
    where
      go : (2 ^ (m + 1) ≤ r) ⊎ (r < 2 ^ (m + 1)) → ltb r (2 ^ (m + 1)) ≡ eqb (r / 2 ^ (m + 1)) 0
      go (inl a) = le-ltb r (2 ^ (m + 1)) a ∙ sym (quotient_some r (2 ^ (m + 1)) (pow_pos (m + 1)) a)
      go (inr z) = lt-ltb r (2 ^ (m + 1)) z ∙ sym (quotient_zero r (2 ^ (m + 1)) z)

  pub low_test : (r : ℕ) → leb (2 ^ (m + 1)) r && ltb r (2 ^ (W - 1) + 2 ^ (m + 1)) ≡ up_to_middle r
  low_test r = go (le_or_lt (2 ^ (m + 1)) r) (le_or_lt (2 ^ (W - 1) + 2 ^ (m + 1)) r)
    where
      go : (2 ^ (m + 1) ≤ r) ⊎ (r < 2 ^ (m + 1)) → (2 ^ (W - 1) + 2 ^ (m + 1) ≤ r) ⊎ (r < 2 ^ (W - 1) + 2 ^ (m + 1))
          → leb (2 ^ (m + 1)) r && ltb r (2 ^ (W - 1) + 2 ^ (m + 1)) ≡ up_to_middle r
      go (inr z) g = ap (λ (b : Bool). b && ltb r (2 ^ (W - 1) + 2 ^ (m + 1))) (lt-leb (2 ^ (m + 1)) r z) ∙ sym (low_zero r z)
      go (inl a) (inl g) = rw (le-leb (2 ^ (m + 1)) r a) (le-ltb r (2 ^ (W - 1) + 2 ^ (m + 1)) g ∙ sym (low_above r g))
      go (inl a) (inr g) = rw (le-leb (2 ^ (m + 1)) r a) (lt-ltb r (2 ^ (W - 1) + 2 ^ (m + 1)) g ∙ sym (low_some r a g))

  low_parts : (r : ℕ) → up_to_middle r ≡ true → (1 ≤ field m r) × (field m r ≤ 2 ^ (W - 2 - m))
  low_parts r e =
      let parts = both (leb 1 (field m r)) (leb (field m r) (2 ^ (W - 2 - m))) e in
      (leb-true 1 (field m r) parts.0, leb-true (field m r) (2 ^ (W - 2 - m)) parts.1)

  high_part : (r : ℕ) → up_to_middle r ≡ false → (field m r ≡ 0 → ⊥) → 2 ^ (W - 2 - m) < field m r
  unfolding field
  high_part r e some = go (le_or_lt (field m r) (2 ^ (W - 2 - m)))
    where
      one : 1 ≤ field m r
      one = field_some r (led_by_one (m + 1) r some)

      go : (field m r ≤ 2 ^ (W - 2 - m)) ⊎ (2 ^ (W - 2 - m) < field m r) → 2 ^ (W - 2 - m) < field m r
      go (inl h) = let no : true ≡ false = sym (rw (le-leb 1 (field m r) one, le-leb (field m r) (2 ^ (W - 2 - m)) h)) ∙ e in absurd (let z : ◌≡◌ {A = ℕ} 0 1 = cc in omega arith)
      go (inr h) = h

  -- the amount of each case
  abbrev Amount : ℕ → ℕ → Type 0
  Amount r a =
      (field m r ≡ 0 → a ≡ 0)
      × ((1 ≤ field m r → field m r ≤ 2 ^ (W - 2 - m) → a ≡ (2 ^ (W - 2 - m) + 1) * 2 ^ (m + 1)) × (2 ^ (W - 2 - m) < field m r → a ≡ 2 ^ (W - 2 - m) * 2 ^ (m + 1)))

  pub amount_zero : (r : ℕ) → eqb (field m r) 0 ≡ true → Amount r 0
  amount_zero r e =
      let zero : field m r ≡ 0 = eqb-true (field m r) 0 e in
      (λ z. refl, (λ a b. omega arith, λ g. omega arith))

  pub amount_low : (r : ℕ) → up_to_middle r ≡ true → Amount r ((2 ^ (W - 2 - m) + 1) * 2 ^ (m + 1))
  amount_low r e =
      let low = low_parts r e in
      (λ z. absurd (omega (arith, low.0)), (λ a b. refl, λ g. absurd (omega (arith, low.1))))

  pub amount_high : (r : ℕ) → up_to_middle r ≡ false → eqb (field m r) 0 ≡ false → Amount r (2 ^ (W - 2 - m) * 2 ^ (m + 1))
  amount_high r e f =
      let high = high_part r e (eqb-false (field m r) 0 f) in
      (λ z. absurd (omega (arith, high)), (λ a b. absurd (omega (arith, high)), λ g. refl))

  -- the step is one difference with it
  pub subtracted : (r a : ℕ) → r < 2 ^ W → Amount r a → minus W r a ≡ stepped W m r
  unfolding minus
  subtracted r a h amount = go (le_or_lt (2 ^ (m + 1)) r) (le_or_lt (2 ^ (W - 1) + 2 ^ (m + 1)) r)
    where
      go : (2 ^ (m + 1) ≤ r) ⊎ (r < 2 ^ (m + 1)) → (2 ^ (W - 1) + 2 ^ (m + 1) ≤ r) ⊎ (r < 2 ^ (W - 1) + 2 ^ (m + 1)) → minus W r a ≡ stepped W m r
      go (inr z) g =
          ap (minus W r) (amount.0 (field_zero r z)) ∙ minus_plain (2 ^ W) r 0 (omega arith) h ∙ (let q : r - 0 ≡ r = omega arith in q) ∙ sym (stepped_zero r z)
      go (inl x) (inl g) = ap (minus W r) (amount.1.1 (field_above r g) ∙ middle_units) ∙ minus_half r (omega arith) h ∙ sym (stepped_high r g h)
      go (inl x) (inr g) =
          ap (minus W r) (amount.1.0 (field_some r x) (field_up_to r g) ∙ next_units)
          ∙ minus_wraps (2 ^ W) r (2 ^ (W - 1) + 2 ^ (m + 1)) g (omega (arith, F≤H, H_twice))
          ∙ (let q : r + (2 ^ W - (2 ^ (W - 1) + 2 ^ (m + 1))) ≡ r + 2 ^ (W - 1) - 2 ^ (m + 1) = omega (arith, F≤H, H_twice) in q)
          ∙ sym (stepped_low r x g)

  -- below zero come just the exponents up to the middle
  pub low_below_zero : (r : ℕ) → r < 2 ^ W → up_to_middle r ≡ leb (2 ^ (W - 1)) (stepped W m r)
  low_below_zero r h = go (le_or_lt (2 ^ (m + 1)) r) (le_or_lt (2 ^ (W - 1) + 2 ^ (m + 1)) r)
    where
      go : (2 ^ (m + 1) ≤ r) ⊎ (r < 2 ^ (m + 1)) → (2 ^ (W - 1) + 2 ^ (m + 1) ≤ r) ⊎ (r < 2 ^ (W - 1) + 2 ^ (m + 1))
          → up_to_middle r ≡ leb (2 ^ (W - 1)) (stepped W m r)
      go (inr z) g = low_zero r z ∙ sym (rw (stepped_zero r z) (lt-leb (2 ^ (W - 1)) r (omega (arith, F≤H))))
      go (inl a) (inl g) = low_above r g ∙ sym (rw (stepped_high r g h) (lt-leb (2 ^ (W - 1)) (r - 2 ^ (W - 1)) (omega (arith, H_twice))))
      go (inl a) (inr g) = low_some r a g ∙ sym (rw (stepped_low r a g) (le-leb (2 ^ (W - 1)) (r + 2 ^ (W - 1) - 2 ^ (m + 1)) (omega arith)))

  -- a number with its highest bit taken off, and put back where it was
  pub told_below : (s : ℕ) → s < 2 ^ W → leb (2 ^ (W - 1)) s ≡ true → s % 2 ^ (W - 1) + 2 ^ (W - 1) ≡ s
  told_below s h e =
      let g : 2 ^ (W - 1) ≤ s = leb-true (2 ^ (W - 1)) s e in
      rw (mod_once s (2 ^ (W - 1)) g (omega (arith, H_twice))) (omega arith)

  pub told_above : (s : ℕ) → leb (2 ^ (W - 1)) s ≡ false → s % 2 ^ (W - 1) ≡ s
  told_above s e = mod-eq_of_lt (leb-false (2 ^ (W - 1)) s e)

  field_below : (r : ℕ) → r < 2 ^ W → r / 2 ^ (m + 1) < 2 ^ (W - 1 - m)
  field_below r h =
      (div-lt_iff_lt-mul (pow_pos (m + 1))).1
      (let e : 2 ^ W ≡ 2 ^ (W - 1 - m) * 2 ^ (m + 1) = ap (λ (n : ℕ). 2 ^ n) (let q : W ≡ W - 1 - m + (m + 1) = omega arith in q) ∙ pow-add 2 (W - 1 - m) (m + 1) in
      omega arith)

  plus_zero : (s : ℕ) → s < 2 ^ W → plus W s 0 ≡ s
  unfolding plus
  plus_zero s h = ap (λ (x : ℕ). x % 2 ^ W) (add-zero s) ∙ mod-eq_of_lt h

  below_middle : (s : ℕ) → field m s < 2 ^ (W - 2 - m) → s < 2 ^ (W - 1)
  unfolding field
  below_middle s h = omega (arith, (div-lt_iff_lt-mul (pow_pos (m + 1))).0 h, middle_units)

  from_middle : (s : ℕ) → 2 ^ (W - 2 - m) ≤ field m s → 2 ^ (W - 1) ≤ s
  unfolding field
  from_middle s h = omega (arith, (le-div_iff_mul-le (pow_pos (m + 1))).0 h, middle_units)

  pub middle_is : 2 ^ (W - 1) / 2 ^ (m + 1) ≡ 2 ^ (W - 2 - m)
  middle_is = ap (λ (x : ℕ). x / 2 ^ (m + 1)) (sym middle_units) ∙ mul-div_cancel (2 ^ (W - 2 - m)) (pow_pos (m + 1))

  -- the inverse is one sum with the amount of the case
  pub added : (s n : ℕ) → s < 2 ^ W → (field m s ≡ 0 → n ≡ 0) → (1 ≤ field m s → field m s < 2 ^ (W - 2 - m) → n ≡ 2 ^ (W - 2 - m))
      → (1 ≤ field m s → 2 ^ (W - 2 - m) ≤ field m s → n ≡ 2 ^ (W - 2 - m) + 1) → plus W s (n * 2 ^ (m + 1)) ≡ unstepped W m s
  unfolding plus
  added s n h zero above below = go (le_or_lt (2 ^ (m + 1)) s) (le_or_lt (2 ^ (W - 2 - m)) (field m s))
    where
      go : (2 ^ (m + 1) ≤ s) ⊎ (s < 2 ^ (m + 1)) → (2 ^ (W - 2 - m) ≤ field m s) ⊎ (field m s < 2 ^ (W - 2 - m)) → plus W s (n * 2 ^ (m + 1)) ≡ unstepped W m s
      go (inr z) g = ap (λ (a : ℕ). plus W s a) (ap (λ (n : ℕ). n * 2 ^ (m + 1)) (zero (field_zero s z)) ∙ zero-mul (2 ^ (m + 1))) ∙ plus_zero s h ∙ sym (unstepped_zero s z)
      go (inl x) (inl g) =
          ap (λ (a : ℕ). plus W s a) (ap (λ (n : ℕ). n * 2 ^ (m + 1)) (below (field_some s x) g) ∙ next_units)
          ∙ mod_once (s + (2 ^ (W - 1) + 2 ^ (m + 1))) (2 ^ W) (omega (arith, from_middle s g, H_twice)) (omega (arith, F≤H, H_twice))
          ∙ (let q : s + (2 ^ (W - 1) + 2 ^ (m + 1)) - 2 ^ W ≡ s + 2 ^ (m + 1) - 2 ^ (W - 1) = omega (arith, H_twice) in q)
          ∙ sym (unstepped_low s (from_middle s g) h)
      go (inl x) (inr g) =
          ap (λ (a : ℕ). plus W s a) (ap (λ (n : ℕ). n * 2 ^ (m + 1)) (above (field_some s x) g) ∙ middle_units)
          ∙ mod-eq_of_lt (let l : s + 2 ^ (W - 1) < 2 ^ W = omega (arith, below_middle s g, H_twice) in l)
          ∙ sym (unstepped_high s x (below_middle s g))

  -- ---- what the step does to the exponent number, read in two's complement; what stands below it stays

  low_sum : (r : ℕ) → 2 ^ (m + 1) ≤ r → r < 2 ^ (W - 1) + 2 ^ (m + 1) → stepped W m r + 2 ^ (m + 1) ≡ r + 2 ^ (W - 2 - m) * 2 ^ (m + 1)
  low_sum r a g = rw (stepped_low r a g) (omega (arith, middle_units))

  high_sum : (r : ℕ) → 2 ^ (W - 1) + 2 ^ (m + 1) ≤ r → r < 2 ^ W → stepped W m r + 2 ^ (W - 2 - m) * 2 ^ (m + 1) ≡ r
  high_sum r g h = rw (stepped_high r g h) (omega (arith, middle_units))

  low_field : (r : ℕ) → 2 ^ (m + 1) ≤ r → r < 2 ^ (W - 1) + 2 ^ (m + 1) → field m (stepped W m r) + 1 ≡ field m r + 2 ^ (W - 2 - m)
  unfolding field
  low_field r a g =
      sym (add-div_right (stepped W m r) (pow_pos (m + 1)))
      ∙ ap (λ (x : ℕ). x / 2 ^ (m + 1)) (low_sum r a g)
      ∙ add-mul-div_right r (2 ^ (W - 2 - m)) (pow_pos (m + 1))

  high_field : (r : ℕ) → 2 ^ (W - 1) + 2 ^ (m + 1) ≤ r → r < 2 ^ W → field m (stepped W m r) + 2 ^ (W - 2 - m) ≡ field m r
  unfolding field
  high_field r g h =
      sym (add-mul-div_right (stepped W m r) (2 ^ (W - 2 - m)) (pow_pos (m + 1))) ∙ ap (λ (x : ℕ). x / 2 ^ (m + 1)) (high_sum r g h)

  -- the exponent field has W - 1 - m bits
  middle_bits : 2 ^ (W - 1 - m - 1) ≡ 2 ^ (W - 2 - m)
  middle_bits = ap (λ (n : ℕ). 2 ^ n) (let q : W - 1 - m - 1 ≡ W - 2 - m = omega arith in q)

  twice_middle : 2 ^ (W - 1 - m) ≡ 2 ^ (W - 2 - m) + 2 ^ (W - 2 - m)
  twice_middle = twice_half (W - 1 - m) (omega arith) ∙ ap (λ (x : ℕ). x + x) middle_bits

  pub zero_stays : (r : ℕ) → field m r ≡ 0 → stepped W m r ≡ r
  unfolding field
  zero_stays r e = stepped_zero r (fraction_only (m + 1) r e)

  pub low_exponent : (r : ℕ) → 1 ≤ field m r → field m r ≤ 2 ^ (W - 2 - m)
      → signed_view (W - 1 - m) (field m (stepped W m r)) ≡ negsuc (2 ^ (W - 2 - m) - field m r)
  unfolding signed_view
  low_exponent r a g =
      let x = field m (stepped W m r) in
      let is : x + 1 ≡ field m r + 2 ^ (W - 2 - m) = low_field r (whole_some r a) (whole_up_to r g) in
      rw (middle_bits, le-ltb x (2 ^ (W - 2 - m)) (omega arith))
      (ap negsuc (let q : 2 ^ (W - 1 - m) - suc x ≡ 2 ^ (W - 2 - m) - field m r = omega (arith, twice_middle) in q))

  pub high_exponent : (r : ℕ) → r < 2 ^ W → 2 ^ (W - 2 - m) < field m r
      → signed_view (W - 1 - m) (field m (stepped W m r)) ≡ pos (field m r - 2 ^ (W - 2 - m))
  unfolding signed_view field
  high_exponent r h g =
      let x = field m (stepped W m r) in
      let is : x + 2 ^ (W - 2 - m) ≡ field m r = high_field r (whole_above r g) h in
      rw (middle_bits, lt-ltb x (2 ^ (W - 2 - m)) (omega (arith, field_below r h, twice_middle)))
      (ap pos (let q : x ≡ field m r - 2 ^ (W - 2 - m) = omega arith in q))

  pub rest_stays : (r : ℕ) → r < 2 ^ W → stepped W m r % 2 ^ (m + 1) ≡ r % 2 ^ (m + 1)
  rest_stays r h = go (le_or_lt (2 ^ (m + 1)) r) (le_or_lt (2 ^ (W - 1) + 2 ^ (m + 1)) r)
    where
      go : (2 ^ (m + 1) ≤ r) ⊎ (r < 2 ^ (m + 1)) → (2 ^ (W - 1) + 2 ^ (m + 1) ≤ r) ⊎ (r < 2 ^ (W - 1) + 2 ^ (m + 1))
          → stepped W m r % 2 ^ (m + 1) ≡ r % 2 ^ (m + 1)
      go (inr z) g = ap (λ (x : ℕ). x % 2 ^ (m + 1)) (stepped_zero r z)
      go (inl a) (inl g) =
          sym (add-mul-mod_self_right (stepped W m r) (2 ^ (W - 2 - m)) (2 ^ (m + 1))) ∙ ap (λ (x : ℕ). x % 2 ^ (m + 1)) (high_sum r g h)
      go (inl a) (inr g) =
          sym (add-mod_right (stepped W m r) (2 ^ (m + 1)))
          ∙ ap (λ (x : ℕ). x % 2 ^ (m + 1)) (low_sum r a g)
          ∙ add-mul-mod_self_right r (2 ^ (W - 2 - m)) (2 ^ (m + 1))

  pub zero_back : (s : ℕ) → field m s ≡ 0 → unstepped W m s ≡ s
  unfolding field
  zero_back s e = unstepped_zero s (fraction_only (m + 1) s e)

  pub above_back : (s : ℕ) → 1 ≤ field m s → field m s < 2 ^ (W - 2 - m) → field m (unstepped W m s) ≡ field m s + 2 ^ (W - 2 - m)
  unfolding field
  above_back s x g =
      ap (λ (r : ℕ). r / 2 ^ (m + 1)) (unstepped_high s (whole_some s x) (below_middle s g) ∙ ap (λ (h : ℕ). s + h) (sym middle_units))
      ∙ add-mul-div_right s (2 ^ (W - 2 - m)) (pow_pos (m + 1))

  pub below_back : (s : ℕ) → s < 2 ^ W → 2 ^ (W - 2 - m) ≤ field m s → field m (unstepped W m s) ≡ field m s + 1 - 2 ^ (W - 2 - m)
  unfolding field
  below_back s h g =
      let low : 2 ^ (W - 1) ≤ s = from_middle s g in
      let back : unstepped W m s + 2 ^ (W - 2 - m) * 2 ^ (m + 1) ≡ s + 2 ^ (m + 1) = rw (unstepped_low s low h) (omega (arith, middle_units)) in
      let fields : unstepped W m s / 2 ^ (m + 1) + 2 ^ (W - 2 - m) ≡ s / 2 ^ (m + 1) + 1 =
      sym (add-mul-div_right (unstepped W m s) (2 ^ (W - 2 - m)) (pow_pos (m + 1)))
      ∙ ap (λ (r : ℕ). r / 2 ^ (m + 1)) back
      ∙ add-div_right s (pow_pos (m + 1))
      in
      omega arith

  pub code_below : (p : ℕ) → p < 2 ^ W → lossless_code W m p < 2 ^ W
  unfolding lossless_code
  code_below p h = folded_below W some (stepped W m (rotated W p)) (stepped_below (rotated W p) (rotated_below W some p h))

  pub restored_below : (c : ℕ) → c < 2 ^ W → lossless_restored W m c < 2 ^ W
  unfolding lossless_restored
  restored_below c h = unrotated_below W some (unstepped W m (bits_of W (unfolded c))) (unstepped_below (bits_of W (unfolded c)) (bits_below W some c h))

  -- every pattern is restored
  pub restored_code : (p : ℕ) → p < 2 ^ W → lossless_restored W m (lossless_code W m p) ≡ p
  unfolding lossless_restored lossless_code
  restored_code p h =
      let r = rotated W p in
      let below : r < 2 ^ W = rotated_below W some p h in
      rw (unfolded_folded (signed_view W (stepped W m r)), bits_of_view W some (stepped W m r) (stepped_below r below), unstepped_stepped r below)
      (unrotated_rotated W some p h)

  -- every code below 2 ^ W is the code of what it restores, so it has a pattern, and by the law above only that one
  pub code_restored : (c : ℕ) → c < 2 ^ W → lossless_code W m (lossless_restored W m c) ≡ c
  unfolding lossless_restored lossless_code
  code_restored c h =
      let s = bits_of W (unfolded c) in
      let below : s < 2 ^ W = bits_below W some c h in
      rw (rotated_unrotated W some (unstepped W m s) (unstepped_below s below), stepped_unstepped s below, view_of_bits W some c h)
      (folded_unfolded c)

-- the code 0 is that of the pattern 0
pub restored_zero : (W m : ℕ) → lossless_restored W m 0 ≡ 0
unfolding lossless_restored unstepped unrotated field unfolded bits_of
restored_zero W m = rw (zero-div (2 ^ (m + 1))) (omega (arith, zero-mul (2 ^ (W - 1))))
