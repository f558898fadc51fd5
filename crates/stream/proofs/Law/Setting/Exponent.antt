-- The header's numbers for k and for the mode have 32 bits, and give the setting back.
use mathlib.Core.Path.{◌≡◌, refl, sym, ap, ◌∙◌}
use mathlib.Core.Logic.{◌⊎◌, inl, inr}
use mathlib.Core.Bool.{Bool, true, false, cond}
use Prim.Native.Nat.{ℕ, suc, ◌+◌, ◌-◌, ◌%◌, ◌^◌, ◌≤◌, ◌<◌}
use native.Mathlib.Omega.{arith}
use borrow.Author.Tests.{eq-eqb, ne_eqb, lt-ltb, le-ltb}
use lib.Dec.{eqb, lit<}
use lib.IntN.{pos, negsuc, sub_ℕ}
use Rattle.numbers.specs.Signed.{signed_view, bits_of}
use Rattle.bins.specs.Tolerance.{k_offset, last_bin, bin_of}
use Rattle.numbers.specs.Bound.{exponent_of}
use Rattle.numbers.specs.Theorem.{Format}
use Rattle.numbers.proofs.Theorems.{the_k_of_a_bin_is_allowed, the_bin_of_its_k}
use Rattle.stream.specs.Setting.{fraction_bits, lossless_mode, is_zero, allowed_mode, allowed_setting, bin_for, setting_of, ruled, mode_number, k_bits}
use Rattle.stream.specs.Header.{said_mode, said_size}
use Rattle.stream.specs.Relied.{Allowed}
use Rattle.stream.specs.declared.setting.Setting.{Setting}
use Rattle.blocks.proofs.Law.Truth.{le_or_lt}
use Rattle.stream.proofs.Law.Setting.Allowed.{width_cases, size_cases, width_format, mode_cases}

-- a small number in two's complement, read back
positive_back : (n : ℕ) → n < 2 ^ 31 → signed_view 32 (bits_of 32 (pos n)) ≡ pos n
unfolding signed_view bits_of
positive_back n h = rw (lt-ltb n (2 ^ 31) h)

negative_back : (n : ℕ) → n < 2 ^ 31 → signed_view 32 (bits_of 32 (negsuc n)) ≡ negsuc n
unfolding signed_view bits_of
negative_back n h =
    rw (le-ltb (2 ^ 32 - suc n) (2 ^ 31) (omega arith)) (ap negsuc (let e : 2 ^ 32 - suc (2 ^ 32 - suc n) ≡ n = omega arith in e))

-- a difference of small numbers in two's complement
module _ (a b : ℕ) (small-a : a < 2 ^ 31) (small_b : b < 2 ^ 31) where
  pub below_bits : a < b → 2 ^ 32 - 1 - (b - a - 1) ≡ bits_of 32 (sub_ℕ a b)
  unfolding bits_of
  below_bits h = rw (lt-ltb a b h) (omega arith)

  pub above_bits : b ≤ a → a - b ≡ bits_of 32 (sub_ℕ a b)
  unfolding bits_of
  above_bits h = rw (le-ltb a b h)

  -- as the library subtracts in words of 32 bits
  pub wrapped_bits : (a + (2 ^ 32 - b)) % 2 ^ 32 ≡ bits_of 32 (sub_ℕ a b)
  wrapped_bits = go (le_or_lt b a)
    where
      go : (b ≤ a) ⊎ (a < b) → (a + (2 ^ 32 - b)) % 2 ^ 32 ≡ bits_of 32 (sub_ℕ a b)
      go (inl h) = (let e : (a + (2 ^ 32 - b)) % 2 ^ 32 ≡ a - b = omega arith in e) ∙ above_bits h
      go (inr h) = (let e : (a + (2 ^ 32 - b)) % 2 ^ 32 ≡ 2 ^ 32 - 1 - (b - a - 1) = omega arith in e) ∙ below_bits h

  difference_bits : bits_of 32 (sub_ℕ a b) < 2 ^ 32
  difference_bits = go (le_or_lt b a)
    where
      go : (b ≤ a) ⊎ (a < b) → bits_of 32 (sub_ℕ a b) < 2 ^ 32
      go (inl h) = rw (← (above_bits h)) (omega arith)
      go (inr h) = rw (← (below_bits h)) (omega arith)

  difference_back : signed_view 32 (bits_of 32 (sub_ℕ a b)) ≡ sub_ℕ a b
  difference_back = go (le_or_lt b a)
    where
      go : (b ≤ a) ⊎ (a < b) → signed_view 32 (bits_of 32 (sub_ℕ a b)) ≡ sub_ℕ a b
      go (inl h) = rw (le-ltb a b h) (positive_back (a - b) (omega arith))
      go (inr h) = rw (lt-ltb a b h) (negative_back (b - suc a) (omega arith))

module _ (t : Setting) (allowed : Allowed t) where
  abbrev W : ℕ
  W = t.width

  abbrev m : ℕ
  m = fraction_bits t.width

  format : Format W m
  format = width_format W allowed.known

  -- both are small
  offset_small : (k_offset W m < 2 ^ 31) × (last_bin W m < 2 ^ 31)
  unfolding k_offset last_bin fraction_bits
  offset_small = go (width_cases W allowed.known)
    where
      go : (W ≡ 32) ⊎ (W ≡ 64) → (k_offset W m < 2 ^ 31) × (last_bin W m < 2 ^ 31)
      go (inl e) = rw e (lit< tt, lit< tt)
      go (inr e) = rw e (lit< tt, lit< tt)

  bin_small : t.bin < 2 ^ 31
  bin_small = omega (arith, allowed.bin, offset_small.1)

  pub bits_small : k_bits t < 2 ^ 32
  unfolding k_bits exponent_of
  bits_small = go (eqb t.mode 1)
    where
      go : (b : Bool) → cond b (bits_of 32 (sub_ℕ t.bin (k_offset W m))) 0 < 2 ^ 32
      go true = difference_bits t.bin (k_offset W m) bin_small offset_small.0
      go false = lit< tt

  -- k is read as it was written: that of the bin, or 0
  k_back : signed_view 32 (k_bits t) ≡ cond (eqb t.mode 1) (exponent_of W m t.bin) (pos 0)
  unfolding k_bits exponent_of signed_view
  k_back = go (eqb t.mode 1)
    where
      go : (b : Bool) → signed_view 32 (cond b (bits_of 32 (sub_ℕ t.bin (k_offset W m))) 0) ≡ cond b (sub_ℕ t.bin (k_offset W m)) (pos 0)
      go true = difference_back t.bin (k_offset W m) bin_small offset_small.0
      go false = refl

  abbrev Cases : Type 0
  Cases = (t.mode ≡ 1) ⊎ ((t.mode ≡ 1 → ⊥) × (lossless_mode t.mode ≡ true))

  bin_back : bin_for W t.mode (signed_view 32 (k_bits t)) ≡ t.bin
  unfolding bin_for
  bin_back = rw k_back (go (mode_cases t.mode allowed.mode))
    where
      go : Cases → cond (eqb t.mode 1) (bin_of W m (cond (eqb t.mode 1) (exponent_of W m t.bin) (pos 0))) 0 ≡ t.bin
      go (inl e) = rw (eq-eqb t.mode 1 e) (the_bin_of_its_k W m format t.bin)
      go (inr e) = rw (ne_eqb t.mode 1 e.0) (sym (allowed.none e.0))

  -- the mode number is small, and says the mode and the size
  pub number_small : mode_number t < 2 ^ 32
  unfolding mode_number
  number_small = go (eqb t.size 128)
    where
      go : (b : Bool) → cond b (t.mode + 256) t.mode < 2 ^ 32
      go true = omega (arith, allowed.mode)
      go false = omega (arith, allowed.mode)

  abbrev Said : ℕ → Type 0
  Said number = (said_mode number ≡ t.mode) × (said_size number ≡ t.size)

  pub said_back : Said (mode_number t)
  unfolding mode_number said_mode said_size
  said_back = go (size_cases t.size allowed.size)
    where
      go : (t.size ≡ 32) ⊎ (t.size ≡ 128) → Said (mode_number t)
      go (inl e) = rw (e, lt-ltb t.mode 256 (omega (arith, allowed.mode))) (refl, refl)
      go (inr e) = rw (e, le-ltb (t.mode + 256) 256 (omega arith)) (let back : t.mode + 256 - 256 ≡ t.mode = omega arith in back, refl)

  -- the setting is read as it was written, but for the rule for halves, which no header has
  pub setting_back : setting_of W (said_mode (mode_number t)) (signed_view 32 (k_bits t)) (said_size (mode_number t)) ≡ ruled 0 t
  setting_back = rw (said_back.0, said_back.1) (ap (λ (b : ℕ). record { width = W; mode = t.mode; bin = b; size = t.size; halves = 0 }) bin_back)

  mode_back : allowed_mode W t.mode (signed_view 32 (k_bits t)) ≡ true
  unfolding allowed_mode is_zero
  mode_back = rw k_back (go (mode_cases t.mode allowed.mode))
    where
      go : Cases → allowed_mode W t.mode (cond (eqb t.mode 1) (exponent_of W m t.bin) (pos 0)) ≡ true
      go (inl e) = rw (e, the_k_of_a_bin_is_allowed W m format t.bin allowed.bin)
      go (inr e) = rw (ne_eqb t.mode 1 e.0, e.1)

  pub allowed_back : allowed_setting W (said_mode (mode_number t)) (signed_view 32 (k_bits t)) (said_size (mode_number t)) ≡ true
  unfolding allowed_setting
  allowed_back = rw (said_back.0, said_back.1, mode_back, allowed.size)

-- the numbers that say an allowed mode
pub said_cases : (number : ℕ) → said_mode number ≤ 2 → (number ≤ 2) ⊎ ((256 ≤ number) × (number ≤ 258))
unfolding said_mode
said_cases number small = go (le_or_lt 256 number)
  where
    go : (256 ≤ number) ⊎ (number < 256) → (number ≤ 2) ⊎ ((256 ≤ number) × (number ≤ 258))
    go (inl large) = let left : number - 256 ≤ 2 = rw (le-ltb number 256 large) at small in inr (large, omega (arith, left))
    go (inr few) = inl (rw (lt-ltb number 256 few) at small)
