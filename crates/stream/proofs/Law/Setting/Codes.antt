-- Codes and patterns of a setting, behind the pattern before: a list of them is as long as its source, its parts follow each other by their carry,
-- they stay below 2 ^ W, and where each is coded by itself zeros are zeros. Modes 0 and 1 are maps, mode 2 cites the laws of `numbers`.
use mathlib.Core.Path.{◌≡◌, refl, sym, ap₂, ◌∙◌}
use mathlib.Core.Logic.{◌⊎◌, inl, inr}
use mathlib.Core.Bool.{Bool, true, false, cond}
use mathlib.Core.List.{List, ◌∷◌, ◌++◌, map, map-append}
use Prim.Native.Nat.{ℕ, zero, suc, min, ◌^◌, ◌≤◌, ◌<◌}
use native.Mathlib.Nat.{min-le_right}
use native.Mathlib.Omega.{arith}
use borrow.Author.Tests.{eq-eqb, ne_eqb}
use lib.Dec.{eqb}
use lib.Pow.{pow_pos}
use lib.ListN.{length, replicate, length-map}
use Rattle.numbers.specs.Difference.{difference_codes, running_sums, last_of}
use Rattle.numbers.specs.Theorem.{Format}
use Rattle.numbers.specs.Lossless.{lossless_code, lossless_restored}
use Rattle.bins.specs.Tolerance.{last_bin, tolerance_code, tolerance_restored}
use Rattle.numbers.proofs.Theorems.{lossless_code_has_W_bits, lossless_pattern_has_W_bits, tolerance_code_has_W_bits, tolerance_pattern_has_W_bits, lossless_zero, tolerance_zero, difference_codes_have_W_bits, running_sums_have_W_bits, sums_of_an_append, as_many_differences, as_many_sums}
use Rattle.blocks.specs.Bytes.{Below}
use Rattle.stream.specs.Setting.{fraction_bits, clipped, code_at, pattern_at, codes_after, patterns_after}
use Rattle.stream.specs.declared.setting.Setting.{Setting}
use Rattle.stream.proofs.Law.Plain.Mapped.{map_below}

-- ---- the rules of the modes 0 and 1, at a width and its fraction bits

pub fraction_is : (W m : ℕ) → ((W ≡ 32) × (m ≡ 23)) ⊎ ((W ≡ 64) × (m ≡ 52)) → fraction_bits W ≡ m
unfolding fraction_bits
fraction_is W m (inl (e, f)) = rw (e, f) refl
fraction_is W m (inr (e, f)) = rw (e, f) refl

pub width_most : (W m : ℕ) → ((W ≡ 32) × (m ≡ 23)) ⊎ ((W ≡ 64) × (m ≡ 52)) → W ≤ 64
width_most W m (inl (e, f)) = omega arith
width_most W m (inr (e, f)) = omega arith

module _ (t : Setting) (W m : ℕ) (e : t.width ≡ W) (f : fraction_bits W ≡ m) where
  pub lossless_code_is : (p : ℕ) → t.mode ≡ 0 → code_at t p ≡ lossless_code W m p
  unfolding code_at
  lossless_code_is p z = rw (eq-eqb t.mode 0 z, e, f) refl

  pub tolerance_code_is : (p : ℕ) → (t.mode ≡ 0 → ⊥) → code_at t p ≡ tolerance_code W m t.halves (min t.bin (last_bin W m)) p
  unfolding code_at clipped
  tolerance_code_is p n = rw (ne_eqb t.mode 0 n, e, f) refl

  pub lossless_pattern_is : (c : ℕ) → t.mode ≡ 0 → pattern_at t c ≡ lossless_restored W m c
  unfolding pattern_at
  lossless_pattern_is c z = rw (eq-eqb t.mode 0 z, e, f) refl

  pub tolerance_pattern_is : (c : ℕ) → (t.mode ≡ 0 → ⊥) → pattern_at t c ≡ tolerance_restored W m (min t.bin (last_bin W m)) c
  unfolding pattern_at clipped
  tolerance_pattern_is c n = rw (ne_eqb t.mode 0 n, e, f) refl

-- ---- the modes

module _ (t : Setting) (before : ℕ) (xs : List ℕ) where
  pub codes_by_difference : t.mode ≡ 2 → codes_after t before xs ≡ difference_codes t.width before xs
  unfolding codes_after
  codes_by_difference e = rw (eq-eqb t.mode 2 e)

  pub codes_each : (t.mode ≡ 2 → ⊥) → codes_after t before xs ≡ map (code_at t) xs
  unfolding codes_after
  codes_each n = rw (ne_eqb t.mode 2 n)

  pub patterns_by_sum : t.mode ≡ 2 → patterns_after t before xs ≡ running_sums t.width before xs
  unfolding patterns_after
  patterns_by_sum e = rw (eq-eqb t.mode 2 e)

  pub patterns_each : (t.mode ≡ 2 → ⊥) → patterns_after t before xs ≡ map (pattern_at t) xs
  unfolding patterns_after
  patterns_each n = rw (ne_eqb t.mode 2 n)

  -- ---- the length, and the append of patterns with its carry

  pub length_codes_after : length (codes_after t before xs) ≡ length xs
  unfolding codes_after
  length_codes_after = go (eqb t.mode 2)
    where
      go : (b : Bool) → length (cond b (difference_codes t.width before xs) (map (code_at t) xs)) ≡ length xs
      go true = as_many_differences t.width before xs
      go false = length-map xs (code_at t)

  pub length_patterns : length (patterns_after t before xs) ≡ length xs
  unfolding patterns_after
  length_patterns = go (eqb t.mode 2)
    where
      go : (b : Bool) → length (cond b (running_sums t.width before xs) (map (pattern_at t) xs)) ≡ length xs
      go true = as_many_sums t.width before xs
      go false = length-map xs (pattern_at t)

  pub patterns_append : (ys : List ℕ) → patterns_after t before (xs ++ ys) ≡ patterns_after t before xs ++ patterns_after t (last_of before (patterns_after t before xs)) ys
  unfolding patterns_after
  patterns_append ys = go (eqb t.mode 2)
    where
      go : (b : Bool) → cond b (running_sums t.width before (xs ++ ys)) (map (pattern_at t) (xs ++ ys))
          ≡ cond b (running_sums t.width before xs) (map (pattern_at t) xs)
          ++ cond b (running_sums t.width (last_of before (cond b (running_sums t.width before xs) (map (pattern_at t) xs))) ys) (map (pattern_at t) ys)
      go true = sums_of_an_append t.width before xs ys
      go false = map-append (pattern_at t) xs ys

-- a mode that does not look at the pattern before
pub any_before : (t : Setting) (a b : ℕ) (cs : List ℕ) → (t.mode ≡ 2 → ⊥) → patterns_after t a cs ≡ patterns_after t b cs
any_before t a b cs n = patterns_each t a cs n ∙ sym (patterns_each t b cs n)

-- ---- the bound

either_under : (b : Bool) (x y N : ℕ) → x < N → y < N → cond b x y < N
either_under true x y N h l = h
either_under false x y N h l = l

module _ (t : Setting) (format : Format t.width (fraction_bits t.width)) where
  abbrev W : ℕ
  W = t.width

  some : 0 < W
  some = omega (arith, format.room)

  pub bin_in : clipped t ≤ last_bin W (fraction_bits W)
  unfolding clipped
  bin_in = min-le_right t.bin (last_bin W (fraction_bits W))

  code_under : (p : ℕ) → p < 2 ^ W → code_at t p < 2 ^ W
  unfolding code_at
  code_under p h =
      either_under (eqb t.mode 0) _ _ (2 ^ W) (lossless_code_has_W_bits W (fraction_bits W) format p h)
      (tolerance_code_has_W_bits W (fraction_bits W) format (clipped t) bin_in t.halves p h)

  pattern_under : (c : ℕ) → c < 2 ^ W → pattern_at t c < 2 ^ W
  unfolding pattern_at
  pattern_under c h =
      either_under (eqb t.mode 0) _ _ (2 ^ W) (lossless_pattern_has_W_bits W (fraction_bits W) format c h)
      (tolerance_pattern_has_W_bits W (fraction_bits W) format (clipped t) bin_in c)

  pub codes_under : (before : ℕ) (vs : List ℕ) → Below (2 ^ W) vs → Below (2 ^ W) (codes_after t before vs)
  unfolding codes_after
  codes_under before vs below = go (eqb t.mode 2)
    where
      go : (b : Bool) → Below (2 ^ W) (cond b (difference_codes W before vs) (map (code_at t) vs))
      go true = difference_codes_have_W_bits W some before vs
      go false = map_below (code_at t) (2 ^ W) (2 ^ W) (pow_pos W) code_under vs below

  pub patterns_under : (before : ℕ) (cs : List ℕ) → Below (2 ^ W) cs → Below (2 ^ W) (patterns_after t before cs)
  unfolding patterns_after
  patterns_under before cs below = go (eqb t.mode 2)
    where
      go : (b : Bool) → Below (2 ^ W) (cond b (running_sums W before cs) (map (pattern_at t) cs))
      go true = running_sums_have_W_bits W some before cs
      go false = map_below (pattern_at t) (2 ^ W) (2 ^ W) (pow_pos W) pattern_under cs below

  -- ---- the code 0 of the modes 0 and 1

  pattern_zero : pattern_at t 0 ≡ 0
  unfolding pattern_at
  pattern_zero = go (eqb t.mode 0) (lossless_zero W (fraction_bits W) format) (tolerance_zero W (fraction_bits W) format (clipped t) bin_in)
    where
      go : (b : Bool) {x y : ℕ} → x ≡ 0 → y ≡ 0 → cond b x y ≡ 0
      go true h l = h
      go false h l = l

  pub patterns_zero : (n : ℕ) → map (pattern_at t) (replicate n 0) ≡ replicate n 0
  patterns_zero zero = refl
  patterns_zero (suc n) = ap₂ (λ (x : ℕ) (r : List ℕ). x ∷ r) pattern_zero (patterns_zero n)
