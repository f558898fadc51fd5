-- The tolerance code with no branch, once over W and m: what the functions of src/whole.rt that serve both sides of T at once return.
use Rattle.std.proofs.Common.{◌≡◌, ℕ, suc, ◌+◌, ◌-◌, ◌*◌, ◌/◌, ◌%◌, ◌^◌, ◌<◌, ◌≤◌, min, ◌⊎◌, sym, ap, ◌∙◌, ap₂, inl, inr, lt_of_lt_of_le, mul-le-mul_right, mod-eq_of_lt, div-lt_iff_lt-mul, add-mul, mul-le-mul_left, one-mul, div-add-mod', zero-mul, mul-one, arith, pow_pos, pow_mono}
use native.Mathlib.Nat.{sub_self, two-pow-succ, div-eq_of_lt, add-div_right}
use lib.Count.{count_leading_zeros}
use lib.Ieee.{size}
use lib.Ieee.Digits.{size-le}
use Rattle.bins.specs.Tolerance.{magnitude, threshold_ordinal, near, magnitude_code, restored_ordinal, last_bin}
use Rattle.bins.proofs.Law.Number.{le_or_lt, fraction_only}
use Rattle.bins.proofs.Law.Tolerance.{size_from, below_threshold, from_threshold, code_below, code_from, restored_bins, restored_above, restored_under, near_exact, shift_of, shifted_below, ordinal_shifted, ordinal_zero, threshold_room, next_bin, halves}
use Rattle.bins.proofs.Law.Working.{plain_is, led_is, bins_fit, zeros_size}

-- ---- what is 1 unless a number is zero

pub some_is : (H u : ℕ) → u < H → ((u ≡ 0) × ((u + (H - 1)) / H ≡ 0)) ⊎ ((0 < u) × ((u + (H - 1)) / H ≡ 1))
some_is H u h = go (le_or_lt u 0)
  where
    go : (u ≤ 0) ⊎ (0 < u) → ((u ≡ 0) × ((u + (H - 1)) / H ≡ 0)) ⊎ ((0 < u) × ((u + (H - 1)) / H ≡ 1))
    go (inl z) = inl (omega arith, div-eq_of_lt (omega arith))
    go (inr z) =
        inr (
          z,
          ap (λ (n : ℕ). n / H) (let e : u + (H - 1) ≡ u - 1 + H = omega arith in e)
              ∙ add-div_right (u - 1) (let e : 0 < H = omega arith in e) ∙ ap (λ (n : ℕ). n + 1) (div-eq_of_lt (let e : u - 1 < H = omega arith in e)),
        )

pub some_small : {u some : ℕ} → ((u ≡ 0) × (some ≡ 0)) ⊎ ((0 < u) × (some ≡ 1)) → some ≤ 1
some_small (inl k) = omega arith
some_small (inr k) = omega arith

-- ---- the code of an ordinal

module _ (m j o : ℕ) where
  -- from T on the exponent goes past the bin's
  high_is : (rule : ℕ) → j < o / 2 ^ m → near rule (j + 1 - o / 2 ^ m) (2 ^ m + o % 2 ^ m) + (o / 2 ^ m - (j + 1)) * 2 ^ m ≡ magnitude_code m rule j o
  unfolding threshold_ordinal
  high_is rule h =
      let e = o / 2 ^ m in
      let whole : e * 2 ^ m + o % 2 ^ m ≡ o = div-add-mod' o (2 ^ m) in
      let split : e * 2 ^ m ≡ (e - (j + 1)) * 2 ^ m + suc j * 2 ^ m =
      ap (λ (n : ℕ). n * 2 ^ m) (let q : e ≡ e - (j + 1) + suc j = omega arith in q) ∙ add-mul (e - (j + 1)) (suc j) (2 ^ m) in
      let above : threshold_ordinal m j ≤ o = omega arith in
      ap₂ (λ (s n : ℕ). near rule s n + (e - (j + 1)) * 2 ^ m) (let q : j + 1 - e ≡ 0 = omega arith in q) (sym (mul-one (2 ^ m + o % 2 ^ m)))
      ∙ ap (λ (n : ℕ). n + (e - (j + 1)) * 2 ^ m) (near_exact m rule 0 (2 ^ m + o % 2 ^ m))
      ∙ (let q : 2 ^ m + o % 2 ^ m + (e - (j + 1)) * 2 ^ m ≡ o - suc j * 2 ^ m + 2 ^ m = omega arith in q)
      ∙ sym (code_from m rule j o (from_threshold m j o above))

  -- below T nothing goes past it
  low_is : (rule x q : ℕ) → x ≤ j + 1 → o < threshold_ordinal m j → near rule (j + 1 - x) q ≡ near rule j (magnitude m o)
      → near rule (j + 1 - x) q + (x - (j + 1)) * 2 ^ m ≡ magnitude_code m rule j o
  low_is rule x q h l e =
      ap₂ (λ (a b : ℕ). a + b * 2 ^ m) e (let z : x - (j + 1) ≡ 0 = omega arith in z)
      ∙ (let z : near rule j (magnitude m o) + 0 * 2 ^ m ≡ near rule j (magnitude m o) = omega (arith, zero-mul (2 ^ m)) in z)
      ∙ sym (code_below m rule j o (below_threshold m j o l))

  -- both: `some` is 1 unless the exponent is zero
  pub code_straight : (rule some : ℕ) → ((o / 2 ^ m ≡ 0) × (some ≡ 0)) ⊎ ((0 < o / 2 ^ m) × (some ≡ 1))
      → near rule (j + 1 - (o / 2 ^ m + 1 - some)) (some * 2 ^ m + o % 2 ^ m) + (o / 2 ^ m + 1 - some - (j + 1)) * 2 ^ m ≡ magnitude_code m rule j o
  unfolding threshold_ordinal
  code_straight rule some (inl k) =
      let q : some * 2 ^ m + o % 2 ^ m ≡ o % 2 ^ m = rw k.1 (omega (arith, zero-mul (2 ^ m))) in
      let x : o / 2 ^ m + 1 - some ≡ 1 = omega arith in
      let first : 1 * 2 ^ m ≤ suc j * 2 ^ m = mul-le-mul_right (2 ^ m) (omega arith) in
      ap₂ (λ (a b : ℕ). near rule (j + 1 - a) b + (a - (j + 1)) * 2 ^ m) x q
      ∙ low_is rule 1 (o % 2 ^ m) (omega arith) (omega (arith, first, fraction_only m o k.0, one-mul (2 ^ m)))
      (ap (λ (s : ℕ). near rule s (o % 2 ^ m)) (let z : j + 1 - 1 ≡ j = omega arith in z) ∙ plain_is m j o rule k.0)
  code_straight rule some (inr k) =
      let e = o / 2 ^ m in
      let q : some * 2 ^ m + o % 2 ^ m ≡ 2 ^ m + o % 2 ^ m = rw k.1 (omega (arith, one-mul (2 ^ m))) in
      let x : e + 1 - some ≡ e = omega arith in
      ap₂ (λ (a b : ℕ). near rule (j + 1 - a) b + (a - (j + 1)) * 2 ^ m) x q ∙ go (le_or_lt e j)
    where
      go : (o / 2 ^ m ≤ j) ⊎ (j < o / 2 ^ m) → near rule (j + 1 - o / 2 ^ m) (2 ^ m + o % 2 ^ m) + (o / 2 ^ m - (j + 1)) * 2 ^ m ≡ magnitude_code m rule j o
      go (inl l) =
          let under : o < threshold_ordinal m j = (div-lt_iff_lt-mul (pow_pos m)).0 (let q : o / 2 ^ m < suc j = omega arith in q) in
          low_is rule (o / 2 ^ m) (2 ^ m + o % 2 ^ m) (omega arith) under (led_is m j o rule (λ z. omega arith) under)
      go (inr l) = high_is rule l

-- ---- the ordinal that u restores

-- j goes up as far as there is room, and the rest stays
up_part : (j r : ℕ) → j - (j - r) ≡ min j r
up_part j r = omega arith

rest_part : (j r : ℕ) → j - r ≡ j - min j r
rest_part j r = omega arith

module _ (W m : ℕ) (room : m + 3 ≤ W) (u j : ℕ) (fits : u < 2 ^ (W - 1)) (allowed : j ≤ last_bin W m) where
  -- what of j the significand has no room for
  abbrev rest : ℕ
  rest = j - (count_leading_zeros W u - (W - suc m))

  in_word : u < 2 ^ W
  in_word = omega (arith, halves W m room j allowed)

  rest_is : rest ≡ j - (suc m - size u)
  rest_is =
      ap (λ (n : ℕ). j - (n - (W - suc m))) (zeros_size W u in_word)
      ∙ ap (λ (n : ℕ). j - n) (let e : W - size u - (W - suc m) ≡ suc m - size u = omega (arith, size-le u W in_word) in e)

  -- from 2 ^ m on all of j goes to the exponent
  above_is : 2 ^ m ≤ u → 1 * rest * 2 ^ m + u * 2 ^ (j - rest) % 2 ^ W ≡ restored_ordinal m j u
  above_is h =
      let all : rest ≡ j = rest_is ∙ (let e : j - (suc m - size u) ≡ j = omega (arith, size_from u m h) in e) in
      ap (λ (n : ℕ). 1 * n * 2 ^ m + u * 2 ^ (j - n) % 2 ^ W) all
      ∙ ap₂ (λ (a b : ℕ). a * 2 ^ m + u * 2 ^ b % 2 ^ W) (one-mul j) (sub_self j)
      ∙ ap (λ (n : ℕ). j * 2 ^ m + n) (ap (λ (n : ℕ). n % 2 ^ W) (mul-one u) ∙ mod-eq_of_lt in_word)
      ∙ (let e : j * 2 ^ m + u ≡ u - 2 ^ m + threshold_ordinal m j = omega (arith, next_bin W m room j allowed) in e)
      ∙ sym (restored_above m j u h)

  below_is : 0 < u → u < 2 ^ m → 1 * rest * 2 ^ m + u * 2 ^ (j - rest) % 2 ^ W ≡ restored_ordinal m j u
  below_is some h =
      let wide : u < 2 ^ suc m = omega (arith, two-pow-succ m) in
      let shift : j - rest ≡ shift_of m u j = ap (λ (n : ℕ). j - n) rest_is ∙ up_part j (suc m - size u) in
      let left : rest ≡ j - shift_of m u j = rest_is ∙ rest_part j (suc m - size u) in
      ap₂ (λ (a b : ℕ). a * 2 ^ m + u * 2 ^ b % 2 ^ W) (one-mul rest ∙ left) shift
      ∙ ap (λ (n : ℕ). (j - shift_of m u j) * 2 ^ m + n) (mod-eq_of_lt (lt_of_lt_of_le (shifted_below m u j some wide) (pow_mono (omega arith))))
      ∙ sym (restored_bins m j u h ∙ ordinal_shifted m u j some wide)

  -- both: `some` is 1 unless u is zero
  pub restored_straight : (some : ℕ) → ((u ≡ 0) × (some ≡ 0)) ⊎ ((0 < u) × (some ≡ 1))
      → some * rest * 2 ^ m + u * 2 ^ (j - rest) % 2 ^ W ≡ restored_ordinal m j u
  restored_straight some (inr k) = ap (λ (n : ℕ). n * rest * 2 ^ m + u * 2 ^ (j - rest) % 2 ^ W) k.1 ∙ go (le_or_lt (2 ^ m) u)
    where
      go : (2 ^ m ≤ u) ⊎ (u < 2 ^ m) → 1 * rest * 2 ^ m + u * 2 ^ (j - rest) % 2 ^ W ≡ restored_ordinal m j u
      go (inl h) = above_is h
      go (inr h) = below_is k.0 h
  restored_straight some (inl k) =
      ap₂ (λ (a b : ℕ). a * 2 ^ m + b % 2 ^ W) (ap (λ (n : ℕ). n * rest) k.1 ∙ zero-mul rest) (ap (λ (n : ℕ). n * 2 ^ (j - rest)) k.0 ∙ zero-mul (2 ^ (j - rest)))
      ∙ ap₂ ◌+◌ (zero-mul (2 ^ m)) (mod-eq_of_lt (pow_pos W))
      ∙ sym (ap (restored_ordinal m j) k.0 ∙ restored_bins m j 0 (pow_pos m) ∙ ordinal_zero m j)

  -- and it fits into a word
  pub restored_fits : restored_ordinal m j u < 2 ^ W
  restored_fits = go (le_or_lt (2 ^ m) u)
    where
      go : (2 ^ m ≤ u) ⊎ (u < 2 ^ m) → restored_ordinal m j u < 2 ^ W
      go (inl h) = rw (restored_above m j u h) (omega (arith, next_bin W m room j allowed, threshold_room W m room j allowed, halves W m room j allowed, fits))
      go (inr h) = omega (arith, restored_under m j u h, threshold_room W m room j allowed, halves W m room j allowed)

  -- the parts fit too
  module _ (some : ℕ) (h : some ≤ 1) where
    once : some * rest ≤ j
    once = let e : some * rest ≤ 1 * rest = mul-le-mul_right rest h in omega (arith, one-mul rest)

    pub exponent_fits : some * rest * 2 ^ m < 2 ^ W
    exponent_fits =
        let all : some * rest * 2 ^ m ≤ j * 2 ^ m = mul-le-mul_right (2 ^ m) once in
        omega (arith, bins_fit W m room j allowed, halves W m room j allowed)

    pub rest_fits : some * rest < 2 ^ W
    rest_fits =
        let whole : j * 1 ≤ j * 2 ^ m = mul-le-mul_left j (pow_pos m) in
        omega (arith, once, mul-one j, bins_fit W m room j allowed, halves W m room j allowed)

  pub shift_small : j - rest < W
  shift_small = let e : j - rest ≡ min j (suc m - size u) = ap (λ (n : ℕ). j - n) rest_is ∙ up_part j (suc m - size u) in omega arith
