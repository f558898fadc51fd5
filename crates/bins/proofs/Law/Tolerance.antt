-- The laws of the tolerance code, once over the fraction bits m and the bin j (E is 2 ^ j units), and over W where the sign comes in.
use Rattle.std.proofs.Common.{◌≡◌, ℕ, suc, ◌+◌, ◌-◌, ◌*◌, ◌/◌, ◌%◌, ◌^◌, ◌<◌, ◌≤◌, min, Bool, true, false, cond, eqb, ◌⊎◌, sym, ap, ◌∙◌, ap₂, inl, inr, le_trans, le_of_eq, lt_of_lt_of_le, le_of_suc-le-suc, add-zero, le_of_lt, mul-le-mul_right, mod-lt, mod-eq_of_lt, mul_assoc, suc-mul, mul_comm, div-lt_iff_lt-mul, add-mul, mul-le-mul, add_comm, le_antisymm, mul-lt-mul_of_pos_right, one-mul, div-add-mod', le-div_iff_mul-le, zero-mul, mul-one, div-mul-le_self, mul-div_cancel, mul_left_comm, arith, pow_pos, pow_mono, pow-add, le-ltb, lt-ltb}
use native.Mathlib.Nat.{mod-add-div', two-pow-succ, div-eq_of_lt}
use lib.Arith.{digits_div, digits_mod}
use lib.Ieee.{size}
use lib.Ieee.Digits.{size-lt, size_reaches, size-le}
use Rattle.bins.specs.Tolerance.{significand, magnitude, ordinal_of, threshold, threshold_ordinal, near, magnitude_code, restored_ordinal, ordinal, sign, tolerance_code, tolerance_restored, largest_u, last_bin}
use Rattle.bins.proofs.Law.Number.{le_or_lt, quotient_zero, quotient_some, twice_half}
use Rattle.bins.proofs.Law.Nearest.{nearest_close, nearest_most, nearest_exact}

-- a number that reaches 2 ^ k has more than k digits
pub size_from : (x k : ℕ) → 2 ^ k ≤ x → k < size x
size_from x k h = go (le_or_lt (size x) k)
  where
    go : (size x ≤ k) ⊎ (k < size x) → k < size x
    go (inl l) = let e : x < 2 ^ k = lt_of_lt_of_le (size-lt x) (pow_mono l) in omega arith
    go (inr l) = l

module _ (m : ℕ) where
  -- ---- the significand

  pub significand_plain : (o : ℕ) → o < 2 ^ m → significand m o ≡ o
  unfolding significand
  significand_plain o h = rw (quotient_zero o (2 ^ m) h) (mod-eq_of_lt h)

  pub significand_led : (o : ℕ) → 2 ^ m ≤ o → significand m o ≡ 2 ^ m + o % 2 ^ m
  unfolding significand
  significand_led o h = rw (quotient_some o (2 ^ m) (pow_pos m) h)

  significand_below : (o : ℕ) → significand m o < 2 ^ m + 2 ^ m
  significand_below o = go (le_or_lt (2 ^ m) o)
    where
      go : (2 ^ m ≤ o) ⊎ (o < 2 ^ m) → significand m o < 2 ^ m + 2 ^ m
      go (inl h) = let l : o % 2 ^ m < 2 ^ m = mod-lt o (pow_pos m) in rw (significand_led o h) (omega arith)
      go (inr h) = rw (significand_plain o h) (omega arith)

  -- ---- the test by ordinals is the test by magnitudes

  -- a significand with its doubled bound, at the exponent x + 1
  doubled : (x : ℕ) → (2 ^ m + 2 ^ m) * 2 ^ x ≡ 2 ^ suc x * 2 ^ m
  doubled x = add-mul (2 ^ m) (2 ^ m) (2 ^ x) ∙ (let e : 2 ^ m * 2 ^ x + 2 ^ m * 2 ^ x ≡ 2 ^ x * 2 ^ m + 2 ^ x * 2 ^ m = ap₂ ◌+◌ (mul_comm (2 ^ m) (2 ^ x)) (mul_comm (2 ^ m) (2 ^ x)) in e) ∙ sym (ap (λ (n : ℕ). n * 2 ^ m) (two-pow-succ x) ∙ add-mul (2 ^ x) (2 ^ x) (2 ^ m))

  pub exponent_some : (o : ℕ) → 2 ^ m ≤ o → 1 ≤ o / 2 ^ m
  exponent_some o h = (le-div_iff_mul-le (pow_pos m)).1 (omega (arith, one-mul (2 ^ m)))

  pub below_threshold : (j o : ℕ) → o < threshold_ordinal m j → magnitude m o < threshold m j
  unfolding threshold_ordinal threshold magnitude
  below_threshold j o h = go (le_or_lt (2 ^ m) o)
    where
      exponent : o / 2 ^ m < suc j
      exponent = (div-lt_iff_lt-mul (pow_pos m)).1 h

      go : (2 ^ m ≤ o) ⊎ (o < 2 ^ m) → significand m o * 2 ^ (o / 2 ^ m - 1) < 2 ^ j * 2 ^ m
      go (inr l) =
          rw (significand_plain o l, div-eq_of_lt l)
          (lt_of_lt_of_le (let e : o * 2 ^ 0 ≡ o = mul-one o in let q : o * 2 ^ 0 < 1 * 2 ^ m = omega (arith, one-mul (2 ^ m)) in q) (mul-le-mul_right (2 ^ m) (pow_pos j)))
      go (inl l) =
          let x = o / 2 ^ m - 1 in
          let some : 1 ≤ o / 2 ^ m = exponent_some o l in
          lt_of_lt_of_le (mul-lt-mul_of_pos_right (significand_below o) (pow_pos x))
          (le_trans (le_of_eq (doubled x)) (mul-le-mul_right (2 ^ m) (pow_mono (let q : suc x ≤ j = omega (arith, exponent) in q))))

  pub from_threshold : (j o : ℕ) → threshold_ordinal m j ≤ o → threshold m j ≤ magnitude m o
  unfolding threshold_ordinal threshold magnitude
  from_threshold j o h =
      let exponent : suc j ≤ o / 2 ^ m = (le-div_iff_mul-le (pow_pos m)).1 h in
      let led : 2 ^ m ≤ o = le_trans (le_trans (le_of_eq (sym (one-mul (2 ^ m)))) (mul-le-mul_right (2 ^ m) (let q : 1 ≤ suc j = omega arith in q))) h in
      le_trans (le_of_eq (mul_comm (2 ^ j) (2 ^ m)))
      (rw (significand_led o led) (mul-le-mul (let q : 2 ^ m ≤ 2 ^ m + o % 2 ^ m = omega arith in q) (pow_mono (let q : j ≤ o / 2 ^ m - 1 = omega arith in q))))

  -- ---- a larger ordinal has a larger magnitude

  same_exponent : (o p : ℕ) → o / 2 ^ m ≡ p / 2 ^ m → o < p → magnitude m o < magnitude m p
  unfolding magnitude significand
  same_exponent o p e h =
      rw e
      (mul-lt-mul_of_pos_right
      (go (eqb (p / 2 ^ m) 0) (omega (arith, div-add-mod' o (2 ^ m), div-add-mod' p (2 ^ m), ap (λ (n : ℕ). n * 2 ^ m) e)))
      (pow_pos (p / 2 ^ m - 1)))
    where
      go : (b : Bool) → o % 2 ^ m < p % 2 ^ m → cond b (o % 2 ^ m) (2 ^ m + o % 2 ^ m) < cond b (p % 2 ^ m) (2 ^ m + p % 2 ^ m)
      go true l = l
      go false l = omega arith

  pub magnitude_mono : (o p : ℕ) → o < p → magnitude m o < magnitude m p
  unfolding threshold_ordinal
  magnitude_mono o p h = go (le_or_lt (p / 2 ^ m) (o / 2 ^ m))
    where
      go : (p / 2 ^ m ≤ o / 2 ^ m) ⊎ (o / 2 ^ m < p / 2 ^ m) → magnitude m o < magnitude m p
      go (inl l) = same_exponent o p (le_antisymm ((le-div_iff_mul-le (pow_pos m)).1 (le_trans (div-mul-le_self o (2 ^ m)) (le_of_lt h))) l) h
      go (inr l) =
          let j = p / 2 ^ m - 1 in
          lt_of_lt_of_le (below_threshold j o ((div-lt_iff_lt-mul (pow_pos m)).0 (let e : o / 2 ^ m < suc j = omega arith in e)))
          (from_threshold j p ((le-div_iff_mul-le (pow_pos m)).0 (let e : suc j ≤ p / 2 ^ m = omega arith in e)))

  pub magnitude_le : (o p : ℕ) → o ≤ p → magnitude m o ≤ magnitude m p
  magnitude_le o p h = go (le_or_lt p o)
    where
      go : (p ≤ o) ⊎ (o < p) → magnitude m o ≤ magnitude m p
      go (inl l) = le_of_eq (ap (magnitude m) (let e : o ≡ p = omega arith in e))
      go (inr l) = le_of_lt (magnitude_mono o p l)

  -- ---- rounding, by either rule

  -- twice the distance between a magnitude x and `near` bins is at most one bin
  pub near_close : (rule j x : ℕ) → (2 * x ≤ 2 * (near rule j x * 2 ^ j) + 2 ^ j) × (2 * (near rule j x * 2 ^ j) ≤ 2 * x + 2 ^ j)
  unfolding near
  near_close rule j x = nearest_close rule x (2 ^ j) (pow_pos j)

  -- below the threshold no code passes 2 ^ m
  pub near_bound : (rule j x : ℕ) → x < threshold m j → near rule j x ≤ 2 ^ m
  unfolding near threshold
  near_bound rule j x h =
      le_trans (nearest_most rule x (2 ^ j) (pow_pos j))
      (le_of_suc-le-suc
      ((div-lt_iff_lt-mul (let e : 0 < 2 * 2 ^ j = omega (arith, pow_pos j) in e)).1
      (omega (arith, pow_pos j, suc-mul (2 ^ m) (2 * 2 ^ j), mul_left_comm (2 ^ m) 2 (2 ^ j), mul_comm (2 ^ j) (2 ^ m)))))

  -- u bins round to u
  pub near_exact : (rule j u : ℕ) → near rule j (u * 2 ^ j) ≡ u
  unfolding near
  near_exact rule j u = nearest_exact rule (2 ^ j) u (pow_pos j)

  -- ---- from a magnitude to its ordinal

  pub magnitude_plain : (q : ℕ) → q < 2 ^ m → magnitude m q ≡ q
  unfolding magnitude
  magnitude_plain q h = rw (significand_plain q h, div-eq_of_lt h) (mul-one q)

  magnitude_led : (d r : ℕ) → r < 2 ^ m → magnitude m (suc d * 2 ^ m + r) ≡ (2 ^ m + r) * 2 ^ d
  unfolding magnitude
  magnitude_led d r h =
      rw (significand_led (suc d * 2 ^ m + r) (omega (arith, suc-mul d (2 ^ m))), digits_mod (suc d) h, digits_div (suc d) h)
      (ap (λ (n : ℕ). (2 ^ m + r) * 2 ^ n) (let e : suc d - 1 ≡ d = omega arith in e))

  -- the magnitude of the ordinal d * 2 ^ m + q: q with d places behind it
  pub magnitude_at : (d q : ℕ) → q < 2 ^ m + 2 ^ m → (d ≡ 0) ⊎ (2 ^ m ≤ q) → magnitude m (d * 2 ^ m + q) ≡ q * 2 ^ d
  magnitude_at d q h w = go (le_or_lt (2 ^ m) q) w
    where
      led : 2 ^ m ≤ q → magnitude m (d * 2 ^ m + q) ≡ q * 2 ^ d
      led g =
          ap (magnitude m) (let e : d * 2 ^ m + q ≡ suc d * 2 ^ m + (q - 2 ^ m) = omega (arith, suc-mul d (2 ^ m)) in e)
          ∙ magnitude_led d (q - 2 ^ m) (omega arith)
          ∙ ap (λ (n : ℕ). n * 2 ^ d) (let e : 2 ^ m + (q - 2 ^ m) ≡ q = omega arith in e)

      go : (2 ^ m ≤ q) ⊎ (q < 2 ^ m) → (d ≡ 0) ⊎ (2 ^ m ≤ q) → magnitude m (d * 2 ^ m + q) ≡ q * 2 ^ d
      go (inl g) v = led g
      go (inr g) (inl z) =
          rw z (ap (magnitude m) (let e : 0 * 2 ^ m + q ≡ q = omega (arith, zero-mul (2 ^ m)) in e) ∙ magnitude_plain q g ∙ sym (mul-one q))
      go (inr g) (inr f) = led f

  -- ---- u bins as an ordinal: u is moved up by j places, as far as the significand has room, and what is left goes to the exponent

  abbrev pub shift_of : ℕ → ℕ → ℕ
  shift_of u j = min j (suc m - size u)

  -- q = u * 2 ^ sh stays within the significand's m + 1 places
  module _ (u j : ℕ) (some : 0 < u) (fits : u < 2 ^ suc m) where
    len_some : 0 < size u
    len_some = size_from u 0 some

    len_small : size u ≤ suc m
    len_small = size-le u (suc m) fits

    pub shifted_below : u * 2 ^ shift_of u j < 2 ^ suc m
    shifted_below =
        lt_of_lt_of_le (mul-lt-mul_of_pos_right (size-lt u) (pow_pos (shift_of u j)))
        (le_trans (le_of_eq (sym (pow-add 2 (size u) (shift_of u j)))) (pow_mono (omega (arith, len_small))))

    shifted_full : shift_of u j < j → 2 ^ m ≤ u * 2 ^ shift_of u j
    shifted_full h =
        le_trans (le_trans (pow_mono (let e : m ≤ size u - 1 + shift_of u j = omega (arith, len_some, len_small) in e)) (le_of_eq (pow-add 2 (size u - 1) (shift_of u j))))
        (mul-le-mul_right (2 ^ shift_of u j) (size_reaches u (size u - 1) (omega (arith, len_some))))

    together : u * 2 ^ shift_of u j * 2 ^ (j - shift_of u j) ≡ u * 2 ^ j
    together =
        mul_assoc u (2 ^ shift_of u j) (2 ^ (j - shift_of u j))
        ∙ ap (λ (n : ℕ). u * n) (sym (pow-add 2 (shift_of u j) (j - shift_of u j)) ∙ ap (λ (n : ℕ). 2 ^ n) (let e : shift_of u j + (j - shift_of u j) ≡ j = omega arith in e))

    pub size_together : size (u * 2 ^ j) ≡ size u + j
    size_together = le_antisymm
        (size-le (u * 2 ^ j) (size u + j) (lt_of_lt_of_le (mul-lt-mul_of_pos_right (size-lt u) (pow_pos j)) (le_of_eq (sym (pow-add 2 (size u) j)))))
        (le_trans (let e : size u + j ≤ suc (size u - 1 + j) = omega (arith, len_some) in e)
        (size_from (u * 2 ^ j) (size u - 1 + j)
        (le_trans (le_of_eq (pow-add 2 (size u - 1) j)) (mul-le-mul_right (2 ^ j) (size_reaches u (size u - 1) (omega (arith, len_some)))))))

    pub ordinal_shifted : ordinal_of m (u * 2 ^ j) ≡ (j - shift_of u j) * 2 ^ m + u * 2 ^ shift_of u j
    unfolding ordinal_of
    ordinal_shifted =
        let d : size (u * 2 ^ j) - suc m ≡ j - shift_of u j = omega (arith, size_together, len_small) in
        ap (λ (n : ℕ). n * 2 ^ m + u * 2 ^ j / 2 ^ n) d
        ∙ ap (λ (n : ℕ). (j - shift_of u j) * 2 ^ m + n)
        (ap (λ (n : ℕ). n / 2 ^ (j - shift_of u j)) (sym together) ∙ mul-div_cancel (u * 2 ^ shift_of u j) (pow_pos (j - shift_of u j)))

    pub magnitude_shifted : magnitude m ((j - shift_of u j) * 2 ^ m + u * 2 ^ shift_of u j) ≡ u * 2 ^ j
    magnitude_shifted =
        magnitude_at (j - shift_of u j) (u * 2 ^ shift_of u j) (omega (arith, shifted_below, two-pow-succ m)) (go (le_or_lt j (shift_of u j))) ∙ together
      where
        go : (j ≤ shift_of u j) ⊎ (shift_of u j < j) → (j - shift_of u j ≡ 0) ⊎ (2 ^ m ≤ u * 2 ^ shift_of u j)
        go (inl h) = inl (omega arith)
        go (inr h) = inr (shifted_full h)

  -- ---- the code and what it restores, as ordinals

  pub code_below : (rule j o : ℕ) → magnitude m o < threshold m j → magnitude_code m rule j o ≡ near rule j (magnitude m o)
  unfolding magnitude_code
  code_below rule j o h = rw (lt-ltb (magnitude m o) (threshold m j) h)

  pub code_from : (rule j o : ℕ) → threshold m j ≤ magnitude m o → magnitude_code m rule j o ≡ o - threshold_ordinal m j + 2 ^ m
  unfolding magnitude_code
  code_from rule j o h = rw (le-ltb (magnitude m o) (threshold m j) h)

  pub restored_bins : (j u : ℕ) → u < 2 ^ m → restored_ordinal m j u ≡ ordinal_of m (u * 2 ^ j)
  unfolding restored_ordinal
  restored_bins j u h = rw (lt-ltb u (2 ^ m) h)

  pub restored_above : (j u : ℕ) → 2 ^ m ≤ u → restored_ordinal m j u ≡ u - 2 ^ m + threshold_ordinal m j
  unfolding restored_ordinal
  restored_above j u h = rw (le-ltb u (2 ^ m) h)

  pub ordinal_zero : (j : ℕ) → ordinal_of m (0 * 2 ^ j) ≡ 0
  unfolding ordinal_of
  ordinal_zero j =
      rw (zero-mul (2 ^ j)) (let e : size 0 - suc m ≡ 0 = omega (arith, size-le 0 0 (pow_pos 0)) in rw e (add-zero (0 * 2 ^ m) ∙ zero-mul (2 ^ m)))

  -- the ordinal of u with j places behind it is small, and has that magnitude
  pub magnitude_back : (u j : ℕ) → u < 2 ^ suc m → magnitude m (ordinal_of m (u * 2 ^ j)) ≡ u * 2 ^ j
  magnitude_back u j fits = go (le_or_lt u 0)
    where
      go : (u ≤ 0) ⊎ (0 < u) → magnitude m (ordinal_of m (u * 2 ^ j)) ≡ u * 2 ^ j
      go (inl z) =
          let e : u ≡ 0 = omega arith in
          rw e (ap (magnitude m) (ordinal_zero j) ∙ magnitude_plain 0 (pow_pos m) ∙ sym (zero-mul (2 ^ j)))
      go (inr z) = ap (magnitude m) (ordinal_shifted u j z fits) ∙ magnitude_shifted u j z fits

  -- the magnitude restored is u bins, up to 2 ^ m of them
  pub restored_magnitude : (j u : ℕ) → u ≤ 2 ^ m → magnitude m (restored_ordinal m j u) ≡ u * 2 ^ j
  unfolding threshold_ordinal
  restored_magnitude j u h = go (le_or_lt (2 ^ m) u) (le_or_lt u 0)
    where
      go : (2 ^ m ≤ u) ⊎ (u < 2 ^ m) → (u ≤ 0) ⊎ (0 < u) → magnitude m (restored_ordinal m j u) ≡ u * 2 ^ j
      go (inl g) w =
          ap (magnitude m) (restored_above j u g ∙ (let e : u - 2 ^ m + suc j * 2 ^ m ≡ j * 2 ^ m + u = omega (arith, suc-mul j (2 ^ m)) in e))
          ∙ magnitude_at j u (omega (arith, pow_pos m)) (inr g)
      go (inr g) (inl z) =
          let e : u ≡ 0 = omega arith in
          ap (magnitude m) (restored_bins j u g) ∙ rw e (ap (magnitude m) (ordinal_zero j) ∙ magnitude_plain 0 (pow_pos m) ∙ sym (zero-mul (2 ^ j)))
      go (inr g) (inr z) =
          let fits : u < 2 ^ suc m = omega (arith, two-pow-succ m) in
          ap (magnitude m) (restored_bins j u g ∙ ordinal_shifted u j z fits) ∙ magnitude_shifted u j z fits

  -- an ordinal's side of the threshold, from its magnitude's
  pub ordinal_from : (j o : ℕ) → threshold m j ≤ magnitude m o → threshold_ordinal m j ≤ o
  ordinal_from j o h = go (le_or_lt (threshold_ordinal m j) o)
    where
      go : (threshold_ordinal m j ≤ o) ⊎ (o < threshold_ordinal m j) → threshold_ordinal m j ≤ o
      go (inl l) = l
      go (inr l) = let e = below_threshold j o l in omega arith

  pub ordinal_below : (j o : ℕ) → magnitude m o < threshold m j → o < threshold_ordinal m j
  ordinal_below j o h = go (le_or_lt (threshold_ordinal m j) o)
    where
      go : (threshold_ordinal m j ≤ o) ⊎ (o < threshold_ordinal m j) → o < threshold_ordinal m j
      go (inl l) = let e = from_threshold j o l in omega arith
      go (inr l) = l

  pub ordinal_most : (u j : ℕ) → u < 2 ^ suc m → ordinal_of m (u * 2 ^ j) < suc (suc j) * 2 ^ m
  unfolding threshold threshold_ordinal
  ordinal_most u j fits =
      ordinal_below (suc j) (ordinal_of m (u * 2 ^ j))
      (rw (magnitude_back u j fits)
      (lt_of_lt_of_le (mul-lt-mul_of_pos_right fits (pow_pos j))
      (le_of_eq (sym (pow-add 2 (suc m) j) ∙ ap (λ (n : ℕ). 2 ^ n) (let e : suc m + j ≡ suc j + m = omega arith in e) ∙ pow-add 2 (suc j) m))))

  -- below the threshold: twice the distance is at most one bin
  pub returns_close : (rule j o : ℕ) → magnitude m o < threshold m j
      → (2 * magnitude m o ≤ 2 * magnitude m (restored_ordinal m j (magnitude_code m rule j o)) + 2 ^ j)
      × (2 * magnitude m (restored_ordinal m j (magnitude_code m rule j o)) ≤ 2 * magnitude m o + 2 ^ j)
  returns_close rule j o h =
      rw (code_below rule j o h, restored_magnitude j (near rule j (magnitude m o)) (near_bound rule j (magnitude m o) h)) (near_close rule j (magnitude m o))

  -- from the threshold on: the ordinal itself
  pub returns_exact : (rule j o : ℕ) → threshold m j ≤ magnitude m o → restored_ordinal m j (magnitude_code m rule j o) ≡ o
  returns_exact rule j o h =
      let l : threshold_ordinal m j ≤ o = ordinal_from j o h in
      ap (restored_ordinal m j) (code_from rule j o h)
      ∙ restored_above j (o - threshold_ordinal m j + 2 ^ m) (omega arith)
      ∙ (let e : o - threshold_ordinal m j + 2 ^ m - 2 ^ m + threshold_ordinal m j ≡ o = omega arith in e)

  bins_under : (j u : ℕ) → u < 2 ^ m → magnitude m (restored_ordinal m j u) < threshold m j
  unfolding threshold
  bins_under j u h = rw (restored_magnitude j u (le_of_lt h), mul_comm (2 ^ j) (2 ^ m)) (mul-lt-mul_of_pos_right h (pow_pos j))

  pub restored_under : (j u : ℕ) → u < 2 ^ m → restored_ordinal m j u < threshold_ordinal m j
  restored_under j u h = ordinal_below j (restored_ordinal m j u) (bins_under j u h)

  -- every u is the magnitude code of what it restores
  pub code_restored : (rule j u : ℕ) → magnitude_code m rule j (restored_ordinal m j u) ≡ u
  code_restored rule j u = go (le_or_lt (2 ^ m) u)
    where
      go : (2 ^ m ≤ u) ⊎ (u < 2 ^ m) → magnitude_code m rule j (restored_ordinal m j u) ≡ u
      go (inl g) =
          let o = u - 2 ^ m + threshold_ordinal m j in
          ap (magnitude_code m rule j) (restored_above j u g)
          ∙ code_from rule j o (from_threshold j o (omega arith))
          ∙ (let e : o - threshold_ordinal m j + 2 ^ m ≡ u = omega arith in e)
      go (inr g) = code_below rule j (restored_ordinal m j u) (bins_under j u g) ∙ ap (near rule j) (restored_magnitude j u (le_of_lt g)) ∙ near_exact rule j u

module _ (W m : ℕ) (room : m + 3 ≤ W) (j : ℕ) (allowed : j ≤ last_bin W m) where
  -- between the ordinal of T and the end of the ordinals there is room for two exponents: the largest, and that of infinity
  pub threshold_room : threshold_ordinal m j + 2 ^ m + 2 ^ m ≤ 2 ^ (W - 1)
  unfolding threshold_ordinal last_bin
  threshold_room =
      let e : 2 ^ (W - 1) ≡ 2 ^ (W - 1 - m) * 2 ^ m = ap (λ (n : ℕ). 2 ^ n) (let q : W - 1 ≡ W - 1 - m + m = omega arith in q) ∙ pow-add 2 (W - 1 - m) m in
      let some : 2 ^ 2 ≤ 2 ^ (W - 1 - m) = pow_mono (let q : 2 ≤ W - 1 - m = omega arith in q) in
      let l : (suc j + 2) * 2 ^ m ≤ 2 ^ (W - 1 - m) * 2 ^ m = mul-le-mul_right (2 ^ m) (omega arith) in
      omega (arith, add-mul (suc j) 2 (2 ^ m))

  pub next_bin : threshold_ordinal m j ≡ j * 2 ^ m + 2 ^ m
  unfolding threshold_ordinal
  next_bin = suc-mul j (2 ^ m)

  -- the exponent of the infinities and the not-a-numbers lies above T's
  pub special_above : (o : ℕ) → (2 ^ (W - 1 - m) - 1) * 2 ^ m ≤ o → threshold m j ≤ magnitude m o
  unfolding last_bin threshold_ordinal
  special_above o h =
      let some : 2 ^ 2 ≤ 2 ^ (W - 1 - m) = pow_mono (let q : 2 ≤ W - 1 - m = omega arith in q) in
      from_threshold m j o (le_trans (mul-le-mul_right (2 ^ m) (let q : suc j ≤ 2 ^ (W - 1 - m) - 1 = omega arith in q)) h)

  -- "The largest u": no pattern has a larger one
  pub code_largest : (rule o : ℕ) → o < 2 ^ (W - 1) → magnitude_code m rule j o ≤ largest_u W m j
  unfolding largest_u
  code_largest rule o h = go (le_or_lt (threshold m j) (magnitude m o))
    where
      go : (threshold m j ≤ magnitude m o) ⊎ (magnitude m o < threshold m j) → magnitude_code m rule j o ≤ 2 ^ (W - 1) - 1 - j * 2 ^ m
      go (inl l) = rw (code_from m rule j o l) (omega (arith, ordinal_from m j o l, next_bin, threshold_room))
      go (inr l) = rw (code_below m rule j o l) (omega (arith, near_bound m rule j (magnitude m o) l, next_bin, threshold_room, pow_pos m))

  -- what a u up to the largest restores is an ordinal
  pub restored_small : (u : ℕ) → u ≤ largest_u W m j → restored_ordinal m j u < 2 ^ (W - 1)
  unfolding largest_u
  restored_small u h = go (le_or_lt (2 ^ m) u)
    where
      go : (2 ^ m ≤ u) ⊎ (u < 2 ^ m) → restored_ordinal m j u < 2 ^ (W - 1)
      go (inl g) = rw (restored_above m j u g) (omega (arith, next_bin, threshold_room, pow_pos m))
      go (inr g) = lt_of_lt_of_le (restored_under m j u g) (omega (arith, threshold_room))

  -- ---- with the sign

  pub halves : 2 ^ W ≡ 2 ^ (W - 1) + 2 ^ (W - 1)
  halves = twice_half W (omega arith)

  ordinal_small : (p : ℕ) → ordinal W p < 2 ^ (W - 1)
  unfolding ordinal
  ordinal_small p = mod-lt p (pow_pos (W - 1))

  sign_small : (p : ℕ) → p < 2 ^ W → sign W p < 2
  unfolding sign
  sign_small p h = (div-lt_iff_lt-mul (pow_pos (W - 1))).1 (omega (arith, halves))

  pub code_half : (rule p : ℕ) → p < 2 ^ W → tolerance_code W m rule j p / 2 ≡ magnitude_code m rule j (ordinal W p)
  unfolding tolerance_code
  code_half rule p h = ap (λ (n : ℕ). (n + sign W p) / 2) (mul_comm 2 (magnitude_code m rule j (ordinal W p))) ∙ digits_div (magnitude_code m rule j (ordinal W p)) (sign_small p h)

  pub code_parity : (rule p : ℕ) → p < 2 ^ W → tolerance_code W m rule j p % 2 ≡ sign W p
  unfolding tolerance_code
  code_parity rule p h = ap (λ (n : ℕ). (n + sign W p) % 2) (mul_comm 2 (magnitude_code m rule j (ordinal W p))) ∙ digits_mod (magnitude_code m rule j (ordinal W p)) (sign_small p h)

  pub code_under : (rule p : ℕ) → p < 2 ^ W → tolerance_code W m rule j p < 2 ^ W
  unfolding tolerance_code largest_u
  code_under rule p h = omega (arith, halves, code_largest rule (ordinal W p) (ordinal_small p), sign_small p h, pow_pos (W - 1))

  -- a pattern put together from an ordinal and a sign
  pub joined_ordinal : (o s : ℕ) → o < 2 ^ (W - 1) → ordinal W (o + s * 2 ^ (W - 1)) ≡ o
  unfolding ordinal
  joined_ordinal o s h = ap (λ (n : ℕ). n % 2 ^ (W - 1)) (add_comm o (s * 2 ^ (W - 1))) ∙ digits_mod s h

  pub joined_sign : (o s : ℕ) → o < 2 ^ (W - 1) → sign W (o + s * 2 ^ (W - 1)) ≡ s
  unfolding sign
  joined_sign o s h = ap (λ (n : ℕ). n / 2 ^ (W - 1)) (add_comm o (s * 2 ^ (W - 1))) ∙ digits_div s h

  apart : (p : ℕ) → ordinal W p + sign W p * 2 ^ (W - 1) ≡ p
  unfolding ordinal sign
  apart p = mod-add-div' p (2 ^ (W - 1))

  -- a code whose u is at most the largest: its pattern has the ordinal restored and the code's sign
  pub restored_parts : (c : ℕ) → c / 2 ≤ largest_u W m j → tolerance_restored W m j c ≡ restored_ordinal m j (c / 2) + c % 2 * 2 ^ (W - 1)
  unfolding tolerance_restored
  restored_parts c h = ap (λ (n : ℕ). n + c % 2 * 2 ^ (W - 1)) (mod-eq_of_lt (restored_small (c / 2) h))

  pub pattern_under : (c : ℕ) → tolerance_restored W m j c < 2 ^ W
  unfolding tolerance_restored
  pattern_under c =
      let o : restored_ordinal m j (c / 2) % 2 ^ (W - 1) < 2 ^ (W - 1) = mod-lt (restored_ordinal m j (c / 2)) (pow_pos (W - 1)) in
      let s : c % 2 * 2 ^ (W - 1) ≤ 1 * 2 ^ (W - 1) = mul-le-mul_right (2 ^ (W - 1)) (omega arith) in
      omega (arith, halves, one-mul (2 ^ (W - 1)))

  -- the code 0 is that of the pattern 0
  pub restored_zero : tolerance_restored W m j 0 ≡ 0
  unfolding tolerance_restored
  restored_zero =
      rw (restored_bins m j 0 (pow_pos m), ordinal_zero m j, mod-eq_of_lt (pow_pos (W - 1))) (omega (arith, zero-mul (2 ^ (W - 1))))

  -- ---- there and back

  returned : (rule p : ℕ) → p < 2 ^ W → tolerance_restored W m j (tolerance_code W m rule j p) ≡ restored_ordinal m j (magnitude_code m rule j (ordinal W p)) + sign W p * 2 ^ (W - 1)
  returned rule p h =
      restored_parts (tolerance_code W m rule j p) (rw (code_half rule p h) (code_largest rule (ordinal W p) (ordinal_small p)))
      ∙ ap₂ (λ (u s : ℕ). restored_ordinal m j u + s * 2 ^ (W - 1)) (code_half rule p h) (code_parity rule p h)

  returned_small : (rule p : ℕ) → restored_ordinal m j (magnitude_code m rule j (ordinal W p)) < 2 ^ (W - 1)
  returned_small rule p = restored_small (magnitude_code m rule j (ordinal W p)) (code_largest rule (ordinal W p) (ordinal_small p))

  pub sign_returns : (rule p : ℕ) → p < 2 ^ W → sign W (tolerance_restored W m j (tolerance_code W m rule j p)) ≡ sign W p
  sign_returns rule p h = ap (sign W) (returned rule p h) ∙ joined_sign _ (sign W p) (returned_small rule p)

  pub ordinal_returned : (rule p : ℕ) → p < 2 ^ W → ordinal W (tolerance_restored W m j (tolerance_code W m rule j p)) ≡ restored_ordinal m j (magnitude_code m rule j (ordinal W p))
  ordinal_returned rule p h = ap (ordinal W) (returned rule p h) ∙ joined_ordinal _ (sign W p) (returned_small rule p)

  pub pattern_returns : (rule p : ℕ) → p < 2 ^ W → threshold m j ≤ magnitude m (ordinal W p) → tolerance_restored W m j (tolerance_code W m rule j p) ≡ p
  pattern_returns rule p h l = returned rule p h ∙ ap (λ (o : ℕ). o + sign W p * 2 ^ (W - 1)) (returns_exact m rule j (ordinal W p) l) ∙ apart p

  -- nothing read is lost when written again, by either rule
  pub code_returns : (rule c : ℕ) → c / 2 ≤ largest_u W m j → tolerance_code W m rule j (tolerance_restored W m j c) ≡ c
  unfolding tolerance_code
  code_returns rule c h =
      rw (restored_parts c h, joined_ordinal (restored_ordinal m j (c / 2)) (c % 2) (restored_small (c / 2) h), joined_sign (restored_ordinal m j (c / 2)) (c % 2) (restored_small (c / 2) h), code_restored m rule j (c / 2))
      (omega arith)
