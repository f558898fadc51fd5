-- Both sides of a threshold at once, by masks (a number that is 1 from it on and 0 below, times a word of ones) or by a test. Then what the code and the
-- way back are of it.
use Rattle.std.proofs.Common.{◌≡◌, ℕ, suc, ◌+◌, ◌-◌, ◌*◌, ◌/◌, ◌%◌, ◌^◌, ◌<◌, ◌≤◌, cond, ltb, ◌⊎◌, sym, ap, ◌∙◌, subst, inl, inr, mul-le-mul_right, mod-eq_of_lt, suc-mul, div-lt_iff_lt-mul, add-mul, one-mul, le-div_iff_mul-le, zero-mul, add-one, arith, pow_pos, le-ltb, lt-ltb}
use native.Mathlib.Nat.{div-eq_of_lt, div-eq_of_lt-le}
use lib.Bits.{bit_and, and_zero_r, and_mask}
use lib.Ieee.{size}
use Rattle.bins.specs.Tolerance.{last_bin, sign, ordinal, magnitude, near, ordinal_of, threshold_ordinal, restored_ordinal, tolerance_code, largest_u}
use Rattle.bins.proofs.Law.Number.{le_or_lt, wraps_minus, minus_plain}
use Rattle.bins.proofs.Law.Nearest.{nearest_none}
use Rattle.bins.proofs.Law.Tolerance.{magnitude_plain, restored_bins, restored_above, restored_small, next_bin, threshold_room, code_under, halves}
use Rattle.bins.proofs.Law.Working.{by_taken, by_left, code_bins, code_rest}

-- What two masked numbers are: nothing below t, and themselves from t on.
abbrev pub Split : ℕ → ℕ → ℕ → ℕ → ℕ → Type 0
Split x t far place y = ((x < t) × (far ≡ 0) × (place ≡ 0)) ⊎ ((t ≤ x) × (far ≡ x) × (place ≡ y))

module _ (W m L b x : ℕ) (small : x < suc L * 2 ^ m) (bin : b ≤ L) where
  abbrev a : ℕ
  a = (x / 2 ^ m + (L - b)) / suc L

  none : x < suc b * 2 ^ m → a ≡ 0
  none h = let e : x / 2 ^ m < suc b = (div-lt_iff_lt-mul (pow_pos m)).1 h in div-eq_of_lt (omega arith)

  one : suc b * 2 ^ m ≤ x → a ≡ 1
  one h =
      let e : suc b ≤ x / 2 ^ m = (le-div_iff_mul-le (pow_pos m)).1 h in
      let g : x / 2 ^ m < suc L = (div-lt_iff_lt-mul (pow_pos m)).1 small in
      div-eq_of_lt-le (suc L) (omega (arith, one-mul (suc L))) (omega (arith, add-mul 1 1 (suc L), one-mul (suc L)))

  pub split : (y : ℕ) → x < 2 ^ W → y < 2 ^ W → Split x (threshold_ordinal m b) (bit_and x (a * (2 ^ W - 1))) (bit_and y (a * (2 ^ W - 1))) y
  unfolding threshold_ordinal
  split y X Y = go (le_or_lt (suc b * 2 ^ m) x)
    where
      kept : (n z : ℕ) → n ≡ 1 → z < 2 ^ W → bit_and z (n * (2 ^ W - 1)) ≡ z
      kept n z e l = ap (bit_and z) (ap (λ (k : ℕ). k * (2 ^ W - 1)) e ∙ one-mul (2 ^ W - 1)) ∙ and_mask z W ∙ mod-eq_of_lt l

      gone : (n z : ℕ) → n ≡ 0 → bit_and z (n * (2 ^ W - 1)) ≡ 0
      gone n z e = ap (bit_and z) (ap (λ (k : ℕ). k * (2 ^ W - 1)) e ∙ zero-mul (2 ^ W - 1)) ∙ and_zero_r z

      go : (suc b * 2 ^ m ≤ x) ⊎ (x < suc b * 2 ^ m) → Split x (suc b * 2 ^ m) (bit_and x (a * (2 ^ W - 1))) (bit_and y (a * (2 ^ W - 1))) y
      go (inl h) = inr (h, kept a x (one h) X, kept a y (one h) Y)
      go (inr h) = inl (h, gone a x (none h), gone a y (none h))

-- a mask by the highest bit of a sum is one word
pub mask_fits : (W m j o : ℕ) → o < 2 ^ (W - 1) → (o + (2 ^ (W - 1) - (j + 1) * 2 ^ m)) / 2 ^ (W - 1) * (2 ^ W - 1) < 2 ^ W
mask_fits W m j o small =
    let over = (o + (2 ^ (W - 1) - (j + 1) * 2 ^ m)) / 2 ^ (W - 1) in
    let two : over < 2 = (div-lt_iff_lt-mul (pow_pos (W - 1))).1 (omega (arith, small)) in
    let most : over * (2 ^ W - 1) ≤ 1 * (2 ^ W - 1) = mul-le-mul_right (2 ^ W - 1) (omega (arith, two)) in
    omega (arith, most, one-mul (2 ^ W - 1), pow_pos W)

-- What the two parts of an ordinal o are: below t itself and nothing, and from t on nothing and how far it is past the place P.
abbrev pub Sides : ℕ → ℕ → ℕ → ℕ → ℕ → Type 0
Sides o t P low rest = ((o < t) × (low ≡ o) × (rest ≡ 0)) ⊎ ((t ≤ o) × (low ≡ 0) × (rest ≡ o - P))

module _ (W m j o : ℕ) (room : suc j * 2 ^ m ≤ 2 ^ (W - 1)) (in_word : o < 2 ^ W) (w : ℕ) (wraps : (w + j * 2 ^ m) % 2 ^ W ≡ o) (fits : w < 2 ^ W) where
  -- the difference that wraps around, where it does not
  difference : threshold_ordinal m j ≤ o → w ≡ o - j * 2 ^ m
  unfolding threshold_ordinal
  difference h =
      let past : j * 2 ^ m ≤ o = omega (arith, h, suc-mul j (2 ^ m)) in
      wraps_minus (2 ^ W) o (j * 2 ^ m) w fits (omega (arith, past, in_word)) wraps ∙ minus_plain (2 ^ W) o (j * 2 ^ m) past in_word

  -- by a test
  pub sides_by_test : (t low rest : ℕ) → t ≡ (j + 1) * 2 ^ m → low ≡ cond (ltb o t) o 0 → rest ≡ cond (ltb o t) 0 w → Sides o (threshold_ordinal m j) (j * 2 ^ m) low rest
  sides_by_test t low rest e f g = go (le_or_lt t o)
    where
      go : (t ≤ o) ⊎ (o < t) → Sides o (threshold_ordinal m j) (j * 2 ^ m) low rest
      go (inl h) = let from = by_left m j o (omega (arith, e)) in inr (from, f ∙ rw (le-ltb o t h), (g ∙ rw (le-ltb o t h)) ∙ difference from)
      go (inr h) = inl (by_taken m j o (omega (arith, e)), f ∙ rw (lt-ltb o t h), g ∙ rw (lt-ltb o t h))

  -- by a mask: the highest bit of a sum is set from t on
  module _ (small : o < 2 ^ (W - 1)) (some : 0 < W) where
    abbrev over : ℕ
    over = (o + (2 ^ (W - 1) - (j + 1) * 2 ^ m)) / 2 ^ (W - 1)

    abbrev mask : ℕ
    mask = over * (2 ^ W - 1)

    pub sides_by_mask : Sides o (threshold_ordinal m j) (j * 2 ^ m) (o - bit_and o mask) (bit_and w mask)
    unfolding threshold_ordinal
    sides_by_mask = go (le_or_lt (suc j * 2 ^ m) o)
      where
        next : (j + 1) * 2 ^ m ≡ suc j * 2 ^ m
        next = ap (λ (n : ℕ). n * 2 ^ m) (add-one j)

        kept : (n z : ℕ) → n ≡ 1 → z < 2 ^ W → bit_and z (n * (2 ^ W - 1)) ≡ z
        kept n z e l = ap (bit_and z) (ap (λ (k : ℕ). k * (2 ^ W - 1)) e ∙ one-mul (2 ^ W - 1)) ∙ and_mask z W ∙ mod-eq_of_lt l

        gone : (n z : ℕ) → n ≡ 0 → bit_and z (n * (2 ^ W - 1)) ≡ 0
        gone n z e = ap (bit_and z) (ap (λ (k : ℕ). k * (2 ^ W - 1)) e ∙ zero-mul (2 ^ W - 1)) ∙ and_zero_r z

        go : (suc j * 2 ^ m ≤ o) ⊎ (o < suc j * 2 ^ m) → Sides o (suc j * 2 ^ m) (j * 2 ^ m) (o - bit_and o mask) (bit_and w mask)
        go (inl h) =
            let one : over ≡ 1 = div-eq_of_lt-le (2 ^ (W - 1)) (omega (arith, next, room, one-mul (2 ^ (W - 1)))) (omega (arith, next, small, add-mul 1 1 (2 ^ (W - 1)), one-mul (2 ^ (W - 1)))) in
            inr (h, (let e : o - bit_and o mask ≡ 0 = omega (arith, kept over o one in_word) in e), kept over w one fits ∙ difference h)
        go (inr h) =
            let none : over ≡ 0 = div-eq_of_lt (omega (arith, next, room)) in
            inl (h, (let e : o - bit_and o mask ≡ o = omega (arith, gone over o none) in e), gone over w none)

module _ (W m : ℕ) (room : m + 3 ≤ W) (j : ℕ) (allowed : j ≤ last_bin W m) where
  -- the code
  module _ (p low rest : ℕ) (s : Sides (ordinal W p) (threshold_ordinal m j) (j * 2 ^ m) low rest) where
    pub near_asks : low < threshold_ordinal m j
    near_asks = go s
      where
        go : Sides (ordinal W p) (threshold_ordinal m j) (j * 2 ^ m) low rest → low < threshold_ordinal m j
        go (inl h) = omega (arith, h.0, h.1)
        go (inr h) = omega (arith, h.1, next_bin W m room j allowed, pow_pos m)

    module _ (rule u : ℕ) (e : u ≡ near rule j (magnitude m low)) where
      nothing : near rule j (magnitude m 0) ≡ 0
      unfolding near
      nothing = ap (near rule j) (magnitude_plain m 0 (pow_pos m)) ∙ nearest_none rule 0 (2 ^ j) (pow_pos j) (pow_pos j)

      pub far_code : 2 * (u + rest) + sign W p ≡ tolerance_code W m rule j p
      far_code = go s
        where
          go : Sides (ordinal W p) (threshold_ordinal m j) (j * 2 ^ m) low rest → 2 * (u + rest) + sign W p ≡ tolerance_code W m rule j p
          go (inl h) =
              ap (λ (n : ℕ). 2 * n + sign W p) ((let q : u + rest ≡ u = omega (arith, h.2) in q) ∙ e ∙ ap (λ (n : ℕ). near rule j (magnitude m n)) h.1)
              ∙ code_bins W m room j allowed rule p h.0
          go (inr h) =
              ap (λ (n : ℕ). 2 * n + sign W p) (ap (λ (n : ℕ). n + rest) (e ∙ ap (λ (n : ℕ). near rule j (magnitude m n)) h.1 ∙ nothing) ∙ (let q : 0 + rest ≡ ordinal W p - j * 2 ^ m = omega (arith, h.2) in q))
              ∙ code_rest W m room j allowed rule p h.0

      pub far_code_fits : p < 2 ^ W → 2 * (u + rest) + sign W p < 2 ^ W
      far_code_fits l = subst (λ (n : ℕ). n < 2 ^ W) (sym far_code) (code_under W m room j allowed rule p l)

      pub far_sum_fits : p < 2 ^ W → u + rest < 2 ^ W
      far_sum_fits l = omega (arith, far_code_fits l)

  -- and the way back
  module _ (u far place : ℕ) (s : Split u (threshold_ordinal m 0) far place (j * 2 ^ m)) where
    pub product_asks : u - far < 2 ^ m
    unfolding threshold_ordinal
    product_asks = go s
      where
        go : Split u (threshold_ordinal m 0) far place (j * 2 ^ m) → u - far < 2 ^ m
        go (inl h) = omega (arith, h.0, one-mul (2 ^ m))
        go (inr h) = omega (arith, h.1, pow_pos m)

    module _ (o : ℕ) (e : o ≡ ordinal_of m ((u - far) * 2 ^ j)) where
      nothing_back : ordinal_of m (0 * 2 ^ j) ≡ 0
      unfolding ordinal_of size
      nothing_back = ap (ordinal_of m) (zero-mul (2 ^ j)) ∙ ap (λ (k : ℕ). k * 2 ^ m + 0 / 2 ^ k) (let q : 0 - suc m ≡ 0 = omega arith in q) ∙ (let q : 0 * 2 ^ m + 0 / 1 ≡ 0 = omega (arith, zero-mul (2 ^ m)) in q)

      none_back : far ≡ u → o ≡ 0
      none_back h = e ∙ ap (λ (n : ℕ). ordinal_of m (n * 2 ^ j)) (let q : u - far ≡ 0 = omega (arith, h) in q) ∙ nothing_back

      pub far_restored : o + far + place ≡ restored_ordinal m j u
      unfolding threshold_ordinal
      far_restored = go s
        where
          go : Split u (threshold_ordinal m 0) far place (j * 2 ^ m) → o + far + place ≡ restored_ordinal m j u
          go (inl h) =
              (let q : o + far + place ≡ o = omega (arith, h.1, h.2) in q) ∙ e ∙ ap (λ (n : ℕ). ordinal_of m (n * 2 ^ j)) (let q : u - far ≡ u = omega (arith, h.1) in q)
              ∙ sym (restored_bins m j u (let q : u < 2 ^ m = omega (arith, h.0, one-mul (2 ^ m)) in q))
          go (inr h) =
              ap (λ (n : ℕ). n + far + place) (none_back h.1)
              ∙ (let q : 0 + far + place ≡ u - 2 ^ m + threshold_ordinal m j = omega (arith, h.0, h.1, h.2, one-mul (2 ^ m), next_bin W m room j allowed) in q)
              ∙ sym (restored_above m j u (let q : 2 ^ m ≤ u = omega (arith, h.0, one-mul (2 ^ m)) in q))

      pub far_restored_fits : u < 2 ^ (W - 1) → o + far + place < 2 ^ W
      unfolding threshold_ordinal largest_u
      far_restored_fits l = go s
        where
          go : Split u (threshold_ordinal m 0) far place (j * 2 ^ m) → o + far + place < 2 ^ W
          go (inl h) =
              subst (λ (n : ℕ). n < 2 ^ W) (sym far_restored)
              (omega (arith, halves W m room j allowed, restored_small W m room j allowed u (omega (arith, h.0, one-mul (2 ^ m), threshold_room W m room j allowed, next_bin W m room j allowed))))
          go (inr h) = omega (arith, none_back h.1, h.1, h.2, halves W m room j allowed, threshold_room W m room j allowed, next_bin W m room j allowed)
