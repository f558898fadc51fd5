-- What the functions of src/ ask and return, once over W and m: their proofs cite these.
use Rattle.std.proofs.Common.{◌≡◌, ℕ, suc, ◌+◌, ◌-◌, ◌*◌, ◌/◌, ◌%◌, ◌^◌, ◌<◌, ◌≤◌, min, ◌⊎◌, sym, ap, ◌∙◌, ap₂, inl, inr, le_of_eq, lt_of_lt_of_le, le_of_suc-le-suc, mod-lt, mod-eq_of_lt, div-lt_iff_lt-mul, one-mul, div-add-mod', add-one, arith, pow_pos, pow_mono, pow-add}
use native.Mathlib.Nat.{two-pow-succ}
use lib.Count.{count_leading_zeros, leading_unique}
use lib.Pow.{pow-lt}
use lib.Ieee.{size}
use lib.Ieee.Digits.{size-lt, size_reaches, size-le}
use Rattle.bins.specs.Tolerance.{magnitude, threshold_ordinal, nearest, near, ordinal, sign, tolerance_code, last_bin}
use Rattle.bins.proofs.Law.Number.{le_or_lt, twice_half, fraction_only, led_by_one}
use Rattle.bins.proofs.Law.Nearest.{over, nearest_none, nearest_scaled, nearest_half, nearest_other}
use Rattle.bins.proofs.Law.Tolerance.{below_threshold, from_threshold, code_below, code_from, code_under, threshold_room, next_bin, significand_led, halves, magnitude_plain}

-- ---- rounding a significand

-- 1 << s
pub shift_one : (W s : ℕ) → s < W → 1 * 2 ^ s % 2 ^ W ≡ 2 ^ s
shift_one W s h = ap (λ (n : ℕ). n % 2 ^ W) (one-mul (2 ^ s)) ∙ mod-eq_of_lt (pow-lt h)

-- what has n digits is less than half of 2 ^ s, for an s above n
pub rounds_away : (rule n s q : ℕ) → q < 2 ^ n → n < s → 0 ≡ near rule s q
unfolding near
rounds_away rule n s q h l =
    let two : 2 ^ suc n ≤ 2 ^ s = pow_mono l in
    sym (nearest_none rule q (2 ^ s) (pow_pos s) (omega (arith, two-pow-succ n)))

-- so s places past n + 1 need not be looked at
pub near_cut : (rule n s q : ℕ) → q < 2 ^ n → near rule (suc n - (suc n - s)) q ≡ near rule s q
near_cut rule n s q h = go (le_or_lt s (suc n))
  where
    go : (s ≤ suc n) ⊎ (suc n < s) → near rule (suc n - (suc n - s)) q ≡ near rule s q
    go (inl l) = ap (λ (k : ℕ). near rule k q) (let e : suc n - (suc n - s) ≡ s = omega arith in e)
    go (inr l) = sym (rounds_away rule n (suc n - (suc n - s)) q h (omega arith)) ∙ rounds_away rule n s q h (omega arith)

-- q over s places: the sum with half of 2 ^ (s + 1), its whole part, and whether anything is left
module _ (W n s q : ℕ) (h : q < 2 ^ n) (l : s ≤ suc n) (room : n + 2 ≤ W) where
  abbrev sum : ℕ
  sum = 2 * q + 1 * 2 ^ s % 2 ^ W

  abbrev upper : ℕ
  upper = sum / 2 ^ (s + 1)

  sum_is : sum ≡ 2 * q + 2 ^ s
  sum_is = ap (λ (k : ℕ). 2 * q + k) (shift_one W s (omega arith))

  bin_is : 2 ^ (s + 1) ≡ 2 * 2 ^ s
  bin_is = ap (λ (k : ℕ). 2 ^ k) (add-one s) ∙ (let e : 2 ^ suc s ≡ 2 * 2 ^ s = omega (arith, two-pow-succ s) in e)

  pub rounded_fits : sum < 2 ^ W
  rounded_fits =
      let up : 2 ^ suc (suc n) ≤ 2 ^ W = pow_mono (omega arith) in
      let low : 2 ^ s ≤ 2 ^ suc n = pow_mono l in
      omega (arith, sum_is, two-pow-succ n, two-pow-succ (suc n))

  parts : upper * 2 ^ (s + 1) + sum % 2 ^ (s + 1) ≡ sum
  parts = div-add-mod' sum (2 ^ (s + 1))

  back_is : upper * 2 ^ (s + 1) % 2 ^ W ≡ upper * 2 ^ (s + 1)
  back_is = mod-eq_of_lt (omega (arith, parts, rounded_fits))

  pub rounded_half : (rule d : ℕ) → d ≡ over rule upper → sum ≡ upper * 2 ^ (s + 1) % 2 ^ W → upper - d ≡ near rule s q
  unfolding near
  rounded_half rule d odd e =
      ap (λ (k : ℕ). upper - k) odd
      ∙ nearest_half rule q (2 ^ s) upper (pow_pos s) (ap (λ (k : ℕ). upper * k) (sym bin_is) ∙ sym back_is ∙ sym e ∙ sum_is)

  pub rounded_other : (rule : ℕ) → (sum ≡ upper * 2 ^ (s + 1) % 2 ^ W → ⊥) → upper ≡ near rule s q
  unfolding near
  rounded_other rule n =
      nearest_other rule q (2 ^ s) upper (sum % 2 ^ (s + 1)) (ap (λ (k : ℕ). upper * k + sum % 2 ^ (s + 1)) (sym bin_is) ∙ parts ∙ sum_is)
      (some (le_or_lt (sum % 2 ^ (s + 1)) 0)) (lt_of_lt_of_le (mod-lt sum (pow_pos (s + 1))) (le_of_eq bin_is))
    where
      some : (sum % 2 ^ (s + 1) ≤ 0) ⊎ (0 < sum % 2 ^ (s + 1)) → 0 < sum % 2 ^ (s + 1)
      some (inl z) = absurd (n (omega (arith, parts, back_is)))
      some (inr z) = z

-- d places behind both the bin and the magnitude change nothing
near_scaled : (rule s d q : ℕ) → near rule (s + d) (q * 2 ^ d) ≡ near rule s q
unfolding near
near_scaled rule s d q = ap (nearest rule (q * 2 ^ d)) (pow-add 2 s d) ∙ nearest_scaled rule q (2 ^ s) (pow_pos s) (2 ^ d) (pow_pos d)

module _ (m j o : ℕ) where
  pub plain_is : (rule : ℕ) → o / 2 ^ m ≡ 0 → near rule j (o % 2 ^ m) ≡ near rule j (magnitude m o)
  plain_is rule e = let small = fraction_only m o e in ap (near rule j) (mod-eq_of_lt small ∙ sym (magnitude_plain m o small))

  pub exponent_under : o < threshold_ordinal m j → o / 2 ^ m ≤ j
  unfolding threshold_ordinal
  exponent_under h = le_of_suc-le-suc ((div-lt_iff_lt-mul (pow_pos m)).1 h)

  pub led_is : (rule : ℕ) → (o / 2 ^ m ≡ 0 → ⊥) → o < threshold_ordinal m j → near rule (j + 1 - o / 2 ^ m) (2 ^ m + o % 2 ^ m) ≡ near rule j (magnitude m o)
  unfolding magnitude
  led_is rule some h =
      let e = o / 2 ^ m in
      let under : e ≤ j = exponent_under h in
      let led : 2 ^ m ≤ o = led_by_one m o some in
      sym
      (ap₂ (near rule) (let q : j ≡ j + 1 - e + (e - 1) = omega arith in q) (ap (λ (n : ℕ). n * 2 ^ (e - 1)) (significand_led m o led))
      ∙ near_scaled rule (j + 1 - e) (e - 1) (2 ^ m + o % 2 ^ m))

-- the test against (j + 1) * 2 ^ m
pub by_taken : (m j o : ℕ) → o < (j + 1) * 2 ^ m → o < threshold_ordinal m j
unfolding threshold_ordinal
by_taken m j o h = rw (← (add-one j)) h

pub by_left : (m j o : ℕ) → (j + 1) * 2 ^ m ≤ o → threshold_ordinal m j ≤ o
unfolding threshold_ordinal
by_left m j o h = rw (← (add-one j)) h

pub under_last : (j bin last : ℕ) → j ≡ min bin last → j ≤ last
under_last j bin last e = omega arith

-- a bin, on either side of the one from which the float rules serve
module _ (from last bin : ℕ) (some : from ≤ last) where
  pub own_bin : bin < from → bin ≡ min bin last
  own_bin h = omega arith

  pub far_bin : (j : ℕ) → from ≤ bin → j ≡ min bin last → from ≤ j
  far_bin j h e = omega arith

-- ---- the code of a pattern, by the side of T that its ordinal is on

module _ (W m : ℕ) (room : m + 3 ≤ W) (j : ℕ) (allowed : j ≤ last_bin W m) where
  pub threshold_fits : (j + 1) * 2 ^ m < 2 ^ W
  unfolding threshold_ordinal
  threshold_fits = rw (add-one j) (omega (arith, threshold_room W m room j allowed, halves W m room j allowed, pow_pos m))

  pub bins_fit : j * 2 ^ m < 2 ^ (W - 1)
  bins_fit = omega (arith, threshold_room W m room j allowed, next_bin W m room j allowed, pow_pos m)

  module _ (rule p : ℕ) (h : ordinal W p < threshold_ordinal m j) where
    pub code_bins : 2 * near rule j (magnitude m (ordinal W p)) + sign W p ≡ tolerance_code W m rule j p
    unfolding tolerance_code
    code_bins = ap (λ (u : ℕ). 2 * u + sign W p) (sym (code_below m rule j (ordinal W p) (below_threshold m j (ordinal W p) h)))

    pub bins_code_fits : (u : ℕ) → u ≡ near rule j (magnitude m (ordinal W p)) → p < 2 ^ W → 2 * u + sign W p < 2 ^ W
    bins_code_fits u e l = rw (ap (λ (n : ℕ). 2 * n + sign W p) e ∙ code_bins) (code_under W m room j allowed rule p l)

  module _ (rule p : ℕ) (h : threshold_ordinal m j ≤ ordinal W p) where
    pub code_rest : 2 * (ordinal W p - j * 2 ^ m) + sign W p ≡ tolerance_code W m rule j p
    unfolding tolerance_code
    code_rest =
        ap (λ (u : ℕ). 2 * u + sign W p)
        ((let e : ordinal W p - j * 2 ^ m ≡ ordinal W p - threshold_ordinal m j + 2 ^ m = omega (arith, next_bin W m room j allowed) in e)
        ∙ sym (code_from m rule j (ordinal W p) (from_threshold m j (ordinal W p) h)))

    pub rest_code_fits : p < 2 ^ W → 2 * (ordinal W p - j * 2 ^ m) + sign W p < 2 ^ W
    rest_code_fits l = rw code_rest (code_under W m room j allowed rule p l)

-- ---- leading zeros and the digits of a number

pub zeros_size : (W a : ℕ) → a < 2 ^ W → count_leading_zeros W a ≡ W - size a
zeros_size W a h =
    let small : size a ≤ W = size-le a W h in
    sym (leading_unique W a (W - size a) (size a) (omega arith) (size-lt a) (go (le_or_lt (size a) 0)))
  where
    go : (size a ≤ 0) ⊎ (0 < size a) → 2 ^ size a ≤ 2 * a + 1
    go (inl z) = let e : size a ≡ 0 = omega arith in rw e (omega arith)
    go (inr z) =
        let e : 2 ^ size a ≡ 2 ^ (size a - 1) + 2 ^ (size a - 1) = twice_half (size a) z in
        omega (arith, size_reaches a (size a - 1) (omega arith))
