-- |v| / E as a product of floats, once over the formats: exact, or so small that it rounds to no bin; and the bins nearest, by a sum with it.
use Rattle.std.proofs.Common.{◌≡◌, ℕ, suc, ◌+◌, ◌-◌, ◌*◌, ◌/◌, ◌%◌, ◌^◌, ◌<◌, ◌≤◌, Bool, true, false, cond, not, T, eqb, ◌⊎◌, sym, refl, ap, ◌∙◌, subst, inl, inr, le_trans, le_of_eq, lt_of_lt_of_le, lt_of_le_of_lt, le_of_lt, mul-le-mul_right, mod-lt, mul_assoc, mul_comm, div-lt_iff_lt-mul, mul-le-mul_left, mul-lt-mul_of_pos_right, mul-pos, one-mul, mul-one, arith, lit<, lit≤, pow_pos, pow_mono, pow-add, shl_lt}
use Prim.Native.Nat.{compare}
use native.Mathlib.Nat.{two-pow-succ}
use lib.Pow.{pow-lt}
use lib.Ieee.{Float, Format, binary32, binary64, prec, emax, low, hid, ones, size, round, mul, add, sub, lt, of_bits, to_bits, fits, is_nan, nan_bits}
use lib.Ieee.Bits.{nan_bits_is, of_bits-to_bits}
use lib.Ieee.Digits.{size-le}
use lib.Ieee.Exact.{HasValue, round_exact}
use lib.Ieee.Fits.{nearest-le, mul-fits, sub-fits}
use lib.Ieee.Nearest.{closest}
use lib.Ieee.Scale.{round_same, grid, round_val}
use Rattle.bins.specs.Tolerance.{last_bin, magnitude, significand, threshold_ordinal, threshold, nearest, near}
use Rattle.bins.proofs.Law.Number.{le_or_lt}
use Rattle.bins.proofs.Law.Nearest.{over, over_small, nearest_none}
use Rattle.bins.proofs.Law.Float.{led, no_nan, mul_values, bin_value, bin_no_nan}
use Rattle.bins.proofs.Law.Round.{Settled, settled}
use Rattle.bins.proofs.Law.Even.{even_no_nan, even_bits}
use Rattle.bins.proofs.Law.Tolerance.{below_threshold, significand_plain, significand_led}
use Rattle.bins.proofs.Law.Ieee.{ordinal_value}

-- What a factor's value has to say: it is a / c, below 2 ^ m, and rounds to the same bins as x / 2 ^ j does.
pub record Scaled (f : Format) (j x : ℕ) (q : Float) : Type 0 where
  pub a : ℕ
  pub c : ℕ
  pub some : 0 < c
  pub value : HasValue q false a c
  pub under : a < 2 ^ (prec f - 1) * c
  pub bins : (rule : ℕ) → nearest rule a c ≡ near rule j x

module _ (f : Format) where
  abbrev m : ℕ
  m = prec f - 1

  abbrev l : ℕ
  l = low f

  sig_small : (o : ℕ) → significand m o < 2 ^ prec f
  sig_small o = subst (λ (p : ℕ). significand m o < 2 ^ p) (led f) (go (le_or_lt (2 ^ m) o))
    where
      go : (2 ^ m ≤ o) ⊎ (o < 2 ^ m) → significand m o < 2 ^ suc m
      go (inl h) = subst (λ (n : ℕ). n < 2 ^ suc m) (sym (significand_led m o h)) (omega (arith, two-pow-succ m, mod-lt o (pow_pos m)))
      go (inr h) = subst (λ (n : ℕ). n < 2 ^ suc m) (sym (significand_plain m o h)) (omega (arith, two-pow-succ m))

  spare : (f : Format) → prec f + low f < low f + suc (emax f)
  spare binary32 = lit< tt
  spare binary64 = lit< tt

  tiny : (f : Format) → suc (suc (prec f)) ≤ low f
  tiny binary32 = lit≤ tt
  tiny binary64 = lit≤ tt

  module _ (j o : ℕ) (below : o < threshold_ordinal m j) where
    abbrev t : ℕ
    t = o / 2 ^ m - 1

    abbrev x : ℕ
    x = significand m o * 2 ^ t

    low_exponent : t ≤ j
    unfolding threshold_ordinal
    low_exponent = let e : o / 2 ^ m < suc j = (div-lt_iff_lt-mul (pow_pos m)).1 below in omega arith

    x_under : x < 2 ^ m * 2 ^ j
    unfolding magnitude threshold
    x_under = subst (λ (n : ℕ). x < n) (mul_comm (2 ^ j) (2 ^ m)) (below_threshold m j o below)

    exact : j ≤ t + l → HasValue (round f false x (2 ^ j)) false x (2 ^ j)
    exact h =
        let r = t + l - j in
        let fine : significand m o * 2 ^ r < 2 ^ (l + suc (emax f)) =
        lt_of_lt_of_le (shl_lt (prec f) r (sig_small o)) (pow_mono (let e : prec f + r ≤ l + suc (emax f) = omega (arith, low_exponent, spare f) in e)) in
        round_exact f false x (2 ^ j) (significand m o) r (pow_pos j) (sig_small o) fine
        (mul_assoc (significand m o) (2 ^ t) (2 ^ l)
        ∙ ap (λ (n : ℕ). significand m o * n) (sym (pow-add 2 t l) ∙ ap (λ (n : ℕ). 2 ^ n) (let e : t + l ≡ r + j = omega arith in e) ∙ pow-add 2 r j)
        ∙ sym (mul_assoc (significand m o) (2 ^ r) (2 ^ j)))

    same_bins : (rule : ℕ) → nearest rule x (2 ^ j) ≡ near rule j x
    unfolding near
    same_bins rule = refl

    -- less than 2 ^ prec of the smallest units
    module _ (h : t + l < j) where
      few : x * 2 ^ l < 2 ^ prec f * 2 ^ j
      few =
          lt_of_lt_of_le (mul-lt-mul_of_pos_right (mul-lt-mul_of_pos_right (sig_small o) (pow_pos t)) (pow_pos l))
          (le_trans (le_of_eq (mul_assoc (2 ^ prec f) (2 ^ t) (2 ^ l) ∙ ap (λ (n : ℕ). 2 ^ prec f * n) (sym (pow-add 2 t l))))
          (mul-le-mul_left (2 ^ prec f) (pow_mono (let e : t + l ≤ j = omega arith in e))))

      none_dropped : size (x * 2 ^ l / 2 ^ j) - prec f ≡ 0
      none_dropped = omega (arith, size-le (x * 2 ^ l / 2 ^ j) (prec f) ((div-lt_iff_lt-mul (pow_pos j)).1 few))

      grid_few : grid f x (2 ^ j) ≤ 2 ^ prec f
      grid_few =
          le_trans (le_of_eq (ap (λ (k : ℕ). closest (x * 2 ^ l) (2 ^ j * 2 ^ k) * 2 ^ k) none_dropped ∙ mul-one (closest (x * 2 ^ l) (2 ^ j * 1)) ∙ ap (closest (x * 2 ^ l)) (mul-one (2 ^ j))))
          (le_trans (nearest-le (x * 2 ^ l / 2 ^ j) (compare (x * 2 ^ l % 2 ^ j * 2) (2 ^ j))) ((div-lt_iff_lt-mul (pow_pos j)).1 few))

      small_units : 4 * 2 ^ prec f ≤ 2 ^ l
      small_units = le_trans (let e : 4 * 2 ^ prec f ≤ 2 ^ suc (suc (prec f)) = omega (arith, two-pow-succ (suc (prec f)), two-pow-succ (prec f)) in e) (pow_mono (tiny f))

      grid_value : HasValue (round f false x (2 ^ j)) false (grid f x (2 ^ j)) (2 ^ l)
      grid_value = round_val f x (2 ^ j) (lt_of_le_of_lt grid_few (pow-lt (let e : prec f < l + suc (emax f) = omega (arith, spare f) in e)))

      no_bins : (rule : ℕ) → near rule j x ≡ 0
      unfolding near
      no_bins rule =
          let y : 4 * x ≤ 2 ^ j =
          le_trans (let e : 4 * x ≤ 4 * (2 ^ prec f * 2 ^ t) = mul-le-mul_left 4 (le_of_lt (mul-lt-mul_of_pos_right (sig_small o) (pow_pos t))) in e)
          (le_trans (le_of_eq (sym (mul_assoc 4 (2 ^ prec f) (2 ^ t)))) (le_trans (mul-le-mul_right (2 ^ t) small_units) (le_trans (le_of_eq (sym (pow-add 2 l t))) (pow_mono (let e : l + t ≤ j = omega arith in e))))) in
          nearest_none rule x (2 ^ j) (pow_pos j) (omega (arith, pow_pos j))

      none_scaled : (rule : ℕ) → nearest rule (grid f x (2 ^ j)) (2 ^ l) ≡ near rule j x
      none_scaled rule = nearest_none rule (grid f x (2 ^ j)) (2 ^ l) (pow_pos l) (omega (arith, grid_few, small_units, pow_pos (prec f))) ∙ sym (no_bins rule)

      grid_under : grid f x (2 ^ j) < 2 ^ m * 2 ^ l
      grid_under = lt_of_lt_of_le (let e : grid f x (2 ^ j) < 2 ^ l = omega (arith, grid_few, small_units, pow_pos (prec f)) in e) (le_trans (le_of_eq (sym (one-mul (2 ^ l)))) (mul-le-mul_right (2 ^ l) (pow_pos m)))

    rounded : Scaled f j x (round f false x (2 ^ j))
    rounded = go (le_or_lt j (t + l))
      where
        go : (j ≤ t + l) ⊎ (t + l < j) → Scaled f j x (round f false x (2 ^ j))
        go (inl h) = record { a = x; c = 2 ^ j; some = pow_pos j; value = exact h; under = x_under; bins = same_bins }
        go (inr h) = record { a = grid f x (2 ^ j); c = 2 ^ l; some = pow_pos l; value = grid_value h; under = grid_under h; bins = none_scaled h }

    -- the ordinal is that of a float
    module _ (w : suc j ≤ ones f) where
      o_value : HasValue (of_bits f o) false x (2 ^ l)
      unfolding threshold_ordinal magnitude
      o_value = ordinal_value f o (lt_of_lt_of_le below (mul-le-mul_right (2 ^ m) w))

      ordinal_a_number : T (not (nan_bits f o))
      ordinal_a_number = subst (λ (b : Bool). T (not b)) (sym (nan_bits_is f o)) (no_nan (of_bits f o) false x (2 ^ l) o_value)

      -- the product with 1 / E, whose exponent field is d + 1
      scaled : (d : ℕ) → m + d + j ≡ l + l → suc d < ones f → Scaled f j (magnitude m o) (mul f (of_bits f o) (of_bits f (suc d * hid f)))
      unfolding magnitude
      scaled d e s =
          subst (Scaled f j x)
          (sym (mul_values f (of_bits f o) (of_bits f (suc d * hid f)) x (2 ^ l) (2 ^ m * 2 ^ d) (2 ^ l) (pow_pos l) (pow_pos l) o_value (bin_value f d s)
          ∙ round_same f false (x * (2 ^ m * 2 ^ d)) (2 ^ l * 2 ^ l) x (2 ^ j) (mul-pos (pow_pos l) (pow_pos l)) (pow_pos j)
          (mul_assoc x (2 ^ m * 2 ^ d) (2 ^ j) ∙ ap (λ (n : ℕ). x * n) (ap (λ (n : ℕ). n * 2 ^ j) (sym (pow-add 2 m d)) ∙ sym (pow-add 2 (m + d) j) ∙ ap (λ (n : ℕ). 2 ^ n) e ∙ pow-add 2 l l))))
          rounded

-- What a function has to show of a bin j, an ordinal o below that of T and the exponent field F of 1 / E.
pub record Asked (f : Format) (j o F : ℕ) : Type 0 where
  pub below : o < threshold_ordinal (prec f - 1) j
  pub bin_field : suc j ≤ ones f
  pub some : 0 < F
  pub reciprocal : prec f - 1 + F + j ≡ suc (low f + low f)
  pub factor_field : F < ones f

-- Its contract says it: below T, and from the bin prec on, where half of E is a normal float, to the last. What is left is of the formats alone.
abbrev pub width : Format → ℕ
width binary32 = 32
width binary64 = 64

last_field : (f : Format) → suc (last_bin (width f) (prec f - 1)) < ones f
unfolding last_bin
last_field binary32 = lit< tt
last_field binary64 = lit< tt

fields : (f : Format) → (ones f + prec f ≤ low f + low f) × (suc (low f + low f) < ones f + prec f + (prec f - 1))
fields binary32 = (lit≤ tt, lit< tt)
fields binary64 = (lit≤ tt, lit< tt)

pub asked : (f : Format) (j o : ℕ) → (o < threshold_ordinal (prec f - 1) j) × (prec f ≤ j) × (j ≤ last_bin (width f) (prec f - 1)) → Asked f j o (suc (low f + low f) - (prec f - 1) - j)
asked f j o h =
    let under : suc j < ones f = omega (arith, h.2, last_field f) in
    record {
      below = h.0;
      bin_field = omega (arith, under);
      some = omega (arith, under, (fields f).0);
      reciprocal = omega (arith, under, (fields f).0);
      factor_field = omega (arith, h.1, (fields f).1);
    }

-- What it then knows: that its factors are numbers,
module _ {f : Format} {j o F : ℕ} (k : Asked f j o F) where
  field : suc (F - 1) ≡ F
  field = omega (arith, k.some)

  under_ones : suc (F - 1) < ones f
  under_ones = omega (arith, field, k.factor_field)

  pub ordinal_no_nan : T (not (nan_bits f o))
  ordinal_no_nan = ordinal_a_number f j o k.below k.bin_field

  pub factor_no_nan : T (not (nan_bits f (F * hid f)))
  factor_no_nan = subst (λ (n : ℕ). T (not (nan_bits f (n * hid f)))) field (bin_no_nan f (F - 1) under_ones)

  -- and of their product q the bins nearest, by a sum with 2 ^ m - 1/2,
  module _ (q : Float) (is : q ≡ mul f (of_bits f o) (of_bits f (F * hid f))) where
    q_is : Scaled f j (magnitude (prec f - 1) o) q
    q_is =
        subst (Scaled f j (magnitude (prec f - 1) o)) (sym is)
        (subst (λ (n : ℕ). Scaled f j (magnitude (prec f - 1) o) (mul f (of_bits f o) (of_bits f (n * hid f)))) field
        (scaled f j o k.below k.bin_field (F - 1) (omega (arith, k.reciprocal, field)) under_ones))

    q_fits : T (fits f q)
    q_fits = subst (λ (z : Float). T (fits f z)) (sym is) (mul-fits f (of_bits f o) (of_bits f (F * hid f)))

    module _ (y : Float) (Y : HasValue y false (2 * 2 ^ (prec f - 1) - 1) 2) where
      by : Settled f q_is.a q_is.c q y
      by = settled f q_is.a q_is.c q_is.some q_is.under q y q_fits q_is.value Y

      abbrev base : ℕ
      base = low f * 2 ^ (prec f - 1) + 2 ^ (prec f - 1) - 1

      abbrev sum : ℕ
      sum = to_bits f (add f q y)

      abbrev grown : ℕ
      grown = to_bits f (sub f (add f q y) y)

      pub sum_no_nan : T (not (is_nan (add f q y)))
      sum_no_nan = by.number

      pub grown_no_nan : T (not (is_nan (sub f (add f q y) y)))
      grown_no_nan = by.grown_number

      pub sum_from : base ≤ sum
      sum_from = omega (arith, by.pattern)

      pub sum_small : sum ≤ base + 2 ^ (prec f - 1)
      sum_small = omega (arith, by.pattern, by.small)

      next_is : sum - base ≡ by.next
      next_is = omega (arith, by.pattern)

      -- the base is odd, so that one more than the sum has the next one's parity
      parity : (sum + 1) % 2 ≡ by.next % 2
      parity = omega (arith, by.pattern, even_base f, pow_pos (prec f - 1))
        where
          even_base : (f : Format) → (low f * 2 ^ (prec f - 1) + 2 ^ (prec f - 1)) % 2 ≡ 0
          even_base binary32 = refl
          even_base binary64 = refl

      -- d is what the pattern of t has to be more where the next one is odd and a half goes down from it
      module _ (rule d : ℕ) (odd : d ≡ over rule (sum + 1)) where
        d_is : d ≡ over rule by.next
        d_is = odd ∙ ap (λ (n : ℕ). cond (eqb rule 1) n 0) parity

        one : d ≤ 1
        one = rw odd (over_small rule (sum + 1)).0

        pub half_fits : grown + d < suc (low f) * 2 ^ (prec f - 1) + 1
        half_fits = omega (arith, by.grown_small, one)

        pub half_no_nan : T (not (nan_bits f (grown + d)))
        half_no_nan = by.half_number d one

        abbrev test : Bool
        test = lt q (of_bits f (grown + d))

        below : test ≡ true → suc (nearest rule q_is.a q_is.c) ≡ by.next
        below t = by.if_below rule (subst (λ (n : ℕ). T (lt q (of_bits f (grown + n)))) d_is (subst T (sym t) tt))

        pub some_below : test ≡ true → 1 ≤ sum - base
        some_below t = omega (arith, next_is, below t)

        pub near_below : test ≡ true → sum - base - 1 ≡ near rule j (magnitude (prec f - 1) o)
        near_below t = (let z : sum - base - 1 ≡ nearest rule q_is.a q_is.c = omega (arith, next_is, below t) in z) ∙ q_is.bins rule

        pub near_above : test ≡ false → sum - base ≡ near rule j (magnitude (prec f - 1) o)
        near_above t =
            next_is
            ∙ sym (by.if_above rule (subst (λ (n : ℕ). T (not (lt q (of_bits f (grown + n))))) d_is (subst (λ (b : Bool). T (not b)) (sym t) tt)))
            ∙ q_is.bins rule

      -- away from zero nothing is added to the pattern of t, and the test is against t itself
      abbrev away : Bool
      away = lt q (sub f (add f q y) y)

      as_tested : away ≡ lt q (of_bits f (grown + 0))
      as_tested =
          ap (lt q)
          (sym (ap (of_bits f) (let e : grown + 0 ≡ grown = omega arith in e) ∙ of_bits-to_bits f (sub f (add f q y) y) (sub-fits f (add f q y) y)))

      pub some_away : away ≡ true → 1 ≤ sum - base
      some_away t = some_below 0 0 refl (sym as_tested ∙ t)

      pub away_below : away ≡ true → sum - base - 1 ≡ near 0 j (magnitude (prec f - 1) o)
      away_below t = near_below 0 0 refl (sym as_tested ∙ t)

      pub away_above : away ≡ false → sum - base ≡ near 0 j (magnitude (prec f - 1) o)
      away_above t = near_above 0 0 refl (sym as_tested ∙ t)

    -- or by a sum with 2 ^ m, which sends a half to even by itself.
    module _ (y : Float) (Y : HasValue y false (2 ^ (prec f - 1)) 1) where
      pub even_number : T (not (is_nan (add f q y)))
      even_number = even_no_nan f q_is.a q_is.c q_is.some q_is.under q y q_is.value Y

      even_sum : to_bits f (add f q y) ≡ low f * 2 ^ (prec f - 1) + 2 ^ (prec f - 1) + nearest 1 q_is.a q_is.c
      even_sum = even_bits f q_is.a q_is.c q_is.some q_is.under q y q_is.value Y

      pub even_from : low f * 2 ^ (prec f - 1) + 2 ^ (prec f - 1) ≤ to_bits f (add f q y)
      even_from = omega (arith, even_sum)

      pub even_near : to_bits f (add f q y) - (low f * 2 ^ (prec f - 1) + 2 ^ (prec f - 1)) ≡ near 1 j (magnitude (prec f - 1) o)
      even_near =
          (let e : to_bits f (add f q y) - (low f * 2 ^ (prec f - 1) + 2 ^ (prec f - 1)) ≡ nearest 1 q_is.a q_is.c = omega (arith, even_sum) in e) ∙ q_is.bins 1

-- the rule that is none of the known ones is that of 0
pub near_away : (rule j x : ℕ) → eqb rule 1 ≡ false → near 0 j x ≡ near rule j x
unfolding near nearest
near_away rule j x e = rw e refl
