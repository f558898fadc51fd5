-- The laws of bound: the answer by the magnitude's digits, and that it is the largest. Once over W and m.
use Rattle.std.proofs.Common.{◌≡◌, ℕ, zero, suc, ◌+◌, ◌-◌, ◌*◌, ◌/◌, ◌%◌, ◌^◌, ◌<◌, ◌≤◌, min, Bool, true, false, T, ◌⊎◌, ℤ, pos, negsuc, ◌+ℤ◌, ◌-ℤ◌, neg_ℤ, nat_abs, sym, refl, ap, ◌∙◌, subst, ap₂, inl, inr, le_refl, mod-lt, le_antisymm, mul-pos, arith, pow_pos, pow_mono, to_z-of_z, SFits, to_z, of_z, le-ltb, lt-ltb, le-leb, Result, Ok, Err}
use native.Mathlib.Nat.{le_step, min-le_right, two-pow-succ}
use borrow.Author.Tests.{lt-leb}
use lib.IntN.{sub_ℕ}
use lib.Signed.{le_z}
use lib.Count.{count_leading_zeros}
use lib.Ieee.{size}
use lib.Ieee.Digits.{size-lt, size_reaches, size-le}
use mir.Syntax.{Width}
use mir.Val.{hbits}
use mir.Facts.{to_z_pos}
use Rattle.numbers.specs.declared.bound.BoundError.{BoundError}
use Rattle.numbers.specs.declared.bound.BoundError.TheVariants.{NoTolerance, TooSmall}
use Rattle.bins.specs.Tolerance.{k_offset, last_bin, allowed_k, bin_of, magnitude}
use Rattle.numbers.specs.Bound.{is_tolerance, exponent_of, not_above, largest_up_to, bound_at}
use Rattle.numbers.specs.Theorem.{Format, IsBound}
use Rattle.bins.proofs.Law.Exponent.{sub_mono, add_sub, sub_add}
use Rattle.bins.proofs.Law.Answers.{and_left, bin_small}
use Rattle.bins.proofs.Law.Number.{le_or_lt, twice_half}
use Rattle.bins.proofs.Law.Tolerance.{size_from, size_together, significand_led, magnitude_plain, exponent_some}
use Rattle.bins.proofs.Law.Working.{zeros_size}

-- ---- what is a tolerance

pub tolerance_some : (t : ℕ) → is_tolerance t ≡ true → 0 < t
unfolding is_tolerance
tolerance_some t e = go (le_or_lt t 0)
  where
    go : (t ≤ 0) ⊎ (0 < t) → 0 < t
    go (inl h) = let z : false ≡ true = rw (le-ltb 0 t h) at e in absurd (let y : ◌≡◌ {A = ℕ} 0 1 = cc in omega arith)
    go (inr h) = h

-- ---- how many digits a magnitude has

size_between : (x k : ℕ) → 2 ^ k ≤ x → x < 2 ^ suc k → size x ≡ suc k
size_between x k l h = le_antisymm (size-le x (suc k) h) (size_from x k l)

module _ (m o : ℕ) where
  pub size_plain : o < 2 ^ m → size (magnitude m o) ≡ size o
  size_plain h = ap size (magnitude_plain m o h)

  pub size_led : 2 ^ m ≤ o → size (magnitude m o) ≡ o / 2 ^ m + m
  unfolding magnitude
  size_led h =
      let q = 2 ^ m + o % 2 ^ m in
      let r : o % 2 ^ m < 2 ^ m = mod-lt o (pow_pos m) in
      let wide : q < 2 ^ suc m = omega (arith, two-pow-succ m) in
      ap (λ (n : ℕ). size (n * 2 ^ (o / 2 ^ m - 1))) (significand_led m o h)
      ∙ size_together m q (o / 2 ^ m - 1) (omega (arith, pow_pos m)) wide
      ∙ (let e : size q + (o / 2 ^ m - 1) ≡ o / 2 ^ m + m = omega (arith, size_between q m (omega arith) wide, exponent_some m o h) in e)

  pub magnitude_some : 0 < o → 0 < magnitude m o
  unfolding magnitude
  magnitude_some h = go (le_or_lt (2 ^ m) o)
    where
      led : 2 ^ m ≤ o → 0 < magnitude m o
      led l = mul-pos (rw (significand_led m o l) (omega (arith, pow_pos m))) (pow_pos (o / 2 ^ m - 1))

      go : (2 ^ m ≤ o) ⊎ (o < 2 ^ m) → 0 < magnitude m o
      go (inl l) = led l
      go (inr l) = rw (magnitude_plain m o l) h

-- ---- trying the bins from the top

module _ (W m t : ℕ) where
  pub largest_found : (n j : ℕ) → j ≤ n → not_above W m t j ≡ true → ((i : ℕ) → j < i → i ≤ n → not_above W m t i ≡ false)
      → largest_up_to W m t n ≡ Ok (exponent_of W m j)
  unfolding largest_up_to
  largest_found zero j h y rest = let e : j ≡ 0 = omega arith in rw (rw e at y) (ap (λ (i : ℕ). Ok (exponent_of W m i)) (sym e))
  largest_found (suc n) j h y rest = go (λ l. largest_found n j l y (λ i a b. rest i a (le_step b))) (le_or_lt j n)
    where
      go : (j ≤ n → largest_up_to W m t n ≡ Ok (exponent_of W m j)) → (j ≤ n) ⊎ (n < j) → largest_up_to W m t (suc n) ≡ Ok (exponent_of W m j)
      go again (inl l) = rw (rest (suc n) (omega arith) (le_refl (suc n))) (again l)
      go again (inr l) = let e : j ≡ suc n = omega arith in rw (rw e at y) (ap (λ (i : ℕ). Ok (exponent_of W m i)) (sym e))

  pub largest_none : (n : ℕ) → ((i : ℕ) → i ≤ n → not_above W m t i ≡ false) → largest_up_to W m t n ≡ Err TooSmall
  unfolding largest_up_to
  largest_none zero none = rw (none 0 (le_refl 0))
  largest_none (suc n) none = rw (none (suc n) (le_refl (suc n))) (largest_none n (λ i h. none i (le_step h)))

  -- the trying ends with an exponent or with none
  pub found_or_none : (n : ℕ) → (largest_up_to W m t n ≡ Err TooSmall) ⊎ ((k : ℤ) × (largest_up_to W m t n ≡ Ok k))
  unfolding largest_up_to
  found_or_none zero = go (not_above W m t zero) refl
    where
      go : (b : Bool) → not_above W m t zero ≡ b → (largest_up_to W m t zero ≡ Err TooSmall) ⊎ ((k : ℤ) × (largest_up_to W m t zero ≡ Ok k))
      go true y = inr (exponent_of W m zero, rw y)
      go false y = inl (rw y)
  found_or_none (suc n) = go (found_or_none n) (not_above W m t (suc n)) refl
    where
      go : (largest_up_to W m t n ≡ Err TooSmall) ⊎ ((k : ℤ) × (largest_up_to W m t n ≡ Ok k)) → (b : Bool) → not_above W m t (suc n) ≡ b
          → (largest_up_to W m t (suc n) ≡ Err TooSmall) ⊎ ((k : ℤ) × (largest_up_to W m t (suc n) ≡ Ok k))
      go before true y = inr (exponent_of W m (suc n), rw y)
      go (inl e) false y = inl (rw y e)
      go (inr e) false y = inr (e.0, rw y e.1)

  pub none_is : (n : ℕ) → largest_up_to W m t n ≡ Err TooSmall → (i : ℕ) → i ≤ n → not_above W m t i ≡ false
  unfolding largest_up_to
  none_is zero e i h = go (not_above W m t zero) refl
    where
      is : i ≡ 0
      is = omega arith

      go : (b : Bool) → not_above W m t zero ≡ b → not_above W m t i ≡ false
      go true y = let z : Ok (exponent_of W m zero) ≡ Err TooSmall = rw y at e in cc
      go false y = rw is y
  none_is (suc n) e i h = go (none_is n) (not_above W m t (suc n)) refl
    where
      go : (largest_up_to W m t n ≡ Err TooSmall → (i : ℕ) → i ≤ n → not_above W m t i ≡ false) → (b : Bool) → not_above W m t (suc n) ≡ b → not_above W m t i ≡ false
      go again true y = let z : Ok (exponent_of W m (suc n)) ≡ Err TooSmall = rw y at e in cc
      go again false y = last (again (rw y at e)) (le_or_lt i n)
        where
          last : ((i : ℕ) → i ≤ n → not_above W m t i ≡ false) → (i ≤ n) ⊎ (n < i) → not_above W m t i ≡ false
          last below (inl l) = below i l
          last below (inr l) = let is : i ≡ suc n = omega arith in rw is y

  -- what is answered is the largest, and only that one
  pub record Largest (n : ℕ) (k : ℤ) : Type 0 where
    pub bin : ℕ
    pub is : k ≡ exponent_of W m bin
    pub within : bin ≤ n
    pub below : not_above W m t bin ≡ true
    pub above : (i : ℕ) → i ≤ n → not_above W m t i ≡ true → i ≤ bin

  top_is : (n : ℕ) (k : ℤ) → not_above W m t n ≡ true → ◌≡◌ {A = Result ℤ BoundError} (Ok (exponent_of W m n)) (Ok k) → Largest n k
  top_is n k y e = record { bin = n; is = (cc); within = le_refl n; below = y; above = λ i h z. h }

  one_more : (n : ℕ) (k : ℤ) → not_above W m t (suc n) ≡ false → Largest n k → Largest (suc n) k
  one_more n k y r = record { bin = r.bin; is = r.is; within = le_step r.within; below = r.below; above = λ i h z. go i z (le_or_lt i n) h }
    where
      go : (i : ℕ) → not_above W m t i ≡ true → (i ≤ n) ⊎ (n < i) → i ≤ suc n → i ≤ r.bin
      go i z (inl l) h = r.above i l z
      go i z (inr l) h = let e : i ≡ suc n = omega arith in let q : true ≡ false = sym (rw e at z) ∙ y in absurd (let d : ◌≡◌ {A = ℕ} 0 1 = cc in omega arith)

  never : (k : ℤ) → Err TooSmall ≡ Ok k → ⊥
  never k e = let d : ◌≡◌ {A = ℕ} 0 1 = cc in omega arith

  pub largest_is : (n : ℕ) (k : ℤ) → largest_up_to W m t n ≡ Ok k → Largest n k
  unfolding largest_up_to
  largest_is zero k e = go (not_above W m t zero) refl
    where
      go : (b : Bool) → not_above W m t zero ≡ b → Largest zero k
      go true y = top_is zero k y (rw y at e)
      go false y = absurd (never k (rw y at e))
  largest_is (suc n) k e = go (largest_is n k) (not_above W m t (suc n)) refl
    where
      go : (largest_up_to W m t n ≡ Ok k → Largest n k) → (b : Bool) → not_above W m t (suc n) ≡ b → Largest (suc n) k
      go again true y = top_is (suc n) k y (rw y at e)
      go again false y = one_more n k y (again (rw y at e))

  -- ---- by the digits of the magnitude

  module _ (some : 0 < magnitude 52 t) where
    pub not_above_yes : (j : ℕ) → j + (k_offset 64 52 - k_offset W m) ≤ size (magnitude 52 t) → not_above W m t j ≡ true
    unfolding not_above
    not_above_yes j h =
        let x = magnitude 52 t in
        let d : 0 < size x = size_from x 0 some in
        let l : 2 ^ (j + (k_offset 64 52 - k_offset W m)) ≤ 2 ^ size x = pow_mono h in
        le-leb (2 ^ (j + (k_offset 64 52 - k_offset W m))) (2 * x) (omega (arith, twice_half (size x) d, size_reaches x (size x - 1) (omega arith)))

    pub not_above_no : (j : ℕ) → size (magnitude 52 t) < j + (k_offset 64 52 - k_offset W m) → not_above W m t j ≡ false
    unfolding not_above
    not_above_no j h =
        let x = magnitude 52 t in
        let l : 2 ^ suc (size x) ≤ 2 ^ (j + (k_offset 64 52 - k_offset W m)) = pow_mono h in
        lt-leb (2 ^ (j + (k_offset 64 52 - k_offset W m))) (2 * x) (omega (arith, two-pow-succ (size x), size-lt x))

    pub bound_is : is_tolerance t ≡ true → k_offset 64 52 - k_offset W m ≤ size (magnitude 52 t)
        → bound_at W m t ≡ Ok (exponent_of W m (min (size (magnitude 52 t) - (k_offset 64 52 - k_offset W m)) (last_bin W m)))
    unfolding bound_at
    bound_is e h =
        let lift = k_offset 64 52 - k_offset W m in
        let d = size (magnitude 52 t) in
        rw e
        (largest_found (last_bin W m) (min (d - lift) (last_bin W m)) (min-le_right (d - lift) (last_bin W m))
        (not_above_yes (min (d - lift) (last_bin W m)) (omega arith)) (λ i a b. not_above_no i (omega arith)))

    pub bound_none : is_tolerance t ≡ true → size (magnitude 52 t) < k_offset 64 52 - k_offset W m → bound_at W m t ≡ Err TooSmall
    unfolding bound_at
    bound_none e h = rw e (largest_none (last_bin W m) (λ i a. not_above_no i (omega arith)))

-- ---- what the functions of src/bound.rt ask and return

pub refused_is : (W m t : ℕ) → is_tolerance t ≡ false → Err NoTolerance ≡ bound_at W m t
unfolding bound_at
refused_is W m t e = rw e

pub word_digits : (W a : ℕ) → a < 2 ^ W → W - count_leading_zeros W a ≡ size a
word_digits W a h = ap (λ (n : ℕ). W - n) (zeros_size W a h) ∙ (let e : W - (W - size a) ≡ size a = omega (arith, size-le a W h) in e)

-- a bin as a signed number, less the smallest k
module _ (w : Width) (j least : ℕ) (h : j < 2 ^ hbits w) (l : suc least < 2 ^ hbits w) where
  difference : to_z w j -ℤ pos (suc least) ≡ sub_ℕ j (suc least)
  difference = ap (λ (z : ℤ). z -ℤ pos (suc least)) (to_z_pos w h)

  pub difference_fits : SFits w (to_z w j -ℤ pos (suc least))
  difference_fits = rw difference (go (le_or_lt (suc least) j))
    where
      go : (suc least ≤ j) ⊎ (j < suc least) → SFits w (sub_ℕ j (suc least))
      go (inl g) = rw (le-ltb j (suc least) g) (record { sfits = omega arith })
      go (inr g) = rw (lt-ltb j (suc least) g) (record { sfits = omega arith })

  pub difference_is : to_z w (of_z w (to_z w j -ℤ pos (suc least))) ≡ sub_ℕ j (suc least)
  difference_is = to_z-of_z difference_fits ∙ difference

-- ---- in the exponents' own terms

module _ (W m : ℕ) (format : Format W m) where
  previous : (n : ℕ) × (k_offset W m ≡ suc n)
  previous = (k_offset W m - 1, omega (arith, format.least))

  lowest : neg_ℤ (pos (k_offset W m)) ≡ sub_ℕ 0 (k_offset W m)
  lowest = go previous.0 previous.1
    where
      go : (n : ℕ) → k_offset W m ≡ suc n → neg_ℤ (pos (k_offset W m)) ≡ sub_ℕ 0 (k_offset W m)
      go n e = rw e (sym (rw (lt-ltb 0 (suc n) (omega arith)) (ap negsuc (let q : suc n - 1 ≡ n = omega arith in q))))

  pub bin_allowed : (j : ℕ) → j ≤ last_bin W m → allowed_k W m (exponent_of W m j) ≡ true
  unfolding allowed_k exponent_of
  bin_allowed j h = rw (lowest) (rw (sub_mono (k_offset W m) 0 j (omega arith), sub_mono (k_offset W m) j (last_bin W m) h))

  pub bin_back : (j : ℕ) → bin_of W m (exponent_of W m j) ≡ j
  unfolding bin_of exponent_of
  bin_back j = ap nat_abs (add_sub (k_offset W m) j)

  pub exponent_back : (k : ℤ) → allowed_k W m k ≡ true → exponent_of W m (bin_of W m k) ≡ k
  unfolding allowed_k bin_of exponent_of
  exponent_back k e = go previous.0 previous.1
    where
      go : (n : ℕ) → k_offset W m ≡ suc n → sub_ℕ (nat_abs (k +ℤ pos (k_offset W m))) (k_offset W m) ≡ k
      go n l = rw l (sub_add n k (rw l at (and_left (le_z (neg_ℤ (pos (k_offset W m))) k) (le_z k (sub_ℕ (last_bin W m) (k_offset W m))) e)))

  pub largest_bound : (t : ℕ) (k : ℤ) → Largest W m t (last_bin W m) k → IsBound W m t k
  unfolding exponent_of
  largest_bound t k r =
      record {
        allowed = rw r.is (bin_allowed r.bin r.within);
        below = rw r.is (rw (bin_back r.bin) r.below);
        largest = λ other a b.
            let up : bin_of W m other ≤ r.bin = r.above (bin_of W m other) (bin_small W m other format.least format.order a) b in
            record { le = subst T (sym (ap₂ le_z (sym (exponent_back other a)) r.is ∙ sub_mono (k_offset W m) (bin_of W m other) r.bin up)) tt };
      }

  pub bound_sound : (t : ℕ) (k : ℤ) → bound_at W m t ≡ Ok k → IsBound W m t k
  unfolding bound_at
  bound_sound t k e = go (is_tolerance t) refl
    where
      go : (b : Bool) → is_tolerance t ≡ b → IsBound W m t k
      go true y = largest_bound t k (largest_is W m t (last_bin W m) k (rw y at e))
      go false y = absurd (let z : Err NoTolerance ≡ Ok k = rw y at e in let d : ◌≡◌ {A = ℕ} 0 1 = cc in omega arith)

  pub bound_refused : (t : ℕ) → bound_at W m t ≡ Err TooSmall → (k : ℤ) → allowed_k W m k ≡ true → not_above W m t (bin_of W m k) ≡ false
  unfolding bound_at
  bound_refused t e k a = go (is_tolerance t) refl
    where
      go : (b : Bool) → is_tolerance t ≡ b → not_above W m t (bin_of W m k) ≡ false
      go true y = none_is W m t (last_bin W m) (rw y at e) (bin_of W m k) (bin_small W m k format.least format.order a)
      go false y = let z : Err NoTolerance ≡ Err TooSmall = rw y at e in cc

  -- the other way: where there is a bound, it is answered
  pub bound_complete : (t : ℕ) (k : ℤ) → is_tolerance t ≡ true → IsBound W m t k → ((other : ℤ) → IsBound W m t other → other ≡ k)
      → bound_at W m t ≡ Ok k
  unfolding bound_at
  bound_complete t k tolerance is one = rw tolerance (go (found_or_none W m t (last_bin W m)))
    where
      go : (largest_up_to W m t (last_bin W m) ≡ Err TooSmall) ⊎ ((other : ℤ) × (largest_up_to W m t (last_bin W m) ≡ Ok other))
          → largest_up_to W m t (last_bin W m) ≡ Ok k
      go (inl e) =
          let no = none_is W m t (last_bin W m) e (bin_of W m k) (bin_small W m k format.least format.order is.allowed) in
          let z : true ≡ false = sym is.below ∙ no in
          cc
      go (inr e) = e.1 ∙ ap (λ (i : ℤ). Ok i) (one e.0 (largest_bound t e.0 (largest_is W m t (last_bin W m) e.0 e.1)))

  -- and 12 is answered exactly where the tolerance is none
  pub bound_untold : (t : ℕ) → bound_at W m t ≡ Err NoTolerance → is_tolerance t ≡ false
  unfolding bound_at
  bound_untold t e = go (found_or_none W m t (last_bin W m)) (is_tolerance t) refl
    where
      go : (largest_up_to W m t (last_bin W m) ≡ Err TooSmall) ⊎ ((k : ℤ) × (largest_up_to W m t (last_bin W m) ≡ Ok k))
          → (b : Bool) → is_tolerance t ≡ b → is_tolerance t ≡ false
      go (inl none) true y = let z : Err TooSmall ≡ Err NoTolerance = sym none ∙ rw y at e in cc
      go (inr some) true y = let z : Ok some.0 ≡ Err NoTolerance = sym some.1 ∙ rw y at e in cc
      go either false y = y
