-- What bound answers, of the number that IEEE 754 reads in the tolerance's pattern (lib.Ieee).
use Rattle.std.proofs.Common.{◌≡◌, ℕ, ◌+◌, ◌-◌, ◌*◌, ◌%◌, ◌^◌, ◌<◌, ◌≤◌, Bool, true, false, ltb, ◌⊎◌, ℤ, pos, ◌+ℤ◌, nat_abs, sym, refl, ap, ◌∙◌, subst, inl, inr, mod-eq_of_lt, mul_comm, div-lt_iff_lt-mul, mul-suc, arith, pow_pos, ltb-true, lt-ltb, le-leb, leb-false, leb-true, Ok, Err}
use borrow.Author.Tests.{lt-leb}
use lib.Ieee.{binary64, prec, hid, ones, top}
use lib.Ieee as Ieee
use Rattle.numbers.specs.declared.bound.BoundError.TheVariants.{TooSmall}
use Rattle.bins.specs.Tolerance.{k_offset, last_bin, allowed_k, bin_of, magnitude}
use Rattle.numbers.specs.Bound.{is_tolerance, exponent_of, not_above, largest_up_to, bound_at}
use Rattle.numbers.specs.Theorem.{Format, IsBound, Reads, Reaches, LargestFor, BoundFor, a_k, no_tolerance, too_small}
use Rattle.bins.proofs.Law.Number.{le_or_lt}
use Rattle.bins.proofs.Law.Exponent.{add_sub_more}
use Rattle.bins.proofs.Law.Answers.{and_right}
use Rattle.bins.proofs.Law.Tolerance.{magnitude_plain}
use Rattle.bins.proofs.Law.Ieee.{finite_value}
use Rattle.numbers.proofs.Law.Read.{finite_field, read_as}
use Rattle.numbers.proofs.Law.Bound as Bound

-- patterns below that of infinity, and from it on
module _ (f : Ieee.Format) where
  room : ones f * hid f < top f
  room = omega (arith, mul-suc (hid f) (ones f), mul_comm (hid f) (ones f), pow_pos (prec f - 1))

  read_below : (t : ℕ) → t < ones f * hid f → Reads f t false (magnitude (prec f - 1) t)
  read_below t h =
      let small : t < top f = omega (arith, room) in
      let whole : t % top f ≡ t = mod-eq_of_lt small in
      rw (whole, lt-leb (top f) t small) at (finite_value f t (rw whole ((div-lt_iff_lt-mul (pow_pos (prec f - 1))).1 h)))

  read_above : (t : ℕ) → ones f * hid f ≤ t → (x : ℕ) → Reads f t false x → ⊥
  read_above t h x reads = go (le_or_lt (top f) t)
    where
      go : (top f ≤ t) ⊎ (t < top f) → ⊥
      go (inl l) = let z : false ≡ true = (read_as f t false x reads).0 ∙ le-leb (top f) t l in let n : ◌≡◌ {A = ℕ} 0 1 = cc in omega (arith, n)
      go (inr l) =
          let whole : t % top f ≡ t = mod-eq_of_lt l in
          let below : t < ones f * hid f = (div-lt_iff_lt-mul (pow_pos (prec f - 1))).0 (rw whole at (finite_field f t false x reads)) in
          omega arith

  read_zero : (x : ℕ) → Reads f 0 false x → x ≡ 0
  read_zero x reads =
      (read_as f 0 false x reads).1 ∙ ap (magnitude (prec f - 1)) (mod-eq_of_lt (let z : 0 < top f = omega (arith, room) in z))
      ∙ magnitude_plain (prec f - 1) 0 (pow_pos (prec f - 1))

module _ (t : ℕ) where
  tolerance_reads : is_tolerance t ≡ true → Reads binary64 t false (magnitude 52 t)
  unfolding is_tolerance
  tolerance_reads e = read_below binary64 t (ltb-true t (2047 * 2 ^ 52) (and_right (ltb 0 t) (ltb t (2047 * 2 ^ 52)) e))

  other_reads : is_tolerance t ≡ false → (x : ℕ) → Reads binary64 t false x → x ≡ 0
  unfolding is_tolerance
  other_reads e x reads = go (le_or_lt t 0) (le_or_lt (2047 * 2 ^ 52) t)
    where
      go : (t ≤ 0) ⊎ (0 < t) → (2047 * 2 ^ 52 ≤ t) ⊎ (t < 2047 * 2 ^ 52) → x ≡ 0
      go (inl l) far = read_zero binary64 x (rw (let z : t ≡ 0 = omega arith in z) at reads)
      go (inr l) (inl m) = absurd (read_above binary64 t m x reads)
      go (inr l) (inr m) = let z : true ≡ false = rw (lt-ltb 0 t l, lt-ltb t (2047 * 2 ^ 52) m) at e in cc

counted : {z k : ℤ} → z ≡ k → nat_abs (z +ℤ pos (k_offset 64 52)) ≡ bin_of 64 52 k
unfolding bin_of
counted e = ap (λ (z : ℤ). nat_abs (z +ℤ pos (k_offset 64 52))) e

module _ (W m : ℕ) (format : Format W m) (lower : k_offset W m ≤ k_offset 64 52) (t : ℕ) where
  lifted : (k : ℤ) → allowed_k W m k ≡ true → bin_of W m k + (k_offset 64 52 - k_offset W m) ≡ bin_of 64 52 k
  unfolding exponent_of
  lifted k a = sym (add_sub_more (k_offset W m) (bin_of W m k) (k_offset 64 52) lower) ∙ counted (Bound.exponent_back W m format k a)

  -- "2^k not above it", by bins and by exponents
  reaches : (k : ℤ) → allowed_k W m k ≡ true → not_above W m t (bin_of W m k) ≡ true → Reaches (magnitude 52 t) k
  unfolding not_above
  reaches k a e =
      subst (λ (j : ℕ). 2 ^ j ≤ 2 * magnitude 52 t) (lifted k a) (leb-true (2 ^ (bin_of W m k + (k_offset 64 52 - k_offset W m))) (2 * magnitude 52 t) e)

  reached : (k : ℤ) → allowed_k W m k ≡ true → Reaches (magnitude 52 t) k → not_above W m t (bin_of W m k) ≡ true
  unfolding not_above
  reached k a l =
      le-leb (2 ^ (bin_of W m k + (k_offset 64 52 - k_offset W m))) (2 * magnitude 52 t)
      (subst (λ (j : ℕ). 2 ^ j ≤ 2 * magnitude 52 t) (sym (lifted k a)) l)

  missed : (k : ℤ) → allowed_k W m k ≡ true → not_above W m t (bin_of W m k) ≡ false → 2 * magnitude 52 t < 2 ^ bin_of 64 52 k
  unfolding not_above
  missed k a e =
      subst (λ (j : ℕ). 2 * magnitude 52 t < 2 ^ j) (lifted k a) (leb-false (2 ^ (bin_of W m k + (k_offset 64 52 - k_offset W m))) (2 * magnitude 52 t) e)

  largest_for : (k : ℤ) → IsBound W m t k → LargestFor W m (magnitude 52 t) k
  largest_for k is =
      record {
        allowed = is.allowed;
        reached = reaches k is.allowed is.below;
        largest = λ other a l. is.largest other a (reached other a l);
      }

  pub bound_for : BoundFor W m t (bound_at W m t)
  unfolding bound_at
  bound_for = go (is_tolerance t) refl (Bound.found_or_none W m t (last_bin W m))
    where
      go : (b : Bool) → is_tolerance t ≡ b → (largest_up_to W m t (last_bin W m) ≡ Err TooSmall) ⊎ ((k : ℤ) × (largest_up_to W m t (last_bin W m) ≡ Ok k))
          → BoundFor W m t (bound_at W m t)
      go false y either = subst (BoundFor W m t) (Bound.refused_is W m t y) (no_tolerance (other_reads t y))
      go true y (inl none) =
          let e : bound_at W m t ≡ Err TooSmall = rw y none in
          subst (BoundFor W m t) (sym e)
          (too_small (magnitude 52 t) (tolerance_reads t y) (Bound.magnitude_some 52 t (Bound.tolerance_some t y)) (λ k a. missed k a (Bound.bound_refused W m format t e k a)))
      go true y (inr (k, some)) =
          let e : bound_at W m t ≡ Ok k = rw y some in
          subst (BoundFor W m t) (sym e)
          (a_k (magnitude 52 t) (tolerance_reads t y) (Bound.magnitude_some 52 t (Bound.tolerance_some t y)) k (largest_for k (Bound.bound_sound W m format t k e)))
