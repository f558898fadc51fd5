-- What the answer of a bin says of k, once over W and m.
use Rattle.std.proofs.Common.{◌≡◌, ℕ, suc, ◌+◌, ◌-◌, ◌<◌, ◌≤◌, min, Bool, true, false, cond, ◌&&◌, ℤ, pos, negsuc, ◌+ℤ◌, neg_ℤ, nat_abs, sym, refl, ap, ◌∙◌, arith, to_z-of_z, w32, SFits, to_z, of_z, le-ltb, Option, Some, None}
use native.Mathlib.Nat.{min-eq_left}
use lib.IntN.{sub_ℕ}
use lib.Signed.{le_z}
use Rattle.bins.specs.Tolerance.{k_offset, last_bin, allowed_k, bin_of}
use Rattle.bins.specs.Answers.{bin_answer}
use Rattle.bins.proofs.Law.Exponent.{lifted, sub_high}

pub and_left : (a b : Bool) → a && b ≡ true → a ≡ true
and_left true b e = refl
and_left false b e = e

pub and_right : (a b : Bool) → a && b ≡ true → b ≡ true
and_right true b e = e
and_right false b e = let z : false ≡ true = e in cc

-- what a call of `bin` said, as it stands after a match
pub answered : (W m : ℕ) (k : ℤ) → SFits w32 k → (r e : Option ℕ) → r ≡ bin_answer W m (to_z w32 (of_z w32 k)) → r ≡ e → bin_answer W m k ≡ e
answered W m k f r e a b = ap (bin_answer W m) (sym (to_z-of_z f)) ∙ sym a ∙ b

-- the answer by the two tests, where the smallest k is -(least + 1) and the largest is `most`
module _ (W m least most : ℕ) (offset : suc least ≡ k_offset W m) (last : most + suc least ≡ last_bin W m) (k : ℤ) where
  tests : allowed_k W m k ≡ (le_z (negsuc least) k && le_z k (pos most))
  unfolding allowed_k
  tests =
      let high : sub_ℕ (most + suc least) (suc least) ≡ pos most = sub_high (suc least) (most + suc least) (omega arith) ∙ ap pos (let e : most + suc least - suc least ≡ most = omega arith in e) in
      rw (← offset, ← last, high) refl

  pub below_none : le_z (negsuc least) k ≡ false → None ≡ bin_answer W m k
  unfolding bin_answer
  below_none low = rw (tests, low) refl

  pub above_none : le_z (negsuc least) k ≡ true → le_z k (pos most) ≡ false → None ≡ bin_answer W m k
  unfolding bin_answer
  above_none low high = rw (tests, low, high) refl

  pub between_some : le_z (negsuc least) k ≡ true → le_z k (pos most) ≡ true → (j : ℕ) → j ≡ nat_abs (k +ℤ pos (suc least)) → Some j ≡ bin_answer W m k
  unfolding bin_answer bin_of
  between_some low high j e = rw (tests, low, high) (ap Some (e ∙ ap (λ (n : ℕ). nat_abs (k +ℤ pos n)) offset))

module _ (W m : ℕ) (k : ℤ) where
  -- an allowed k has a bin up to the last
  pub bin_small : 0 < k_offset W m → k_offset W m ≤ last_bin W m → allowed_k W m k ≡ true → bin_of W m k ≤ last_bin W m
  unfolding allowed_k bin_of
  bin_small some order e = go (k_offset W m - 1) (omega arith) (last_bin W m - k_offset W m) (omega arith)
    where
      go : (least : ℕ) → k_offset W m ≡ suc least → (last : ℕ) → last + k_offset W m ≡ last_bin W m → nat_abs (k +ℤ pos (k_offset W m)) ≤ last_bin W m
      go least l last h =
          let low : le_z (negsuc least) k ≡ true = rw l at (and_left (le_z (neg_ℤ (pos (k_offset W m))) k) (le_z k (sub_ℕ (last_bin W m) (k_offset W m))) e) in
          let sub : sub_ℕ (last_bin W m) (k_offset W m) ≡ pos last = rw (le-ltb (last_bin W m) (k_offset W m) order) (ap pos (let q : last_bin W m - k_offset W m ≡ last = omega arith in q)) in
          let high : le_z k (pos last) ≡ true = rw sub at (and_right (le_z (neg_ℤ (pos (k_offset W m))) k) (le_z k (sub_ℕ (last_bin W m) (k_offset W m))) e) in
          let r = lifted least last k low high in
          rw (l, r.1) (omega (arith, r.2))

  module _ (j : ℕ) (is : bin_answer W m k ≡ Some j) where
    allowed_is : (b : Bool) → allowed_k W m k ≡ b → allowed_k W m k ≡ true
    unfolding bin_answer
    allowed_is true e = e
    allowed_is false e = let z : None ≡ Some j = sym (ap (λ (b : Bool). cond b (Some (bin_of W m k)) None) e) ∙ is in cc

    pub allowed : allowed_k W m k ≡ true
    allowed = allowed_is (allowed_k W m k) refl

    pub bin_is : bin_of W m k ≡ j
    unfolding bin_answer
    bin_is = let z : Some (bin_of W m k) ≡ Some j = sym (ap (λ (b : Bool). cond b (Some (bin_of W m k)) None) allowed) ∙ is in cc

    -- a bin of an allowed k is not clipped
    pub unclipped : 0 < k_offset W m → k_offset W m ≤ last_bin W m → min j (last_bin W m) ≡ j
    unclipped some order = min-eq_left (rw bin_is at (bin_small some order allowed))

  pub refused_is : (b : Bool) → allowed_k W m k ≡ b → bin_answer W m k ≡ None → allowed_k W m k ≡ false
  unfolding bin_answer
  refused_is true e is = let z : Some (bin_of W m k) ≡ None = sym (ap (λ (b : Bool). cond b (Some (bin_of W m k)) None) e) ∙ is in cc
  refused_is false e is = e
