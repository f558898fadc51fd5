-- The tolerance exponent k, a signed number, against the smallest and the largest allowed: once over the two limits.
-- The smallest is -(least + 1) and the largest is `last`.
use Rattle.std.proofs.Common.{◌≡◌, ℕ, suc, ◌+◌, ◌-◌, ◌^◌, ◌<◌, ◌≤◌, true, false, not, T, ltb, leb, ◌⊎◌, ℤ, pos, negsuc, ◌+ℤ◌, nat_abs, sym, refl, ap, ◌∙◌, inl, inr, le_antisymm, arith, leb→le, to_z-of_z, Fits, SFits, to_z, of_z, le-ltb, lt-ltb, le-leb, leb-true}
use borrow.Author.Tests.{lt-leb}
use lib.IntN.{sub_ℕ}
use lib.Signed.{le_z, lt_z, non_neg}
use mir.Syntax.{Width}
use mir.Val.{hbits}
use Rattle.bins.proofs.Law.Number.{le_or_lt}
use Rattle.bins.proofs.Law.Machine.{cast_fits}

-- one test is the other, refused
leb_not : (a b : ℕ) → leb b a ≡ not (ltb a b)
leb_not a b = go (le_or_lt b a)
  where
    go : (b ≤ a) ⊎ (a < b) → leb b a ≡ not (ltb a b)
    go (inl h) = le-leb b a h ∙ sym (ap not (le-ltb a b h))
    go (inr h) = lt-leb b a h ∙ sym (ap not (lt-ltb a b h))

int_le_not : (a b : ℤ) → le_z b a ≡ not (lt_z a b)
int_le_not (pos a) (pos b) = leb_not a b
int_le_not (pos a) (negsuc b) = refl
int_le_not (negsuc a) (pos b) = refl
int_le_not (negsuc a) (negsuc b) = leb_not b a

-- two that are each not above the other are equal
pub int_le_both : (a b : ℤ) → T (le_z a b) → T (le_z b a) → a ≡ b
int_le_both (pos a) (pos b) h l = ap pos (le_antisymm (leb→le a b h) (leb→le b a l))
int_le_both (pos a) (negsuc b) h l = absurd h
int_le_both (negsuc a) (pos b) h l = absurd l
int_le_both (negsuc a) (negsuc b) h l = ap negsuc (le_antisymm (leb→le a b l) (leb→le b a h))

module _ (w : Width) (k : ℤ) (f : SFits w k) (least last : ℕ) where
  pub too_low : lt_z (to_z w (of_z w k)) (negsuc least) ≡ true → le_z (negsuc least) k ≡ false
  too_low t = int_le_not k (negsuc least) ∙ ap not (rw (to_z-of_z f) at t)

  pub low_enough : lt_z (to_z w (of_z w k)) (negsuc least) ≡ false → le_z (negsuc least) k ≡ true
  low_enough t = int_le_not k (negsuc least) ∙ ap not (rw (to_z-of_z f) at t)

  pub too_high : lt_z (pos last) (to_z w (of_z w k)) ≡ true → le_z k (pos last) ≡ false
  too_high t = int_le_not (pos last) k ∙ ap not (rw (to_z-of_z f) at t)

  pub high_enough : lt_z (pos last) (to_z w (of_z w k)) ≡ false → le_z k (pos last) ≡ true
  high_enough t = int_le_not (pos last) k ∙ ap not (rw (to_z-of_z f) at t)

-- ---- bins and exponents

module _ (L : ℕ) where
  sub_low : (i : ℕ) → i < L → sub_ℕ i L ≡ negsuc (L - suc i)
  sub_low i h = rw (lt-ltb i L h)

  pub sub_high : (i : ℕ) → L ≤ i → sub_ℕ i L ≡ pos (i - L)
  sub_high i h = rw (le-ltb i L h)

  -- larger bins have larger exponents
  pub sub_mono : (i j : ℕ) → i ≤ j → le_z (sub_ℕ i L) (sub_ℕ j L) ≡ true
  sub_mono i j h = go (le_or_lt L i) (le_or_lt L j)
    where
      go : (L ≤ i) ⊎ (i < L) → (L ≤ j) ⊎ (j < L) → le_z (sub_ℕ i L) (sub_ℕ j L) ≡ true
      go (inl a) (inl b) = rw (sub_high i a, sub_high j b) (le-leb (i - L) (j - L) (omega arith))
      go (inl a) (inr b) = absurd (let z : L ≤ j = omega arith in omega arith)
      go (inr a) (inl b) = rw (sub_low i a, sub_high j b)
      go (inr a) (inr b) = rw (sub_low i a, sub_low j b) (le-leb (L - suc j) (L - suc i) (omega arith))

  -- the bin of an exponent of a bin
  pub add_sub : (i : ℕ) → sub_ℕ i L +ℤ pos L ≡ pos i
  add_sub i = go (le_or_lt L i)
    where
      go : (L ≤ i) ⊎ (i < L) → sub_ℕ i L +ℤ pos L ≡ pos i
      go (inl a) = rw (sub_high i a) (ap pos (let e : i - L + L ≡ i = omega arith in e))
      go (inr a) =
          rw (sub_low i a)
          (rw (le-ltb L (suc (L - suc i)) (omega arith)) (ap pos (let e : L - suc (L - suc i) ≡ i = omega arith in e)))

  -- and counted from a smaller k than the bin is
  pub add_sub_more : (i M : ℕ) → L ≤ M → nat_abs (sub_ℕ i L +ℤ pos M) ≡ i + (M - L)
  add_sub_more i M h = go (le_or_lt L i)
    where
      go : (L ≤ i) ⊎ (i < L) → nat_abs (sub_ℕ i L +ℤ pos M) ≡ i + (M - L)
      go (inl a) = rw (sub_high i a) (let e : i - L + M ≡ i + (M - L) = omega arith in e)
      go (inr a) =
          rw (sub_low i a)
          (rw (le-ltb M (suc (L - suc i)) (omega arith)) (let e : M - suc (L - suc i) ≡ i + (M - L) = omega arith in e))

-- the exponent of the bin of a k that is not below the smallest
pub sub_add : (least : ℕ) (k : ℤ) → le_z (negsuc least) k ≡ true → sub_ℕ (nat_abs (k +ℤ pos (suc least))) (suc least) ≡ k
sub_add least (pos a) l = sub_high (suc least) (a + suc least) (omega arith) ∙ ap pos (let e : a + suc least - suc least ≡ a = omega arith in e)
sub_add least (negsuc a) l =
    let h : a ≤ least = leb-true a least l in
    rw (le-ltb (suc least) (suc a) (omega arith))
    (sub_low (suc least) (suc least - suc a) (omega arith) ∙ ap negsuc (let e : suc least - suc (suc least - suc a) ≡ a = omega arith in e))

-- between the limits k + least + 1 is natural
pub lifted : (least last : ℕ) (k : ℤ) → le_z (negsuc least) k ≡ true → le_z k (pos last) ≡ true → (n : ℕ) × (k +ℤ pos (suc least) ≡ pos n) × (n ≤ last + suc least)
lifted least last (pos n) l h = (n + suc least, refl, omega (arith, leb-true n last h))
lifted least last (negsuc n) l h =
    (suc least - suc n, rw (le-ltb (suc least) (suc n) (omega (arith, leb-true n least l))), omega arith)

module _ (w : Width) (k : ℤ) (f : SFits w k) (least last : ℕ) (l : le_z (negsuc least) k ≡ true) (h : le_z k (pos last) ≡ true)
    (room : last + suc least < 2 ^ hbits w) where
  lift : (n : ℕ) × (k +ℤ pos (suc least) ≡ pos n) × (n ≤ last + suc least)
  lift = lifted least last k l h

  pub sum_fits : SFits w (to_z w (of_z w k) +ℤ pos (suc least))
  sum_fits = rw (to_z-of_z f, lift.1) (record { sfits = omega (arith, lift.2) })

  sum_is : to_z w (of_z w (to_z w (of_z w k) +ℤ pos (suc least))) ≡ k +ℤ pos (suc least)
  sum_is = to_z-of_z sum_fits ∙ ap (λ (z : ℤ). z +ℤ pos (suc least)) (to_z-of_z f)

  pub sum_cast : T (non_neg (to_z w (of_z w (to_z w (of_z w k) +ℤ pos (suc least))))) × Fits w (nat_abs (to_z w (of_z w (to_z w (of_z w k) +ℤ pos (suc least)))))
  sum_cast = cast_fits w _ lift.0 (sum_is ∙ lift.1) (omega (arith, lift.2))

  pub sum_bin : nat_abs (to_z w (of_z w (to_z w (of_z w k) +ℤ pos (suc least)))) ≡ nat_abs (k +ℤ pos (suc least))
  sum_bin = ap nat_abs sum_is
