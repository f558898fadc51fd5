-- The laws of the signed view and its fold, once over W.
use Rattle.std.proofs.Common.{◌≡◌, ℕ, suc, ◌+◌, ◌-◌, ◌*◌, ◌/◌, ◌%◌, ◌^◌, ◌<◌, ◌≤◌, ◌⊎◌, ℤ, pos, negsuc, sym, refl, ap, ◌∙◌, inl, inr, mod-eq_of_lt, mul_comm, one-mul, zero-mul, arith, pow_pos, to_z, of_z, w32, le-ltb, lt-ltb, eq-eqb, ne_eqb}
use lib.Arith.{digits_div, digits_mod}
use lib.Bits.{bit_and, bit_xor, xor_add_and, xor_zero_r, and_mask}
use native.Mathlib.Nat.{div-eq_of_lt}
use Rattle.numbers.specs.Signed.{signed_view, folded, unfolded, bits_of}
use Rattle.bins.proofs.Law.Number.{le_or_lt, twice_half}

-- ---- there and back

pub unfolded_folded : (x : ℤ) → unfolded (folded x) ≡ x
unfolding unfolded folded
unfolded_folded (pos n) =
    let r : 2 * n % 2 ≡ 0 = omega arith in
    let q : 2 * n / 2 ≡ n = omega arith in
    rw (eq-eqb (2 * n % 2) 0 r, q)
unfolded_folded (negsuc n) =
    let r : (2 * n + 1) % 2 ≡ 1 = omega arith in
    let q : (2 * n + 1) / 2 ≡ n = omega arith in
    rw (ne_eqb ((2 * n + 1) % 2) 0 (λ e. omega arith), q)

pub folded_unfolded : (c : ℕ) → folded (unfolded c) ≡ c
unfolding unfolded folded
folded_unfolded c = go (le_or_lt (c % 2) 0)
  where
    go : (c % 2 ≤ 0) ⊎ (0 < c % 2) → folded (unfolded c) ≡ c
    go (inl h) = rw (eq-eqb (c % 2) 0 (omega arith)) (omega arith)
    go (inr h) = rw (ne_eqb (c % 2) 0 (λ e. omega arith)) (omega arith)

module _ (W : ℕ) (some : 0 < W) where
  pub bits_of_view : (s : ℕ) → s < 2 ^ W → bits_of W (signed_view W s) ≡ s
  unfolding bits_of signed_view
  bits_of_view s h = go (le_or_lt (2 ^ (W - 1)) s)
    where
      go : (2 ^ (W - 1) ≤ s) ⊎ (s < 2 ^ (W - 1)) → bits_of W (signed_view W s) ≡ s
      go (inl g) = rw (le-ltb s (2 ^ (W - 1)) g) (omega arith)
      go (inr g) = rw (lt-ltb s (2 ^ (W - 1)) g)

  -- what is below 2 ^ W as a code is within the signed range
  pub view_of_bits : (c : ℕ) → c < 2 ^ W → signed_view W (bits_of W (unfolded c)) ≡ unfolded c
  unfolding bits_of signed_view unfolded
  view_of_bits c h = go (le_or_lt (c % 2) 0)
    where
      T : 2 ^ W ≡ 2 ^ (W - 1) + 2 ^ (W - 1)
      T = twice_half W some

      go : (c % 2 ≤ 0) ⊎ (0 < c % 2) → signed_view W (bits_of W (unfolded c)) ≡ unfolded c
      go (inl g) = rw (eq-eqb (c % 2) 0 (omega arith)) (rw (lt-ltb (c / 2) (2 ^ (W - 1)) (omega (arith, T))))
      go (inr g) =
          rw (ne_eqb (c % 2) 0 (λ e. omega arith))
          (rw (le-ltb (2 ^ W - suc (c / 2)) (2 ^ (W - 1)) (omega (arith, T)))
          (ap negsuc (let e : 2 ^ W - suc (2 ^ W - suc (c / 2)) ≡ c / 2 = omega (arith, T) in e)))

  pub bits_below : (c : ℕ) → c < 2 ^ W → bits_of W (unfolded c) < 2 ^ W
  unfolding bits_of unfolded
  bits_below c h = go (le_or_lt (c % 2) 0)
    where
      go : (c % 2 ≤ 0) ⊎ (0 < c % 2) → bits_of W (unfolded c) < 2 ^ W
      go (inl g) = rw (eq-eqb (c % 2) 0 (omega arith)) (omega arith)
      go (inr g) = rw (ne_eqb (c % 2) 0 (λ e. omega arith)) (omega arith)

  pub folded_below : (s : ℕ) → s < 2 ^ W → folded (signed_view W s) < 2 ^ W
  unfolding folded signed_view
  folded_below s h = go (le_or_lt (2 ^ (W - 1)) s)
    where
      T : 2 ^ W ≡ 2 ^ (W - 1) + 2 ^ (W - 1)
      T = twice_half W some

      go : (2 ^ (W - 1) ≤ s) ⊎ (s < 2 ^ (W - 1)) → folded (signed_view W s) < 2 ^ W
      go (inl g) = rw (le-ltb s (2 ^ (W - 1)) g) (omega (arith, T))
      go (inr g) = rw (lt-ltb s (2 ^ (W - 1)) g) (omega (arith, T))

-- ---- the fold without a branch

-- every bit turned, or none
turned : (W a n : ℕ) → a < 2 ^ W → n ≡ 1 → bit_xor a (n * (2 ^ W - 1)) ≡ 2 ^ W - 1 - a
turned W a n h e =
    let one : n * (2 ^ W - 1) ≡ 2 ^ W - 1 = ap (λ (k : ℕ). k * (2 ^ W - 1)) e ∙ one-mul (2 ^ W - 1) in
    let s : bit_xor a (2 ^ W - 1) + bit_and a (2 ^ W - 1) * 2 ≡ a + (2 ^ W - 1) = xor_add_and a (2 ^ W - 1) in
    let t : bit_and a (2 ^ W - 1) ≡ a = and_mask a W ∙ mod-eq_of_lt h in
    ap (bit_xor a) one ∙ (let q : bit_xor a (2 ^ W - 1) ≡ 2 ^ W - 1 - a = omega (arith, s, t) in q)

unturned : (W a n : ℕ) → n ≡ 0 → bit_xor a (n * (2 ^ W - 1)) ≡ a
unturned W a n e = ap (bit_xor a) (ap (λ (k : ℕ). k * (2 ^ W - 1)) e ∙ zero-mul (2 ^ W - 1)) ∙ xor_zero_r a

module _ (W : ℕ) (some : 0 < W) where
  T_twice : 2 ^ W ≡ 2 ^ (W - 1) + 2 ^ (W - 1)
  T_twice = twice_half W some

  -- the highest bit of a word
  highest : (s : ℕ) → 2 ^ (W - 1) ≤ s → s < 2 ^ W → (s / 2 ^ (W - 1) ≡ 1) × (s % 2 ^ (W - 1) ≡ s - 2 ^ (W - 1))
  highest s g h =
      let e : 1 * 2 ^ (W - 1) + (s - 2 ^ (W - 1)) ≡ s = omega arith in
      let l : s - 2 ^ (W - 1) < 2 ^ (W - 1) = omega (arith, T_twice) in
      (ap (λ (x : ℕ). x / 2 ^ (W - 1)) (sym e) ∙ digits_div 1 l, ap (λ (x : ℕ). x % 2 ^ (W - 1)) (sym e) ∙ digits_mod 1 l)

  pub sign_fits : (s : ℕ) → s < 2 ^ W → s / 2 ^ (W - 1) * (2 ^ W - 1) < 2 ^ W
  sign_fits s h = go (le_or_lt (2 ^ (W - 1)) s)
    where
      go : (2 ^ (W - 1) ≤ s) ⊎ (s < 2 ^ (W - 1)) → s / 2 ^ (W - 1) * (2 ^ W - 1) < 2 ^ W
      go (inl g) = rw ((highest s g h).0) (omega (arith, pow_pos W))
      go (inr g) = rw (div-eq_of_lt g) (omega (arith, pow_pos W, zero-mul (2 ^ W - 1)))

  pub fold_by_bits : (s : ℕ) → s < 2 ^ W → bit_xor (s % 2 ^ (W - 1) * 2) (s / 2 ^ (W - 1) * (2 ^ W - 1)) ≡ folded (signed_view W s)
  unfolding signed_view folded
  fold_by_bits s h = go (le_or_lt (2 ^ (W - 1)) s)
    where
      go : (2 ^ (W - 1) ≤ s) ⊎ (s < 2 ^ (W - 1)) → bit_xor (s % 2 ^ (W - 1) * 2) (s / 2 ^ (W - 1) * (2 ^ W - 1)) ≡ folded (signed_view W s)
      go (inl g) =
          let r = (highest s g h).1 in
          turned W (s % 2 ^ (W - 1) * 2) (s / 2 ^ (W - 1)) (omega (arith, r, T_twice)) ((highest s g h).0)
          ∙ rw (le-ltb s (2 ^ (W - 1)) g) (omega (arith, r, T_twice))
      go (inr g) =
          unturned W (s % 2 ^ (W - 1) * 2) (s / 2 ^ (W - 1)) (div-eq_of_lt g)
          ∙ rw (lt-ltb s (2 ^ (W - 1)) g) (ap (λ (z : ℕ). z * 2) (mod-eq_of_lt g) ∙ mul_comm s 2)

  pub unfold_by_bits : (c : ℕ) → c < 2 ^ W → bit_xor (c / 2) (c % 2 * (2 ^ W - 1)) ≡ bits_of W (unfolded c)
  unfolding bits_of unfolded
  unfold_by_bits c h = go (le_or_lt (c % 2) 0)
    where
      go : (c % 2 ≤ 0) ⊎ (0 < c % 2) → bit_xor (c / 2) (c % 2 * (2 ^ W - 1)) ≡ bits_of W (unfolded c)
      go (inl g) = unturned W (c / 2) (c % 2) (omega arith) ∙ rw (eq-eqb (c % 2) 0 (omega arith)) refl
      go (inr g) =
          turned W (c / 2) (c % 2) (omega arith) (omega arith)
          ∙ rw (ne_eqb (c % 2) 0 (λ e. omega arith)) (let e : 2 ^ W - 1 - c / 2 ≡ 2 ^ W - suc (c / 2) = omega arith in e)

-- ---- the signed view of a word, and the bits of a signed number, as `Word` promises them

module _ (W : ℕ) (some : 0 < W) where
  pub view_told : (s : ℕ) (x : ℤ) → (s < 2 ^ (W - 1) → x ≡ pos s) → (2 ^ (W - 1) ≤ s → x ≡ negsuc (2 ^ W - suc s)) → x ≡ signed_view W s
  unfolding signed_view
  view_told s x low high = go (le_or_lt (2 ^ (W - 1)) s)
    where
      go : (2 ^ (W - 1) ≤ s) ⊎ (s < 2 ^ (W - 1)) → x ≡ signed_view W s
      go (inl g) = high g ∙ sym (rw (le-ltb s (2 ^ (W - 1)) g) refl)
      go (inr g) = low g ∙ sym (rw (lt-ltb s (2 ^ (W - 1)) g) refl)

  pub bits_told : (x : ℤ) (s : ℕ) → ((n : ℕ) → x ≡ pos n → (n < 2 ^ (W - 1)) × (s ≡ n)) → ((n : ℕ) → x ≡ negsuc n → (n < 2 ^ (W - 1)) × (s ≡ 2 ^ W - suc n))
      → (s ≡ bits_of W x) × (signed_view W s ≡ x)
  unfolding bits_of signed_view
  bits_told (pos n) s natural below =
      let p = natural n refl in
      (p.1, rw p.1 (rw (lt-ltb n (2 ^ (W - 1)) p.0) refl))
  bits_told (negsuc n) s natural below =
      let p = below n refl in
      let far : 2 ^ (W - 1) ≤ 2 ^ W - suc n = omega (arith, twice_half W some, p.0) in
      (p.1, rw p.1 (rw (le-ltb (2 ^ W - suc n) (2 ^ (W - 1)) far) (ap negsuc (let e : 2 ^ W - suc (2 ^ W - suc n) ≡ n = omega (arith, twice_half W some, p.0) in e))))

-- ---- the machine's own signed numbers of 32 bits

pub bits_are : (x : ℤ) → of_z w32 x ≡ bits_of 32 x
unfolding bits_of
bits_are (pos n) = refl
bits_are (negsuc n) = refl

pub view_is : (s : ℕ) → to_z w32 s ≡ signed_view 32 s
unfolding signed_view
view_is s = refl
