-- A group is checked: the bit lengths of its codes, four at a time or one by one, the highest bits of its last byte, and what its width says of them.
-- Assumes nothing.
use Rattle.std.specs.Prelude.{Some, None}
use mathlib.Core.Path.{◌≡◌, refl, sym, ap, ap₂, ◌∙◌, subst, subst⁻¹}
use mathlib.Core.Bool.{Bool, true, false, cond}
use mathlib.Core.List.{List}
use mathlib.Core.Logic.{◌⊎◌, inl, inr}
use Prim.Native.Nat.{ℕ, suc, ◌+◌, ◌-◌, ◌*◌, ◌/◌, ◌%◌, ◌^◌, ◌≤◌, ◌<◌, max, zero-le}
use native.Mathlib.Nat.{zero-lt-suc, mod-lt, div-eq_of_lt, div-lt_iff_lt-mul, one-mul, add-sub_of_le, add_comm, sub-add_cancel, mul-add, mul_comm, two-pow-succ, lt_of_lt_of_le}
use native.Mathlib.Omega.{arith}
use lib.Bits.{bit_and, bit_or, or_shr, or_mod}
use lib.Dec.{eqb, lit<}
use lib.Ieee.{size}
use lib.Ieee.Digits.{size-lt}
use lib.ListN.{length, take, drop, get_or}
use lib.Pow.{pow_pos, pow_mono, shr-shr, shl_exact, field}
use Rattle.blocks.specs.Bytes.{Below, number}
use Rattle.stream.specs.Group.{group_answer}
use Rattle.stream.specs.Group.{bytes_for, width_of, given_width, group_length, group_number, group_codes, good_group}
use Rattle.stream.specs.Block.{block_codes}
use Rattle.stream.specs.Theorem.{Limited}
use Rattle.blocks.proofs.Law.Digits.{byte, everywhere, number_at, number_part, digit_at}
use Rattle.blocks.proofs.Law.Truth.{le_or_lt}
use Rattle.stream.proofs.Law.Group.RoundTrip.{bytes_none, bytes_tight, width_least, codes_below}
use Rattle.stream.proofs.Law.Group.Exact.{Good, good_true, true_good}
use Rattle.stream.proofs.Law.Group.Width.{size_at, size_four}
use borrow.Author.Tests.{eqb-true, eqb-false}
use Rattle.blocks.proofs.Law.Reading.{in_word}
use Rattle.blocks.proofs.Law.Words.{pow_pow, masked}

-- ---- the smallest width

-- codes of which none is as wide as w have a smaller width
pub flat : (w : ℕ) (cs : List ℕ) → 1 ≤ w → ((i : ℕ) → i < length cs → size (get_or cs i 0) < w) → w ≡ width_of cs → ⊥
flat w cs pos short e =
    omega (arith, width_least (w - 1) cs (everywhere (λ (x : ℕ). x < 2 ^ (w - 1)) cs (pow_pos (w - 1)) below))
  where
    below : (i : ℕ) → i < length cs → get_or cs i 0 < 2 ^ (w - 1)
    below i h = lt_of_lt_of_le (size-lt (get_or cs i 0)) (pow_mono (let less : size (get_or cs i 0) ≤ w - 1 = omega (arith, short i h) in less))

-- an OR has at some bits the OR of what the two have there
or_field : (a b p w : ℕ) → bit_or a b / 2 ^ p % 2 ^ w ≡ bit_or (a / 2 ^ p % 2 ^ w) (b / 2 ^ p % 2 ^ w)
or_field a b p w = ap (λ (x : ℕ). x % 2 ^ w) (or_shr a b p) ∙ or_mod (a / 2 ^ p) (b / 2 ^ p) w

module _ (s : List ℕ) (n w : ℕ) (bytes : Below 256 s) where
  -- code j of a block, by the bit that it starts at
  code_is : (j bit : ℕ) → j < n → bit ≡ 8 + w * j → number 256 s / 2 ^ bit % 2 ^ w ≡ get_or (block_codes w n s) j 0
  unfolding block_codes
  code_is j bit there at =
      sym (digit_at (2 ^ w) (pow_pos w) n (number 256 s / 256) j there
      ∙ ap (λ (m : ℕ). m % 2 ^ w)
      (ap (λ (p : ℕ). number 256 s / 256 / p) (pow_pow 2 w j) ∙ shr-shr (number 256 s) 8 (w * j) ∙ ap (λ (k : ℕ). number 256 s / 2 ^ k) (sym at)))

  -- and in the word that starts at its byte
  code_loaded : (j byte skip x : ℕ) → j < n → w ≤ 64 → skip < 8 → skip + w ≤ 64 → 8 * byte + skip ≡ 8 + w * j → x ≡ number 256 (take 8 (drop byte s))
      → x / 2 ^ skip % 2 ^ w ≡ get_or (block_codes w n s) j 0
  code_loaded j byte skip x there most near fits at e =
      let bit : ℕ = 8 * byte + skip in
      let same : skip ≡ bit % 8 = omega arith in
      let first : byte ≡ bit / 8 = omega arith in
      ap (λ (y : ℕ). y / 2 ^ skip % 2 ^ w) e
      ∙ ap₂ (λ (q p : ℕ). number 256 (take 8 (drop q s)) / 2 ^ p % 2 ^ w) first same
      ∙ in_word s bytes bit w most (omega arith)
      ∙ code_is j bit there at

-- Four codes of a full block that are eight apart: eight codes are w whole bytes, so these start at the same bit of bytes that are w apart.
module _ (s : List ℕ) (i w x₀ x₁ x₂ x₃ : ℕ) (bytes : Below 256 s) (most : w ≤ 64) (there : i < 8) where
  abbrev bit : ℕ
  bit = 8 + i * w

  abbrev code : ℕ → ℕ
  code j = get_or (block_codes w 32 s) j 0

  abbrev Joined : ℕ → Type 0
  Joined x = x ≡ bit_or (bit_or (code i) (code (i + 8))) (bit_or (code (i + 16)) (code (i + 24)))

  place : (d : ℕ) → bit + w * d ≡ 8 + w * (i + d)
  place d = omega (arith, mul-add w i d, mul_comm w i)

  -- read one by one
  pub four_read : x₀ ≡ number 256 s / 2 ^ bit % 2 ^ w → x₁ ≡ number 256 s / 2 ^ (bit + 8 * w) % 2 ^ w
      → x₂ ≡ number 256 s / 2 ^ (bit + 16 * w) % 2 ^ w → x₃ ≡ number 256 s / 2 ^ (bit + 24 * w) % 2 ^ w → Joined (bit_or (bit_or x₀ x₁) (bit_or x₂ x₃))
  four_read e₀ e₁ e₂ e₃ =
      ap₂ bit_or
      (ap₂ bit_or (e₀ ∙ code_is s 32 w bytes i bit (omega arith) (omega (arith, mul_comm w i)))
      (e₁ ∙ code_is s 32 w bytes (i + 8) (bit + 8 * w) (omega arith) (omega (arith, place 8))))
      (ap₂ bit_or (e₂ ∙ code_is s 32 w bytes (i + 16) (bit + 16 * w) (omega arith) (omega (arith, place 16)))
      (e₃ ∙ code_is s 32 w bytes (i + 24) (bit + 24 * w) (omega arith) (omega (arith, place 24))))

  -- where eight bytes hold a code: the OR of the words, shifted and masked once
  pub four_loaded : bit % 8 + w ≤ 64 → x₀ ≡ number 256 (take 8 (drop (bit / 8) s)) → x₁ ≡ number 256 (take 8 (drop (bit / 8 + w) s))
      → x₂ ≡ number 256 (take 8 (drop (bit / 8 + 2 * w) s)) → x₃ ≡ number 256 (take 8 (drop (bit / 8 + 3 * w) s))
      → Joined (bit_and (bit_or (bit_or x₀ x₁) (bit_or x₂ x₃) / 2 ^ (bit % 8)) ((2 ^ 64 - 1) / 2 ^ (64 - w)))
  four_loaded fits e₀ e₁ e₂ e₃ =
      let skip : ℕ = bit % 8 in
      let near : skip < 8 = mod-lt bit (zero-lt-suc 7) in
      masked (bit_or (bit_or x₀ x₁) (bit_or x₂ x₃) / 2 ^ skip) w 64 most
      ∙ or_field (bit_or x₀ x₁) (bit_or x₂ x₃) skip w
      ∙ ap₂ bit_or
      (or_field x₀ x₁ skip w
      ∙ ap₂ bit_or (code_loaded s 32 w bytes i (bit / 8) skip x₀ (omega arith) most near fits (omega (arith, mul_comm w i)) e₀)
      (code_loaded s 32 w bytes (i + 8) (bit / 8 + w) skip x₁ (omega arith) most near fits (omega (arith, place 8)) e₁))
      (or_field x₂ x₃ skip w
      ∙ ap₂ bit_or (code_loaded s 32 w bytes (i + 16) (bit / 8 + 2 * w) skip x₂ (omega arith) most near fits (omega (arith, place 16)) e₂)
      (code_loaded s 32 w bytes (i + 24) (bit / 8 + 3 * w) skip x₃ (omega arith) most near fits (omega (arith, place 24)) e₃))

-- what holds of four indices that are eight apart, from each of the first eight on, holds of the first 32
abbrev pub Four : (ℕ → Type 0) → ℕ → Type 0
Four P k = P k × P (k + 8) × P (k + 16) × P (k + 24)

pub four_all : (P : ℕ → Type 0) → ((k : ℕ) → k < 8 → Four P k) → (k : ℕ) → k < 32 → P k
four_all P f k h = part (le_or_lt 8 k) (le_or_lt 16 k) (le_or_lt 24 k)
  where
    part : (8 ≤ k) ⊎ (k < 8) → (16 ≤ k) ⊎ (k < 16) → (24 ≤ k) ⊎ (k < 24) → P k
    part (inr l) y z = (f k l).0
    part (inl g) (inr l) z = subst P (sub-add_cancel g) (f (k - 8) (omega arith)).1
    part (inl x) (inl g) (inr l) = subst P (sub-add_cancel g) (f (k - 16) (omega arith)).2
    part (inl x) (inl y) (inl g) = subst P (sub-add_cancel g) (f (k - 24) (omega arith)).3

-- code j is not as wide as w
abbrev pub Short : List ℕ → ℕ → ℕ → Type 0
Short cs w j = size (get_or cs j 0) < w

-- the OR of the four from code i on
abbrev pub four_or : List ℕ → ℕ → ℕ
four_or cs i = bit_or (bit_or (get_or cs i 0) (get_or cs (i + 8) 0)) (bit_or (get_or cs (i + 16) 0) (get_or cs (i + 24) 0))

-- it is as wide as the widest of the four, so no wider than the codes, and these no wider than w
module _ (cs : List ℕ) (w i : ℕ) (most : width_of cs ≤ w) where
  widest : size (four_or cs i)
      ≡ max (max (size (get_or cs i 0)) (size (get_or cs (i + 8) 0))) (max (size (get_or cs (i + 16) 0)) (size (get_or cs (i + 24) 0)))
  widest = size_four (get_or cs i 0) (get_or cs (i + 8) 0) (get_or cs (i + 16) 0) (get_or cs (i + 24) 0)

  no_wider : size (four_or cs i) ≤ width_of cs
  no_wider = omega (arith, widest, size_at cs i, size_at cs (i + 8), size_at cs (i + 16), size_at cs (i + 24))

  pub four_wide : eqb (size (four_or cs i)) w ≡ true → w ≡ width_of cs
  four_wide e = omega (arith, eqb-true (size (four_or cs i)) w e, no_wider, most)

  pub four_short : eqb (size (four_or cs i)) w ≡ false → Four (Short cs w) i
  four_short e =
      let less : size (four_or cs i) < w = omega (arith, eqb-false (size (four_or cs i)) w e, no_wider, most) in
      (omega (arith, widest), omega (arith, widest), omega (arith, widest), omega (arith, widest))

-- ---- the padding

pub padding : (s : List ℕ) (n w : ℕ) → Below 256 s → w ≡ given_width s
    → group_number n s / 2 ^ (w * n) ≡ get_or s (bytes_for w n) 0 / 2 ^ (8 + w * n - 8 * bytes_for w n)
unfolding group_number
padding s n w bytes is =
    let N : ℕ = number 256 s in
    let B : ℕ = bytes_for w n in
    ap (λ (m : ℕ). m / 2 ^ (w * n))
    (ap (λ (k : ℕ). number 256 (take (bytes_for k n) (drop 1 s))) (sym is)
    ∙ number_part 256 byte 1 B s bytes ∙ ap (λ (p : ℕ). N / 256 % p) (pow_pow 2 8 B) ∙ sym (field N (8 * B) 8))
    ∙ shr-shr (N % 2 ^ (8 * B + 8)) 8 (w * n)
    ∙ ap₂ (λ (j k : ℕ). N % 2 ^ j / 2 ^ k) (add_comm (8 * B) 8) (sym (add-sub_of_le (bytes_tight w n)))
    ∙ sym (shr-shr (N % 2 ^ (8 + 8 * B)) (8 * B) (8 + w * n - 8 * B))
    ∙ ap (λ (m : ℕ). m / 2 ^ (8 + w * n - 8 * B))
    (field N 8 (8 * B) ∙ ap (λ (p : ℕ). N / p % 256) (sym (pow_pow 2 8 B)) ∙ sym (number_at 256 byte s B bytes))

pub unpadded_zero : (n w : ℕ) (s : List ℕ) → w ≡ given_width s → group_number n s < 2 ^ (given_width s * n) → group_number n s / 2 ^ (w * n) ≡ 0
unpadded_zero n w s is h = ap (λ (k : ℕ). group_number n s / 2 ^ (k * n)) is ∙ div-eq_of_lt h

pub zero_unpadded : (n w : ℕ) (s : List ℕ) → w ≡ given_width s → group_number n s / 2 ^ (w * n) ≡ 0 → group_number n s < 2 ^ (given_width s * n)
zero_unpadded n w s is e =
    subst (λ (k : ℕ). group_number n s < 2 ^ (k * n)) is
    (rw one-mul at ((div-lt_iff_lt-mul (pow_pos (w * n))).0 (subst⁻¹ (λ (m : ℕ). m < 1) e (zero-lt-suc 0))))

-- ---- the limit

-- the code's `1 << (w - 1)`
pub high_one : (w : ℕ) → 1 ≤ w → w ≤ 64 → 1 * 2 ^ (w - 1) % 2 ^ 64 ≡ 2 ^ (w - 1)
high_one w pos most = shl_exact 1 (w - 1) 64 (lit< tt) (omega arith) ∙ one-mul (2 ^ (w - 1))

pub narrow_limited : (w U : ℕ) (cs : List ℕ) → 1 ≤ w → Below (2 ^ w) cs → 2 ^ (w - 1) - 1 ≤ U → Limited U cs
narrow_limited w U cs pos below h i =
    omega (arith, below i, two-pow-succ (w - 1), ap (λ (k : ℕ). 2 ^ k) (suc_pred w pos), pow_pos (w - 1))
  where
    suc_pred : (w : ℕ) → 1 ≤ w → suc (w - 1) ≡ w
    suc_pred w pos = omega arith

-- ---- the answers

pub untrue : (b : Bool) → (b ≡ true → ⊥) → b ≡ false
untrue true f = absurd (f refl)
untrue false f = refl

pub bad_answer : {W U n : ℕ} {s : List ℕ} → (Good W U n s → ⊥) → None ≡ group_answer W U n s
unfolding group_answer
bad_answer {W = W} {U = U} {n = n} {s = s} h =
    ap (λ (b : Bool). cond b (Some (group_length n s)) None) (sym (untrue (good_group W U n s) (λ e. h (true_good W U n s e))))

pub good_answer : {W U n : ℕ} {s : List ℕ} (k : ℕ) → Good W U n s → k ≡ group_length n s → Some k ≡ group_answer W U n s
unfolding group_answer
good_answer {n = n} {s = s} k g e =
    ap Some e ∙ ap (λ (b : Bool). cond b (Some (group_length n s)) None) (sym (good_true g))

-- a group of width 0 is its first byte alone
module _ (n : ℕ) (s : List ℕ) (none : given_width s ≡ 0) where
  no_bytes : bytes_for (given_width s) n ≡ 0
  no_bytes = ap (λ (w : ℕ). bytes_for w n) none ∙ bytes_none n

  pub zero_length : group_length n s ≡ 1
  unfolding group_length
  zero_length = ap suc no_bytes

  no_number : group_number n s ≡ 0
  unfolding group_number number
  no_number = ap (λ (k : ℕ). number 256 (take k (drop 1 s))) no_bytes

  pub zero_good : (W U : ℕ) → 1 ≤ length s → Good W U n s
  zero_good W U h = record {
    wide = rw none zero-le;
    whole = rw zero_length h;
    smallest = omega (arith, width_least (given_width s) (group_codes n s) (codes_below n s));
    unpadded = rw no_number (pow_pos (given_width s * n));
    limited = λ i. omega (arith, rw none at (codes_below n s i));
  }
