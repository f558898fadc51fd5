-- Powers, and numbers of some bits above and below one another: what shifts, masks and sums of a machine's words give. For any width of the word.
-- Assumes nothing.
use mathlib.Core.Path.{◌≡◌, sym, ap, ap₂, ◌∙◌, subst}
use Prim.Native.Nat.{ℕ, zero, suc, ◌+◌, ◌-◌, ◌*◌, ◌/◌, ◌%◌, ◌^◌, ◌≤◌, ◌<◌}
use native.Mathlib.Nat.{add_comm, add-zero, mul-zero, mul-suc, mul_assoc, mul-mod_left, pow-zero, pow-suc, mul-add-div_right, sub-add_cancel, add-sub_of_le, div-add-mod}
use native.Mathlib.Omega.{arith}
use lib.Bits.{bit_and, and_mask}
use lib.Pow.{pow_pos, pow-add, shl-shr, shr-shr, mod-pow-add, mod-mod-pow, field, high, low, ones_split, ones_lt}

pub pow_pow : (b w n : ℕ) → (b ^ w) ^ n ≡ b ^ (w * n)
pow_pow b w zero = pow-zero (b ^ w) ∙ sym (pow-zero b) ∙ ap (λ (k : ℕ). b ^ k) (sym (mul-zero w))
pow_pow b w (suc n) =
    pow-suc (b ^ w) n ∙ ap (λ (p : ℕ). p * b ^ w) (pow_pow b w n) ∙ sym (pow-add b (w * n) w) ∙ ap (λ (k : ℕ). b ^ k) (sym (mul-suc w n))

-- ---- a number above the k digits of another, and j digits to its word

pub join_low : (j k W acc c : ℕ) → j + k ≡ W → acc < 2 ^ k → acc + c * 2 ^ k % 2 ^ W ≡ (acc + c * 2 ^ k) % 2 ^ W
join_low j k W acc c e h =
    subst (λ (n : ℕ). acc + c * 2 ^ k % 2 ^ n ≡ (acc + c * 2 ^ k) % 2 ^ n) e
    (ap (λ (n : ℕ). acc + n) (mod-pow-add (c * 2 ^ k) j k ∙ ap₂ (λ (x y : ℕ). x % 2 ^ j * 2 ^ k + y) (shl-shr c k) (mul-mod_left c (2 ^ k)) ∙ add-zero (c % 2 ^ j * 2 ^ k))
    ∙ add_comm acc (c % 2 ^ j * 2 ^ k)
    ∙ sym (ap (λ (n : ℕ). n % 2 ^ (j + k)) (add_comm acc (c * 2 ^ k)) ∙ mod-pow-add (c * 2 ^ k + acc) j k
    ∙ ap₂ (λ (x y : ℕ). x % 2 ^ j * 2 ^ k + y) (high c k h) (low c k h)))

pub join_high : (j k W acc c : ℕ) → j + k ≡ W → acc < 2 ^ k → (acc + c * 2 ^ k) / 2 ^ W ≡ c / 2 ^ j
join_high j k W acc c e h =
    ap₂ (λ (x y : ℕ). x / 2 ^ y) (add_comm acc (c * 2 ^ k)) (sym e ∙ add_comm j k)
    ∙ sym (shr-shr (c * 2 ^ k + acc) k j) ∙ ap (λ (n : ℕ). n / 2 ^ j) (high c k h)

-- ---- the w bits of X from a bit on, of which a word of W bits has all

parts : (W skip w : ℕ) → skip + w ≤ W → W ≡ W - skip - w + w + skip
parts W skip w h = omega arith

pub field_in_word : (X skip w W : ℕ) → skip + w ≤ W → X % 2 ^ W / 2 ^ skip % 2 ^ w ≡ X / 2 ^ skip % 2 ^ w
field_in_word X skip w W h =
    let j : ℕ = W - skip - w in
    ap (λ (n : ℕ). X % 2 ^ n / 2 ^ skip % 2 ^ w) (parts W skip w h)
    ∙ ap (λ (n : ℕ). n % 2 ^ w) (field X (j + w) skip) ∙ mod-mod-pow (X / 2 ^ skip) j w

-- a mask of w ones, made of a word of ones, keeps the w lowest bits
pub masked : (x w W : ℕ) → w ≤ W → bit_and x ((2 ^ W - 1) / 2 ^ (W - w)) ≡ x % 2 ^ w
masked x w W h =
    ap (bit_and x)
    (ap (λ (n : ℕ). (2 ^ n - 1) / 2 ^ (W - w)) (sym (add-sub_of_le h))
    ∙ ap (λ (n : ℕ). n / 2 ^ (W - w)) (ones_split w (W - w)) ∙ high (2 ^ w - 1) (W - w) (ones_lt (W - w)))
    ∙ and_mask x w

-- the same bits where a byte b above the word of W bits has some of them
pub field_past_word : (X skip w W B : ℕ) → skip ≤ W → skip + w ≤ B + W
    → (X % 2 ^ W / 2 ^ skip + X / 2 ^ W % 2 ^ B * 2 ^ (W - skip)) % 2 ^ w ≡ X / 2 ^ skip % 2 ^ w
field_past_word X skip w W B h k =
    let b : ℕ = X / 2 ^ W % 2 ^ B in
    ap (λ (n : ℕ). n % 2 ^ w)
    (add_comm (X % 2 ^ W / 2 ^ skip) (b * 2 ^ (W - skip))
    ∙ sym (mul-add-div_right (pow_pos skip) (b * 2 ^ (W - skip)) (X % 2 ^ W))
    ∙ ap (λ (n : ℕ). (n + X % 2 ^ W) / 2 ^ skip)
    (mul_assoc b (2 ^ (W - skip)) (2 ^ skip) ∙ ap (λ (n : ℕ). b * n) (sym (pow-add 2 (W - skip) skip) ∙ ap (λ (n : ℕ). 2 ^ n) (sub-add_cancel h)))
    ∙ ap (λ (n : ℕ). n / 2 ^ skip) (sym (mod-pow-add X B W)))
    ∙ field_in_word X skip w (B + W) k

-- a bit's place in bytes
pub bit_place : (N bit : ℕ) → N / 256 ^ (bit / 8) / 2 ^ (bit % 8) ≡ N / 2 ^ bit
bit_place N bit =
    ap (λ (p : ℕ). N / p / 2 ^ (bit % 8)) (pow_pow 2 8 (bit / 8)) ∙ shr-shr N (8 * (bit / 8)) (bit % 8) ∙ ap (λ (k : ℕ). N / 2 ^ k) (div-add-mod bit 8)
