-- Reading a group's codes: where they stand in the number that the bytes spell, and zeros behind the bytes.
-- Assumes nothing.
use mathlib.Core.Path.{◌≡◌, refl, sym, ap, ap₂, ◌∙◌}
use mathlib.Core.List.{List, [], ◌∷◌, ◌++◌}
use Prim.Native.Nat.{ℕ, zero, suc, ◌+◌, ◌-◌, ◌*◌, ◌/◌, ◌%◌, ◌^◌, ◌≤◌, ◌<◌}
use native.Mathlib.Nat.{mod-one, sub-add_cancel, not-suc-le-zero, le_of_suc-le-suc}
use native.Mathlib.Numerals.{add-one}
use lib.ListN.{length, take, drop, set, get_or, replicate}
use lib.Pow.{pow_pos, shr-shr, mod-mod-pow}
use lib.Seq.{take-suc-set}
use Rattle.blocks.specs.Bytes.{Below, number, digits}
use Rattle.stream.specs.Group.{bytes_for, given_width, group_number, group_codes}
use Rattle.blocks.proofs.Law.Digits.{byte, number_part, digits_mod, digits_snoc}
use Rattle.stream.proofs.Law.Group.RoundTrip.{bytes_hold}
use Rattle.blocks.proofs.Law.Words.{pow_pow}

-- ---- the codes one after the other, from the first bit behind the width byte on

-- the padding and what follows the group do not count
pub codes_from : (n : ℕ) (s : List ℕ) → Below 256 s → group_codes n s ≡ digits (2 ^ given_width s) n (number 256 s / 256)
unfolding group_codes group_number
codes_from n s bytes =
    let w : ℕ = given_width s in
    let M : ℕ = number 256 s / 256 in
    let k : ℕ = 8 * bytes_for w n - w * n in
    sym (digits_mod (2 ^ w) (pow_pos w) n (number 256 (take (bytes_for w n) (drop 1 s))))
    ∙ ap (digits (2 ^ w) n)
    (ap (λ (x : ℕ). x % (2 ^ w) ^ n) (number_part 256 byte 1 (bytes_for w n) s bytes)
    ∙ ap₂ (λ (p q : ℕ). M % p % q) (pow_pow 2 8 (bytes_for w n) ∙ ap (λ (x : ℕ). 2 ^ x) (sym (sub-add_cancel (bytes_hold w n)))) (pow_pow 2 w n)
    ∙ mod-mod-pow M k (w * n) ∙ ap (λ (p : ℕ). M % p) (sym (pow_pow 2 w n)))
    ∙ digits_mod (2 ^ w) (pow_pos w) n M

pub one_code : (s codes : List ℕ) (w i : ℕ) → i < length codes → take i codes ≡ digits (2 ^ w) i (number 256 s / 256)
    → take (i + 1) (set codes i (number 256 s / 2 ^ (8 + w * i) % 2 ^ w)) ≡ digits (2 ^ w) (i + 1) (number 256 s / 256)
one_code s codes w i h e =
    let v : ℕ = number 256 s / 2 ^ (8 + w * i) % 2 ^ w in
    ap (λ (k : ℕ). take k (set codes i v)) (add-one i) ∙ take-suc-set codes i v h
    ∙ ap₂ (λ (r : List ℕ) (x : ℕ). r ++ (x ∷ [])) e
    (ap (λ (x : ℕ). x % 2 ^ w) (sym (shr-shr (number 256 s) 8 (w * i)) ∙ ap (λ (p : ℕ). number 256 s / 256 / p) (sym (pow_pow 2 w i))))
    ∙ sym (digits_snoc (2 ^ w) (pow_pos w) i (number 256 s / 256))

-- a code of no bits is 0
pub no_bits : (n x : ℕ) → digits 1 n x ≡ replicate n 0
unfolding digits
no_bits zero x = refl
no_bits (suc n) x = ap₂ (λ (y : ℕ) (r : List ℕ). y ∷ r) (mod-one x) (no_bits n (x / 1))

-- so the codes of a group of no bits are zeros
pub no_codes : (n : ℕ) (s : List ℕ) → get_or s 0 0 ≡ 0 → group_codes n s ≡ replicate n 0
unfolding group_codes given_width
no_codes n s e = ap (λ (w : ℕ). digits (2 ^ w) n (group_number n s)) e ∙ no_bits n (group_number n s)

pub take_replicate : (n m a : ℕ) → n ≤ m → take n (replicate m a) ≡ replicate n a
take_replicate zero m a h = refl
take_replicate (suc n) zero a h = absurd (not-suc-le-zero h)
take_replicate (suc n) (suc m) a h = ap (λ (r : List ℕ). a ∷ r) (take_replicate n m a (le_of_suc-le-suc h))
