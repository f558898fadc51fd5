-- Blocks of 32 codes: eight codes read one after the other, and eights joined, as elements of any type that has the numbers.
-- Assumes nothing.
use mathlib.Core.Path.{◌≡◌, sym, ap, ap₂, ◌∙◌}
use mathlib.Core.List.{List, ◌++◌, map, append_assoc}
use Prim.Native.Nat.{ℕ, ◌+◌, ◌*◌, ◌/◌, ◌%◌, ◌^◌, ◌≤◌, ◌<◌}
use native.Mathlib.Nat.{mul_comm}
use native.Mathlib.Omega.{arith}
use lib.ListN.{length, take, drop, set, get_or, get_or-map}
use lib.Pow.{pow_pos, shr-shr}
use lib.Seq.{paste, take_at, drop_at, drop-drop}
use Rattle.std.proofs.lemmas.List.{length-map, map-append}
use Rattle.std.proofs.lemmas.List.Edits.{paste_all, paste_more}
use Rattle.blocks.specs.Bytes.{digits}
use Rattle.blocks.proofs.Law.Digits.{length_digits, digit_at, digits_append}
use Rattle.blocks.proofs.Law.Words.{pow_pow}

module _ {X : Type 0} (of : ℕ → X) (w n : ℕ) where
  -- k codes from a bit on, as elements
  abbrev pub elements : ℕ → ℕ → List X
  elements bit k = map of (digits (2 ^ w) k (n / 2 ^ bit))

  pub length_elements : (bit k : ℕ) → length (elements bit k) ≡ k
  length_elements bit k = length-map (digits (2 ^ w) k (n / 2 ^ bit)) of ∙ length_digits (2 ^ w) k (n / 2 ^ bit)

  element_at : (bit k i : ℕ) → i < k → of (n / 2 ^ (bit + i * w) % 2 ^ w) ≡ get_or (elements bit k) i (of 0)
  element_at bit k i h =
      ap of
      (ap (λ (b : ℕ). n / 2 ^ (bit + b) % 2 ^ w) (mul_comm i w)
      ∙ sym (digit_at (2 ^ w) (pow_pos w) k (n / 2 ^ bit) i h ∙ ap (λ (m : ℕ). m % 2 ^ w) (ap (λ (p : ℕ). n / 2 ^ bit / p) (pow_pow 2 w i) ∙ shr-shr n bit (w * i))))
      ∙ sym (get_or-map of (digits (2 ^ w) k (n / 2 ^ bit)) i 0)

  -- one code more behind i that are read
  pub next_code : (bit at i x : ℕ) (out next : List X) → i < 8 → at + 8 ≤ length out → x ≡ n / 2 ^ (bit + i * w) % 2 ^ w
      → next ≡ paste out at (elements bit 8) i → set next (at + i) (of x) ≡ paste out at (elements bit 8) (i + 1)
  next_code bit at i x out next h room e f =
      ap₂ (λ (xs : List X) (y : X). set xs (at + i) y) f (ap of e ∙ element_at bit 8 i h)
      ∙ paste_more out at (elements bit 8) i (of 0) (omega (arith, h, room)) (rw length_elements h)

  pub eight_codes : (bit at i : ℕ) (out next : List X) → i ≡ 8 → next ≡ paste out at (elements bit 8) i
      → next ≡ take at out ++ elements bit 8 ++ drop (at + 8) out
  eight_codes bit at i out next e f =
      f ∙ ap (paste out at (elements bit 8)) e ∙ paste_all out at (elements bit 8) 8 (sym (length_elements bit 8))
      ∙ sym (append_assoc (take at out) (elements bit 8) (drop (at + 8) out))

  -- eight more behind i that are read
  pub next_eight : (i bit : ℕ) (base cs next : List X) → bit ≡ 8 + i * w → cs ≡ elements 8 i ++ drop i base
      → next ≡ take i cs ++ elements bit 8 ++ drop (i + 8) cs → next ≡ elements 8 (i + 8) ++ drop (i + 8) base
  next_eight i bit base cs next place e f =
      let d = elements 8 i in
      let long : length d ≡ i = length_elements 8 i in
      let front : take i cs ≡ d = ap (take i) e ∙ take_at d (drop i base) i long in
      let back : drop (i + 8) cs ≡ drop (i + 8) base = sym (drop-drop 8 i cs) ∙ ap (drop 8) (ap (drop i) e ∙ drop_at d (drop i base) i long) ∙ drop-drop 8 i base in
      let mid : n / 2 ^ bit ≡ n / 2 ^ 8 / (2 ^ w) ^ i =
      ap (λ (k : ℕ). n / 2 ^ k) (place ∙ ap (λ (k : ℕ). 8 + k) (mul_comm i w)) ∙ sym (ap (λ (k : ℕ). n / 2 ^ 8 / k) (pow_pow 2 w i) ∙ shr-shr n 8 (w * i)) in
      f
      ∙ ap₂ (λ (xs ys : List X). xs ++ elements bit 8 ++ ys) front back
      ∙ ap (λ (k : ℕ). d ++ map of (digits (2 ^ w) 8 k) ++ drop (i + 8) base) mid
      ∙ ap (λ (xs : List X). xs ++ drop (i + 8) base)
      (sym (ap (map of) (digits_append (2 ^ w) (pow_pos w) i 8 (n / 2 ^ 8)) ∙ map-append of (digits (2 ^ w) i (n / 2 ^ 8)) (digits (2 ^ w) 8 (n / 2 ^ 8 / (2 ^ w) ^ i))))
