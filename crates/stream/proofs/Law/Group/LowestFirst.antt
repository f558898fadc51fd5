-- Document 01, word for word: "the codes, w bits each, lowest bit first, filling each byte from its lowest bit, with zero bits to the next
-- byte". Bit by bit, the bytes of `packed` are the bits of the codes and then zeros.
-- Assumes nothing.
use mathlib.Core.Path.{◌≡◌, refl, sym, ap, ap₂, ◌∙◌}
use mathlib.Core.List.{List, [], ◌∷◌, ◌++◌}
use Prim.Native.Nat.{ℕ, zero, suc, ◌+◌, ◌-◌, ◌*◌, ◌^◌, ◌<◌}
use native.Mathlib.Nat.{add_comm, mul-zero, mul-suc, zero-lt-suc, add-sub_of_le, mod-eq_of_lt}
use lib.ListN.{length, replicate, length-append, length-replicate}
use Rattle.blocks.specs.Bytes.{Below, number, digits}
use Rattle.stream.specs.Group.{bytes_for, packed}
use Rattle.stream.specs.Theorem.{bits}
use Rattle.blocks.proofs.Law.Digits.{below_append, length_digits, digits_below, digits_zero, number_digits, number_append, number_padded, number_injective}
use Rattle.stream.proofs.Law.Group.RoundTrip.{bytes_hold, length_packed, packed_below, number_packed}

two : zero < 2
two = zero-lt-suc 1

length_bits : (w : ℕ) (xs : List ℕ) → length (bits w xs) ≡ w * length xs
unfolding bits
length_bits w [] = sym (mul-zero w)
length_bits w (x ∷ xs) =
    length-append (digits 2 w x) (bits w xs) ∙ ap₂ (λ (m n : ℕ). m + n) (length_digits 2 w x) (length_bits w xs)
    ∙ add_comm w (w * length xs) ∙ sym (mul-suc w (length xs))

bits_below : (w : ℕ) (xs : List ℕ) → Below 2 (bits w xs)
unfolding bits
bits_below w [] i = two
bits_below w (x ∷ xs) i = below_append 2 (digits 2 w x) (bits w xs) (digits_below 2 two w x) (bits_below w xs) i

number_bits : (w : ℕ) (xs : List ℕ) → Below (2 ^ w) xs → number 2 (bits w xs) ≡ number (2 ^ w) xs
unfolding bits number
number_bits w [] h = refl
number_bits w (x ∷ xs) h =
    number_append 2 two (digits 2 w x) (bits w xs)
    ∙ ap₂ (λ (m n : ℕ). m + 2 ^ n * number 2 (bits w xs)) (number_digits 2 two w x ∙ mod-eq_of_lt (h 0)) (length_digits 2 w x)
    ∙ ap (λ (n : ℕ). x + 2 ^ w * n) (number_bits w xs (λ i. h (suc i)))

pub lowest_first : (w : ℕ) (cs : List ℕ) → Below (2 ^ w) cs
    → bits 8 (packed w cs) ≡ bits w cs ++ replicate (8 * bytes_for w (length cs) - w * length cs) 0
lowest_first w cs h =
    let spare : ℕ = 8 * bytes_for w (length cs) - w * length cs in
    let zeros : List ℕ = replicate spare 0 in
    number_injective 2 two (bits 8 (packed w cs)) (bits w cs ++ zeros)
    (bits_below 8 (packed w cs))
    (below_append 2 (bits w cs) zeros (bits_below w cs) (λ i. rw (← digits_zero 2 two) (digits_below 2 two spare 0 i)))
    (length_bits 8 (packed w cs) ∙ ap (λ (n : ℕ). 8 * n) (length_packed w cs)
    ∙ sym (length-append (bits w cs) zeros ∙ ap₂ (λ (m n : ℕ). m + n) (length_bits w cs) (length-replicate spare 0) ∙ add-sub_of_le (bytes_hold w (length cs))))
    (number_bits 8 (packed w cs) (packed_below w cs) ∙ number_packed w cs h ∙ sym (number_padded 2 two (bits w cs) spare ∙ number_bits w cs h))
