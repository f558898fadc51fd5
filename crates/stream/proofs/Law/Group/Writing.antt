-- Writing a group, a word at a time: what one more code, and the bytes of a word, do to `Partway`.
-- Assumes nothing.
use mathlib.Core.Path.{◌≡◌, refl, sym, ap, ap₂, ◌∙◌, subst}
use mathlib.Core.List.{List, [], ◌∷◌, ◌++◌, append_assoc, append-nil}
use Prim.Native.Nat.{ℕ, suc, ◌+◌, ◌-◌, ◌*◌, ◌/◌, ◌%◌, ◌^◌, ◌≤◌, ◌<◌}
use native.Mathlib.Nat.{add-zero, mul_comm, mul_assoc, mul-suc, mul-zero, zero-lt-suc, mul-le-mul_left, mod-lt, div-lt_iff_lt-mul, div-div-eq-div-mul, add-mul-div_left, add-mul-mod_self_left}
use native.Mathlib.Numerals.{add-one}
use native.Mathlib.Omega.{arith}
use lib.ListN.{length, take, drop, set, get_or, length-append, take-append-drop}
use lib.Pow.{pow_pos, pow-add, shl_exact, shr-shr}
use lib.Seq.{set_at, take_at, drop_at, drop-drop, drop-cons, append_snoc, length-take-le}
use Rattle.blocks.specs.Bytes.{Below, number, digits}
use Rattle.stream.specs.Group.{bytes_for, packed}
use Rattle.stream.specs.Partway.{Partway}
use Rattle.blocks.proofs.Law.Digits.{byte, pow_positive, length_digits, digits_append, digits_snoc, number_snoc, digits_mod, number_lt}
use Rattle.stream.proofs.Law.Group.RoundTrip.{bytes_hold}
use Rattle.blocks.proofs.Law.Words.{pow_pow, join_low, join_high}

-- ---- a word's bytes one by one

-- none is stored yet
pub none_stored : (base : List ℕ) (at x : ℕ) → base ≡ take at base ++ digits 256 0 x ++ drop (at + 0) base
unfolding digits
none_stored base at x =
    sym (ap₂ (λ (r : List ℕ) (n : ℕ). r ++ drop n base) (append-nil (take at base)) (add-zero at) ∙ take-append-drop at base)

pub div_next : (x k : ℕ) → x / 256 ^ k / 256 ≡ x / 256 ^ (k + 1)
div_next x k = div-div-eq-div-mul x (256 ^ k) 256 ∙ ap (λ (n : ℕ). x / n) (sym (pow-add 256 k 1))

ends : (at k : ℕ) → suc (at + k) ≡ at + (k + 1)
ends at k = omega arith

pub one_store : (base : List ℕ) (at k x : ℕ) → at + k < length base
    → set (take at base ++ digits 256 k x ++ drop (at + k) base) (at + k) (x / 256 ^ k % 256)
    ≡ take at base ++ digits 256 (k + 1) x ++ drop (at + (k + 1)) base
one_store base at k x h =
    let p : List ℕ = take at base ++ digits 256 k x in
    ap (λ (r : List ℕ). set (p ++ r) (at + k) (x / 256 ^ k % 256)) (drop-cons base (at + k) 0 h)
    ∙ set_at p (get_or base (at + k) 0) (drop (suc (at + k)) base) (x / 256 ^ k % 256) (at + k)
    (length-append (take at base) (digits 256 k x) ∙ ap₂ ◌+◌ (length-take-le at base (omega arith)) (length_digits 256 k x))
    ∙ sym (append_snoc p (x / 256 ^ k % 256) (drop (suc (at + k)) base))
    ∙ ap₂ (λ (r : List ℕ) (n : ℕ). r ++ drop n base)
    (append_assoc (take at base) (digits 256 k x) (x / 256 ^ k % 256 ∷ []) ∙ ap (λ (r : List ℕ). take at base ++ r) (sym (digits_snoc 256 byte k x)))
    (ends at k)

-- ---- the bytes of a number N, of which `at` stand over `base`: k bytes more

more : (N at k : ℕ) (base out : List ℕ) → out ≡ digits 256 at N ++ drop at base
    → take at out ++ digits 256 k (N / 256 ^ at) ++ drop (at + k) out ≡ digits 256 (at + k) N ++ drop (at + k) base
more N at k base out e =
    ap₂ (λ (r t : List ℕ). r ++ digits 256 k (N / 256 ^ at) ++ t)
    (ap (take at) e ∙ take_at (digits 256 at N) (drop at base) at (length_digits 256 at N))
    (sym (drop-drop k at out) ∙ ap (drop k) (ap (drop at) e ∙ drop_at (digits 256 at N) (drop at base) at (length_digits 256 at N)) ∙ drop-drop k at base)
    ∙ ap (λ (r : List ℕ). r ++ drop (at + k) base) (sym (digits_append 256 byte at k N))

-- ---- one code more

module _ {w : ℕ} {base cs out : List ℕ} {acc fill at : ℕ} (p : Partway w base cs acc fill at out) where
  -- the place of the next code
  place : (2 ^ w) ^ length cs ≡ 256 ^ at * 2 ^ fill
  place =
      pow_pow 2 w (length cs) ∙ ap (λ (n : ℕ). 2 ^ n) (sym p.spent) ∙ pow-add 2 (8 * at) fill
      ∙ ap (λ (n : ℕ). n * 2 ^ fill) (sym (pow_pow 2 8 at))

  pub acc_short : Below (2 ^ w) cs → acc < 2 ^ fill
  acc_short below = rw p.held
      ((div-lt_iff_lt-mul (pow_positive 256 byte at)).1 (subst (λ (n : ℕ). number (2 ^ w) cs < n) (place ∙ mul_comm (256 ^ at) (2 ^ fill)) (number_lt (2 ^ w) (pow_pos w) cs below)))

  -- what the number grows by
  next : (c : ℕ) → number (2 ^ w) (cs ++ (c ∷ [])) ≡ number (2 ^ w) cs + 256 ^ at * (c * 2 ^ fill)
  next c =
      number_snoc (2 ^ w) (pow_pos w) cs c
      ∙ ap (λ (n : ℕ). number (2 ^ w) cs + n)
      (ap (λ (n : ℕ). n * c) place ∙ mul_assoc (256 ^ at) (2 ^ fill) c ∙ ap (λ (n : ℕ). 256 ^ at * n) (mul_comm (2 ^ fill) c))

  next_high : (c : ℕ) → number (2 ^ w) (cs ++ (c ∷ [])) / 256 ^ at ≡ acc + c * 2 ^ fill
  next_high c =
      ap (λ (n : ℕ). n / 256 ^ at) (next c) ∙ add-mul-div_left (number (2 ^ w) cs) (c * 2 ^ fill) (pow_positive 256 byte at)
      ∙ ap (λ (n : ℕ). n + c * 2 ^ fill) (sym p.held)

  next_low : (c : ℕ) → digits 256 at (number (2 ^ w) (cs ++ (c ∷ []))) ≡ digits 256 at (number (2 ^ w) cs)
  next_low c =
      sym (digits_mod 256 byte at (number (2 ^ w) (cs ++ (c ∷ []))))
      ∙ ap (digits 256 at) (ap (λ (n : ℕ). n % 256 ^ at) (next c) ∙ add-mul-mod_self_left (number (2 ^ w) cs) (256 ^ at) (c * 2 ^ fill))
      ∙ digits_mod 256 byte at (number (2 ^ w) cs)

  next_spent : (c : ℕ) → 8 * at + fill + w ≡ w * length (cs ++ (c ∷ []))
  next_spent c = ap (λ (n : ℕ). n + w) p.spent ∙ sym (ap (λ (n : ℕ). w * n) (length-append cs (c ∷ []) ∙ add-one (length cs)) ∙ mul-suc w (length cs))

  next_out : (c : ℕ) → out ≡ digits 256 at (number (2 ^ w) (cs ++ (c ∷ []))) ++ drop at base
  next_out c = p.out_is ∙ ap (λ (r : List ℕ). r ++ drop at base) (sym (next_low c))

  -- it fits into the word
  pub kept : (c : ℕ) → c < 2 ^ w → w < 64 - fill → Partway w base (cs ++ (c ∷ [])) (acc + c * 2 ^ fill % 2 ^ 64) (fill + w) at out
  kept c below h = record {
    short = omega arith;
    spent = omega (arith, next_spent c);
    held = ap (λ (n : ℕ). acc + n) (shl_exact w fill 64 below (omega arith)) ∙ sym (next_high c);
    out_is = next_out c;
  }

  -- the output has room for a word that is full
  pub flush_room : (n : ℕ) → length cs < n → 64 - fill ≤ w → bytes_for w n ≤ length base → at + 8 ≤ length base
  flush_room n more-codes full fits =
      omega (arith, p.spent, p.short, mul-suc w (length cs), mul-le-mul_left w more-codes, bytes_hold w n)

  -- it does not: the word is full and goes out, and the rest of the code is the new word
  module _ (below : Below (2 ^ w) cs) (c : ℕ) where
    room : 64 - fill + fill ≡ 64
    room = omega (arith, p.short)

    pub word_fits : acc + c * 2 ^ fill % 2 ^ 64 < 2 ^ 64
    word_fits = rw (join_low (64 - fill) fill 64 acc c room (acc_short below)) (mod-lt (acc + c * 2 ^ fill) (pow_pos 64))

    flushed_held : c / 2 / 2 ^ (64 - fill - 1) ≡ number (2 ^ w) (cs ++ (c ∷ [])) / 256 ^ (at + 8)
    flushed_held =
        shr-shr c 1 (64 - fill - 1)
        ∙ ap (λ (n : ℕ). c / 2 ^ n) (omega (arith, p.short))
        ∙ sym (ap (λ (n : ℕ). number (2 ^ w) (cs ++ (c ∷ [])) / n) (pow-add 256 at 8)
        ∙ sym (div-div-eq-div-mul (number (2 ^ w) (cs ++ (c ∷ []))) (256 ^ at) (256 ^ 8))
        ∙ ap (λ (n : ℕ). n / 256 ^ 8) (next_high c) ∙ join_high (64 - fill) fill 64 acc c room (acc_short below))

    pub flushed : w ≤ 64 → 64 - fill ≤ w
        → Partway w base (cs ++ (c ∷ [])) (c / 2 / 2 ^ (64 - fill - 1)) (w - (64 - fill)) (at + 8)
        (take at out ++ digits 256 8 (acc + c * 2 ^ fill % 2 ^ 64) ++ drop (at + 8) out)
    flushed most h = record {
      short = omega (arith, p.short);
      spent = omega (arith, p.short, next_spent c);
      held = flushed_held;
      out_is =
          ap (λ (r : List ℕ). take at out ++ r ++ drop (at + 8) out)
          (ap (digits 256 8) (join_low (64 - fill) fill 64 acc c room (acc_short below)) ∙ digits_mod 256 byte 8 (acc + c * 2 ^ fill) ∙ ap (digits 256 8) (sym (next_high c)))
          ∙ more (number (2 ^ w) (cs ++ (c ∷ []))) at 8 base out (next_out c);
    }

  -- ---- no code is left

  pub end_is : at + (fill + 7) / 8 ≡ bytes_for w (length cs)
  unfolding bytes_for
  end_is = omega (arith, p.spent)

  pub finished : take at out ++ digits 256 ((fill + 7) / 8) acc ++ drop (at + (fill + 7) / 8) out ≡ packed w cs ++ drop (bytes_for w (length cs)) base
  unfolding packed
  finished =
      ap (λ (n : ℕ). take at out ++ digits 256 ((fill + 7) / 8) n ++ drop (at + (fill + 7) / 8) out) p.held
      ∙ more (number (2 ^ w) cs) at ((fill + 7) / 8) base out p.out_is
      ∙ ap (λ (n : ℕ). digits 256 n (number (2 ^ w) cs) ++ drop n base) end_is

pub started : (w : ℕ) (base : List ℕ) → Partway w base [] 0 0 0 base
unfolding number digits
started w base = record { short = zero-lt-suc 63; spent = sym (mul-zero w); held = refl; out_is = refl }
