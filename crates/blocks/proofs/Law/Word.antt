-- The 64 bits of a number from a bit on, code by code.
-- Assumes nothing.
use mathlib.Core.Path.{◌≡◌, sym, ap, ap₂, ◌∙◌, subst}
use mathlib.Core.Bool.{Bool, cond}
use mathlib.Core.List.{List}
use mathlib.Core.Logic.{◌⊎◌, inl, inr}
use Prim.Native.Nat.{ℕ, ◌+◌, ◌-◌, ◌*◌, ◌/◌, ◌%◌, ◌^◌, ◌≤◌, ◌<◌}
use native.Mathlib.Nat.{add_comm, mod-lt, mod-eq_of_lt, lt_of_lt_of_le, div-lt_iff_lt-mul, mul_comm, mul-suc, mul-add, mul-one, add-zero, le_of_lt, div-add-mod'}
use native.Mathlib.Omega.{arith}
use borrow.Author.Tests.{lt-ltb, le-ltb}
use lib.Dec.{ltb}
use lib.ListN.{length, get_or}
use lib.Pow.{pow_pos, pow-add, pow_mono, shr-shr, field, mod-pow-add, mod-mod-pow}
use Rattle.blocks.specs.Bytes.{Below, number}
use Rattle.blocks.proofs.Law.Digits.{number_at, number_lt}
use Rattle.blocks.proofs.Law.Truth.{le_or_lt}
use Rattle.blocks.proofs.Law.Words.{join_low, pow_pow}

-- `fill` bits of y are in the word, as far as it has room
module _ (y fill word : ℕ) (held : word ≡ y % 2 ^ fill % 2 ^ 64) where
  pub word_short : fill < 64 → word < 2 ^ fill
  word_short h = subst (λ (n : ℕ). n < 2 ^ fill) (sym (held ∙ mod-eq_of_lt (lt_of_lt_of_le (mod-lt y (pow_pos fill)) (pow_mono (let e : fill ≤ 64 = omega arith in e))))) (mod-lt y (pow_pos fill))

  -- the next code goes above them
  pub word_more : (w c : ℕ) → fill < 64 → c ≡ y / 2 ^ fill % 2 ^ w → word + c * 2 ^ fill % 2 ^ 64 ≡ y % 2 ^ (fill + w) % 2 ^ 64
  word_more w c h e =
      let small : y % 2 ^ fill < 2 ^ 64 = lt_of_lt_of_le (mod-lt y (pow_pos fill)) (pow_mono (let q : fill ≤ 64 = omega arith in q)) in
      join_low (64 - fill) fill 64 word c (omega arith) (word_short h)
      ∙ ap (λ (n : ℕ). n % 2 ^ 64)
      (ap₂ (λ (a b : ℕ). a + b * 2 ^ fill) (held ∙ mod-eq_of_lt small) e
      ∙ add_comm (y % 2 ^ fill) (y / 2 ^ fill % 2 ^ w * 2 ^ fill)
      ∙ sym (ap (λ (n : ℕ). y % 2 ^ n) (add_comm fill w) ∙ mod-pow-add y w fill))

  -- a full word has all its bits
  pub word_full : 64 ≤ fill → word ≡ y % 2 ^ 64
  word_full h = held ∙ ap (λ (n : ℕ). y % 2 ^ n % 2 ^ 64) (let e : fill ≡ fill - 64 + 64 = omega arith in e) ∙ mod-mod-pow y (fill - 64) 64

  -- what is put above it where it is not full, and nothing where it is
  pub word_step : (w c m : ℕ) → c ≡ y / 2 ^ fill % 2 ^ w → m ≡ cond (ltb fill 64) (c * 2 ^ fill % 2 ^ 64) 0 → word + m ≡ y % 2 ^ (fill + w) % 2 ^ 64
  word_step w c m e d = go (le_or_lt 64 fill)
    where
      go : (64 ≤ fill) ⊎ (fill < 64) → word + m ≡ y % 2 ^ (fill + w) % 2 ^ 64
      go (inr h) = ap (λ (n : ℕ). word + n) (d ∙ ap (λ (b : Bool). cond b (c * 2 ^ fill % 2 ^ 64) 0) (lt-ltb fill 64 h)) ∙ word_more w c h e
      go (inl h) =
          ap (λ (n : ℕ). word + n) (d ∙ ap (λ (b : Bool). cond b (c * 2 ^ fill % 2 ^ 64) 0) (le-ltb fill 64 h)) ∙ add-zero word ∙ word_full h
          ∙ sym (ap (λ (n : ℕ). y % 2 ^ n % 2 ^ 64) (let q : fill + w ≡ fill + w - 64 + 64 = omega arith in q) ∙ mod-mod-pow y (fill + w - 64) 64)

  -- and so has one that holds all of y
  pub word_all : y < 2 ^ fill → word ≡ y % 2 ^ 64
  word_all h = held ∙ ap (λ (n : ℕ). n % 2 ^ 64) (mod-eq_of_lt h)

-- the first code, without the bits that are before the word
pub word_first : (n w at skip bit c : ℕ) → at + skip ≡ bit → skip ≤ w → w ≤ 64 → c ≡ n / 2 ^ at % 2 ^ w → c / 2 ^ skip ≡ n / 2 ^ bit % 2 ^ (w - skip) % 2 ^ 64
word_first n w at skip bit c e h l d =
    let split : w ≡ w - skip + skip = omega arith in
    ap (λ (x : ℕ). x / 2 ^ skip) (d ∙ ap (λ (p : ℕ). n / 2 ^ at % 2 ^ p) split)
    ∙ field (n / 2 ^ at) (w - skip) skip
    ∙ ap (λ (x : ℕ). x % 2 ^ (w - skip)) (shr-shr n at skip ∙ ap (λ (p : ℕ). n / 2 ^ p) e)
    ∙ sym (mod-eq_of_lt (lt_of_lt_of_le (mod-lt (n / 2 ^ bit) (pow_pos (w - skip))) (pow_mono (let q : w - skip ≤ 64 = omega arith in q))))

-- a later code
pub word_code : (n w at fill bit c : ℕ) → fill + bit ≡ at → c ≡ n / 2 ^ at % 2 ^ w → c ≡ n / 2 ^ bit / 2 ^ fill % 2 ^ w
word_code n w at fill bit c e d = d ∙ sym (ap (λ (x : ℕ). x % 2 ^ w) (shr-shr n bit fill ∙ ap (λ (p : ℕ). n / 2 ^ p) (add_comm bit fill ∙ e)))

-- past the last code there is nothing
pub word_end : (n w fill bit many : ℕ) → fill + bit ≡ w * many → n < 2 ^ (w * many) → n / 2 ^ bit < 2 ^ fill
word_end n w fill bit many e h = (div-lt_iff_lt-mul (pow_pos bit)).1 (subst (λ (p : ℕ). n < p) (ap (λ (p : ℕ). 2 ^ p) (sym e) ∙ pow-add 2 fill bit) h)

-- ---- where the word starts

module _ (w bit : ℕ) (some : 1 ≤ w) where
  pub first_lt : (many : ℕ) → bit < many * w → bit / w < many
  first_lt many near = (div-lt_iff_lt-mul some).1 near

  pub skip_lt : bit % w < w
  skip_lt = mod-lt bit some

  pub whole : w * (bit / w) + bit % w ≡ bit
  whole = ap (λ (n : ℕ). n + bit % w) (mul_comm w (bit / w)) ∙ div-add-mod' bit w

  pub start_is : w - bit % w + bit ≡ w * (bit / w + 1)
  start_is = omega (arith, whole, skip_lt, mul-suc w (bit / w), mul-add w (bit / w) 1, mul-one w)

  pub second_is : 2 * w - bit % w + bit ≡ w * (bit / w + 2)
  second_is = omega (arith, whole, skip_lt, mul-add w (bit / w) 2, mul_comm w 2)

module _ (w : ℕ) (cs : List ℕ) (below : Below (2 ^ w) cs) where
  pub code_is : (i : ℕ) → get_or cs i 0 ≡ number (2 ^ w) cs / 2 ^ (w * i) % 2 ^ w
  code_is i = number_at (2 ^ w) (pow_pos w) cs i below ∙ ap (λ (p : ℕ). number (2 ^ w) cs / p % 2 ^ w) (pow_pow 2 w i)

  pub all_under : (many : ℕ) → length cs ≡ many → number (2 ^ w) cs < 2 ^ (w * many)
  all_under many e = subst (λ (p : ℕ). number (2 ^ w) cs < p) (ap (λ (n : ℕ). (2 ^ w) ^ n) e ∙ pow_pow 2 w many) (number_lt (2 ^ w) (pow_pos w) cs below)

  -- three codes above each other
  module _ (bit : ℕ) (some : 1 ≤ w) (most : w ≤ 64) where
    abbrev skip : ℕ
    skip = bit % w

    abbrev first : ℕ
    first = bit / w

    abbrev z : ℕ
    z = number (2 ^ w) cs / 2 ^ bit

    pub first_held : get_or cs first 0 / 2 ^ skip ≡ z % 2 ^ (w - skip) % 2 ^ 64
    first_held = word_first (number (2 ^ w) cs) w (w * first) skip bit (get_or cs first 0) (whole w bit some) (le_of_lt (skip_lt w bit some)) most (code_is first)

    module _ (a : ℕ) (A : a ≡ cond (ltb (w - skip) 64) (get_or cs (first + 1) 0 * 2 ^ (w - skip) % 2 ^ 64) 0) where
      second_held : get_or cs first 0 / 2 ^ skip + a ≡ z % 2 ^ (w - skip + w) % 2 ^ 64
      second_held =
          word_step z (w - skip) (get_or cs first 0 / 2 ^ skip) first_held w (get_or cs (first + 1) 0) a
          (word_code (number (2 ^ w) cs) w (w * (first + 1)) (w - skip) bit (get_or cs (first + 1) 0) (start_is w bit some) (code_is (first + 1))) A

      pub second_fits : get_or cs first 0 / 2 ^ skip + a < 2 ^ 64
      second_fits = subst (λ (n : ℕ). n < 2 ^ 64) (sym second_held) (mod-lt (z % 2 ^ (w - skip + w)) (pow_pos 64))

      module _ (b : ℕ) (B : b ≡ cond (ltb (2 * w - skip) 64) (get_or cs (first + 2) 0 * 2 ^ (2 * w - skip) % 2 ^ 64) 0) where
        third_held : get_or cs first 0 / 2 ^ skip + a + b ≡ z % 2 ^ (2 * w - skip + w) % 2 ^ 64
        third_held =
            word_step z (2 * w - skip) (get_or cs first 0 / 2 ^ skip + a)
            (second_held ∙ ap (λ (i : ℕ). z % 2 ^ i % 2 ^ 64) (let q : w - skip + w ≡ 2 * w - skip = omega (arith, skip_lt w bit some) in q))
            w (get_or cs (first + 2) 0) b
            (word_code (number (2 ^ w) cs) w (w * (first + 2)) (2 * w - skip) bit (get_or cs (first + 2) 0) (second_is w bit some) (code_is (first + 2))) B

        pub third_fits : get_or cs first 0 / 2 ^ skip + a + b < 2 ^ 64
        third_fits = subst (λ (n : ℕ). n < 2 ^ 64) (sym third_held) (mod-lt (z % 2 ^ (2 * w - skip + w)) (pow_pos 64))

        pub third_full : 33 ≤ w → get_or cs first 0 / 2 ^ skip + a + b ≡ z % 2 ^ 64
        third_full h =
            word_full z (2 * w - skip + w) (get_or cs first 0 / 2 ^ skip + a + b) third_held
            (let q : 64 ≤ 2 * w - skip + w = omega (arith, skip_lt w bit some) in q)
