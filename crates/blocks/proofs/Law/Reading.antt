-- What a load, and the code of some bits at a bit, give.
-- Assumes nothing.
use mathlib.Core.Path.{◌≡◌, refl, sym, ap, ap₂, ◌∙◌, subst₂}
use mathlib.Core.List.{List, [], ◌∷◌}
use Prim.Native.Nat.{ℕ, zero, suc, ◌+◌, ◌-◌, ◌*◌, ◌/◌, ◌%◌, ◌^◌, ◌≤◌, ◌<◌}
use native.Mathlib.Nat.{zero-lt-suc, mod-lt, div-div-eq-div-mul, sub-add_cancel, add-sub_of_le}
use native.Mathlib.Numerals.{towards_suc}
use native.Mathlib.Omega.{arith}
use lib.Bits.{bit_and}
use lib.ListN.{length, take, drop, get_or}
use lib.Pow.{pow_pos, pow-add, shr_lt, mod-mod-pow}
use lib.Seq.{drop-cons}
use mir.Syntax.{w32, w64}
use Rattle.std.specs.Int.{from_le_bytes}
use Rattle.blocks.specs.Bytes.{Below, number}
use Rattle.blocks.proofs.Law.Digits.{byte, number_part, number_at}
use Rattle.blocks.proofs.Law.Words.{bit_place, field_in_word, field_past_word, masked, join_low}

-- ---- a load: what its bytes spell is the library's sum of what each is worth

-- the k bytes from a place on
abbrev listed : List ℕ → ℕ → ℕ → List ℕ
listed s at zero = []
listed s at (suc k) = get_or s at 0 ∷ listed s (suc at) k

taken : (s : List ℕ) (k at : ℕ) → at + k ≤ length s → take k (drop at s) ≡ listed s at k
taken s zero at h = refl
taken s (suc k) at h = ap (take (suc k)) (drop-cons s at 0 (omega arith)) ∙ ap (λ (r : List ℕ). get_or s at 0 ∷ r) (taken s k (suc at) (omega arith))

four_number : (a b c d : ℕ) → number 256 (a ∷ b ∷ c ∷ d ∷ []) ≡ from_le_bytes w32 (a ∷ b ∷ c ∷ d ∷ [])
unfolding number
four_number a b c d = omega arith

eight_number : (a b c d e f g h : ℕ) → number 256 (a ∷ b ∷ c ∷ d ∷ e ∷ f ∷ g ∷ h ∷ []) ≡ from_le_bytes w64 (a ∷ b ∷ c ∷ d ∷ e ∷ f ∷ g ∷ h ∷ [])
unfolding number
eight_number a b c d e f g h = omega arith

pub quad_read : (s : List ℕ) (at : ℕ) → at + 4 ≤ length s
    → from_le_bytes w32 (get_or s at 0 ∷ get_or s (at + 1) 0 ∷ get_or s (at + 2) 0 ∷ get_or s (at + 3) 0 ∷ []) ≡ number 256 (take 4 (drop at s))
quad_read s at h = simp towards_suc (sym (ap (number 256) (taken s 4 at h) ∙ four_number (get_or s at 0) _ _ _))

pub load_read : (s : List ℕ) (at : ℕ) → at + 8 ≤ length s
    → from_le_bytes w64 (get_or s at 0 ∷ get_or s (at + 1) 0 ∷ get_or s (at + 2) 0 ∷ get_or s (at + 3) 0
    ∷ get_or s (at + 4) 0 ∷ get_or s (at + 5) 0 ∷ get_or s (at + 6) 0 ∷ get_or s (at + 7) 0 ∷ []) ≡ number 256 (take 8 (drop at s))
load_read s at h = simp towards_suc (sym (ap (number 256) (taken s 8 at h) ∙ eight_number (get_or s at 0) _ _ _ _ _ _ _))

-- ---- the code of w bits at a bit

module _ (s : List ℕ) (bytes : Below 256 s) (bit w : ℕ) (most : w ≤ 64) where
  loaded : number 256 (take 8 (drop (bit / 8) s)) ≡ number 256 s / 256 ^ (bit / 8) % 2 ^ 64
  loaded = number_part 256 byte (bit / 8) 8 s bytes

  pub in_word : bit % 8 + w ≤ 64 → number 256 (take 8 (drop (bit / 8) s)) / 2 ^ (bit % 8) % 2 ^ w ≡ number 256 s / 2 ^ bit % 2 ^ w
  in_word h =
      ap (λ (n : ℕ). n / 2 ^ (bit % 8) % 2 ^ w) loaded
      ∙ field_in_word (number 256 s / 256 ^ (bit / 8)) (bit % 8) w 64 h ∙ ap (λ (n : ℕ). n % 2 ^ w) (bit_place (number 256 s) bit)

  pub code_in_word : bit % 8 + w ≤ 64
      → bit_and (number 256 (take 8 (drop (bit / 8) s)) / 2 ^ (bit % 8)) ((2 ^ 64 - 1) / 2 ^ (64 - w)) ≡ number 256 s / 2 ^ bit % 2 ^ w
  code_in_word h = masked (number 256 (take 8 (drop (bit / 8) s)) / 2 ^ (bit % 8)) w 64 most ∙ in_word h

  skipped : bit % 8 < 8
  skipped = mod-lt bit (zero-lt-suc 7)

  ninth : get_or s (bit / 8 + 8) 0 ≡ number 256 s / 256 ^ (bit / 8) / 2 ^ 64 % 2 ^ 8
  ninth =
      number_at 256 byte s (bit / 8 + 8) bytes
      ∙ ap (λ (n : ℕ). n % 256)
      (ap (λ (n : ℕ). number 256 s / n) (pow-add 256 (bit / 8) 8) ∙ sym (div-div-eq-div-mul (number 256 s) (256 ^ (bit / 8)) (256 ^ 8)))

  -- the eight bytes without the bits to skip, and the ninth above them
  joined : number 256 (take 8 (drop (bit / 8) s)) / 2 ^ (bit % 8) + get_or s (bit / 8 + 8) 0 * 2 ^ (64 - bit % 8) % 2 ^ 64
      ≡ (number 256 (take 8 (drop (bit / 8) s)) / 2 ^ (bit % 8) + get_or s (bit / 8 + 8) 0 * 2 ^ (64 - bit % 8)) % 2 ^ 64
  joined =
      join_low (bit % 8) (64 - bit % 8) 64 _ (get_or s (bit / 8 + 8) 0) (add-sub_of_le below)
      (shr_lt (64 - bit % 8) (bit % 8)
      (subst₂ (λ (n m : ℕ). n < 2 ^ m) (sym loaded) (sym (sub-add_cancel below)) (mod-lt (number 256 s / 256 ^ (bit / 8)) (pow_pos 64))))
    where
      below : bit % 8 ≤ 64
      below = omega (arith, skipped)

  pub joined_fits : number 256 (take 8 (drop (bit / 8) s)) / 2 ^ (bit % 8) + get_or s (bit / 8 + 8) 0 * 2 ^ (64 - bit % 8) % 2 ^ 64 < 2 ^ 64
  joined_fits = rw joined (mod-lt _ (pow_pos 64))

  pub code_past_word :
      bit_and (number 256 (take 8 (drop (bit / 8) s)) / 2 ^ (bit % 8) + get_or s (bit / 8 + 8) 0 * 2 ^ (64 - bit % 8) % 2 ^ 64) ((2 ^ 64 - 1) / 2 ^ (64 - w))
      ≡ number 256 s / 2 ^ bit % 2 ^ w
  code_past_word =
      masked _ w 64 most
      ∙ ap (λ (n : ℕ). n % 2 ^ w) joined
      ∙ ap (λ (m : ℕ). (number 256 (take 8 (drop (bit / 8) s)) / 2 ^ (bit % 8) + get_or s (bit / 8 + 8) 0 * 2 ^ (64 - bit % 8)) % 2 ^ m % 2 ^ w) (sym (sub-add_cancel most))
      ∙ mod-mod-pow (number 256 (take 8 (drop (bit / 8) s)) / 2 ^ (bit % 8) + get_or s (bit / 8 + 8) 0 * 2 ^ (64 - bit % 8)) (64 - w) w
      ∙ ap₂ (λ (n b : ℕ). (n / 2 ^ (bit % 8) + b * 2 ^ (64 - bit % 8)) % 2 ^ w) loaded ninth
      ∙ field_past_word (number 256 s / 256 ^ (bit / 8)) (bit % 8) w 64 8 (omega (arith, skipped)) (omega (arith, skipped))
      ∙ ap (λ (n : ℕ). n % 2 ^ w) (bit_place (number 256 s) bit)
