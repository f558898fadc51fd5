-- A group's bytes: its width, how long they are, and what reading gives of what was written. For any width and any count.
-- Assumes nothing.
use mathlib.Core.Path.{◌≡◌, refl, sym, ap, ap₂, ◌∙◌, subst₂}
use mathlib.Core.List.{List, [], ◌∷◌, ◌++◌}
use Prim.Native.Nat.{ℕ, zero, suc, ◌+◌, ◌*◌, ◌/◌, ◌^◌, ◌≤◌, ◌<◌, zero-le, suc-le-suc}
use native.Mathlib.Nat.{le_trans, lt_of_lt_of_le, lt_of_le_of_lt, le-max_left, le-max_right, zero-mul, mul-le-mul_right}
use native.Mathlib.Omega.{arith}
use lib.Ieee.Digits.{size-lt, size-le}
use lib.ListN.{length, get_or}
use lib.Pow.{pow_pos, pow_mono}
use lib.Seq.{take_at}
use Rattle.blocks.specs.Bytes.{Below, number, digits}
use Rattle.stream.specs.Group.{bytes_for, largest, width_of, packed, group_bytes, given_width, group_length, group_number, group_codes}
use Rattle.blocks.proofs.Law.Digits.{byte, length_digits, digits_below, number_digits_whole, digits_number, number_lt}
use Rattle.blocks.proofs.Law.Words.{pow_pow}

-- ---- the bytes that hold some bits

pub bytes_hold : (w n : ℕ) → w * n ≤ 8 * bytes_for w n
unfolding bytes_for
bytes_hold w n = omega arith

-- and no byte too many
pub bytes_tight : (w n : ℕ) → 8 * bytes_for w n ≤ 8 + w * n
unfolding bytes_for
bytes_tight w n = omega arith

pub bytes_none : (n : ℕ) → bytes_for 0 n ≡ 0
unfolding bytes_for
bytes_none n = ap (λ (k : ℕ). (k + 7) / 8) (zero-mul n)

pub bytes_mono : (v w n : ℕ) → v ≤ w → bytes_for v n ≤ bytes_for w n
unfolding bytes_for
bytes_mono v w n h = omega (arith, mul-le-mul_right n h)

-- n codes of w bits fit into their bytes
pub codes_fit : (w n : ℕ) → (2 ^ w) ^ n ≤ 256 ^ bytes_for w n
codes_fit w n = subst₂ (λ (p q : ℕ). p ≤ q) (sym (pow_pow 2 w n)) (sym (pow_pow 2 8 (bytes_for w n))) (pow_mono (bytes_hold w n))

-- ---- the largest code, and the width

pub largest_at : (cs : List ℕ) (i : ℕ) → get_or cs i 0 ≤ largest cs
unfolding largest
largest_at [] i = zero-le
largest_at (c ∷ cs) zero = le-max_left c (largest cs)
largest_at (c ∷ cs) (suc i) = le_trans (largest_at cs i) (le-max_right c (largest cs))

pub largest_lt : (b : ℕ) (cs : List ℕ) → zero < b → Below b cs → largest cs < b
unfolding largest
largest_lt b [] pos h = pos
largest_lt b (c ∷ cs) pos h = omega (arith, h 0, largest_lt b cs pos (λ i. h (suc i)))

-- every code has at most as many bits as the width says
pub width_holds : (cs : List ℕ) → Below (2 ^ width_of cs) cs
unfolding width_of
width_holds cs i = lt_of_le_of_lt (largest_at cs i) (size-lt (largest cs))

-- and no smaller width does
pub width_least : (w : ℕ) (cs : List ℕ) → Below (2 ^ w) cs → width_of cs ≤ w
unfolding width_of
width_least w cs h = size-le (largest cs) w (largest_lt (2 ^ w) cs (pow_pos w) h)

-- ---- lengths

pub length_packed : (w : ℕ) (cs : List ℕ) → length (packed w cs) ≡ bytes_for w (length cs)
unfolding packed
length_packed w cs = length_digits 256 (bytes_for w (length cs)) (number (2 ^ w) cs)

pub length_group : (cs : List ℕ) → length (group_bytes cs) ≡ suc (bytes_for (width_of cs) (length cs))
unfolding group_bytes
length_group cs = ap suc (length_packed (width_of cs) cs)

-- codes below 2 ^ W take at most W bits each, and one byte
pub length_group_most : (W : ℕ) (cs : List ℕ) → Below (2 ^ W) cs → length (group_bytes cs) ≤ suc (bytes_for W (length cs))
length_group_most W cs h = rw length_group (suc-le-suc (bytes_mono (width_of cs) W (length cs) (width_least W cs h)))

-- ---- the bytes spell what the codes do

pub packed_below : (w : ℕ) (cs : List ℕ) → Below 256 (packed w cs)
unfolding packed
packed_below w cs = digits_below 256 byte (bytes_for w (length cs)) (number (2 ^ w) cs)

-- codes of no bits leave no bytes
pub packed_none : (cs : List ℕ) → packed 0 cs ≡ []
unfolding packed digits
packed_none cs = ap (λ (k : ℕ). digits 256 k (number (2 ^ 0) cs)) (bytes_none (length cs))

pub number_packed : (w : ℕ) (cs : List ℕ) → Below (2 ^ w) cs → number 256 (packed w cs) ≡ number (2 ^ w) cs
unfolding packed
number_packed w cs h =
    number_digits_whole 256 byte (bytes_for w (length cs)) (number (2 ^ w) cs) (lt_of_lt_of_le (number_lt (2 ^ w) (pow_pos w) cs h) (codes_fit w (length cs)))

-- ---- read of written

module _ (cs rest : List ℕ) where
  pub read_width : given_width (group_bytes cs ++ rest) ≡ width_of cs
  unfolding given_width group_bytes
  read_width = refl

  pub read_length : group_length (length cs) (group_bytes cs ++ rest) ≡ length (group_bytes cs)
  unfolding group_length
  read_length = ap (λ (w : ℕ). suc (bytes_for w (length cs))) read_width ∙ sym (length_group cs)

  pub read_number : group_number (length cs) (group_bytes cs ++ rest) ≡ number (2 ^ width_of cs) cs
  unfolding group_number given_width group_bytes
  read_number =
      ap (number 256) (take_at (packed (width_of cs) cs) rest (bytes_for (width_of cs) (length cs)) (length_packed (width_of cs) cs))
      ∙ number_packed (width_of cs) cs (width_holds cs)

  pub read_codes : group_codes (length cs) (group_bytes cs ++ rest) ≡ cs
  unfolding group_codes
  read_codes =
      ap₂ (λ (w m : ℕ). digits (2 ^ w) (length cs) m) read_width read_number
      ∙ digits_number (2 ^ width_of cs) (pow_pos (width_of cs)) cs (width_holds cs)

-- ---- what is read, whatever the bytes are

pub length_codes : (n : ℕ) (s : List ℕ) → length (group_codes n s) ≡ n
unfolding group_codes
length_codes n s = length_digits (2 ^ given_width s) n (group_number n s)

pub codes_below : (n : ℕ) (s : List ℕ) → Below (2 ^ given_width s) (group_codes n s)
unfolding group_codes
codes_below n s i = digits_below (2 ^ given_width s) (pow_pos (given_width s)) n (group_number n s) i
