-- Groups of whole bytes: eight codes of w bits are w bytes, so 8k codes are k times w, with no padding.
-- Assumes nothing.
use mathlib.Core.Path.{◌≡◌, sym, ap, ap₂, subst, ◌∙◌}
use mathlib.Core.List.{List, ◌∷◌, ◌++◌}
use Prim.Native.Nat.{ℕ, suc, ◌+◌, ◌-◌, ◌*◌, ◌^◌, ◌≤◌, ◌<◌}
use native.Mathlib.Nat.{mul_assoc, mul_comm}
use native.Mathlib.Numerals.{one-add}
use native.Mathlib.Omega.{arith}
use lib.ListN.{length, take, drop, set}
use lib.Seq.{take_all, drop-drop}
use borrow.Rule.Slice.PartMut.{put_mid}
use Rattle.blocks.specs.Bytes.{number, digits}
use Rattle.stream.specs.Group.{bytes_for, width_of, packed, group_bytes}
use Rattle.stream.proofs.Law.Group.RoundTrip.{length_group}
use Rattle.stream.proofs.Law.Plain.Parts.{behind_first, first_back}

pub bytes_whole : (w k : ℕ) → bytes_for w (8 * k) ≡ k * w
unfolding bytes_for
bytes_whole w k = let e : w * (8 * k) ≡ 8 * (k * w) = mul_comm w (8 * k) ∙ mul_assoc 8 k w in omega (arith, e)

module _ (k : ℕ) (codes : List ℕ) (long : length codes ≡ 8 * k) where
  bytes_are : (w : ℕ) → bytes_for w (length codes) ≡ k * w
  bytes_are w = ap (bytes_for w) long ∙ bytes_whole w k

  pub packed_whole : (w : ℕ) → digits 256 (k * w) (number (2 ^ w) codes) ≡ packed w codes
  unfolding packed
  packed_whole w = ap (λ (n : ℕ). digits 256 n (number (2 ^ w) codes)) (sym (bytes_are w))

  -- as a record counts n codes, and these are all it has
  module _ (n w : ℕ) (all : length codes ≤ n) (is : w ≡ width_of codes) where
    counted : codes ≡ take n codes
    counted = sym (take_all n codes all)

    pub length_is : 1 + k * w ≡ length (group_bytes (take n codes))
    length_is =
        one-add (k * w) ∙ ap suc (sym (bytes_are w) ∙ ap (λ (v : ℕ). bytes_for v (length codes)) is) ∙ sym (length_group codes)
        ∙ ap (λ (cs : List ℕ). length (group_bytes cs)) counted

    pub room_is : (out : List ℕ) → length (group_bytes (take n codes)) ≤ length out → 1 + k * w ≤ length out
    room_is out = subst (λ (l : ℕ). l ≤ length out) (sym length_is)

    -- the width set in front, and the bytes written into the part behind it
    pub written_is : (out ys : List ℕ) → 0 < length out → ys ≡ packed w codes ++ drop (k * w) (take (length (set out 0 w) - 1) (drop 1 (set out 0 w)))
        → put_mid 1 (length (set out 0 w) - 1) (set out 0 w) ys ≡ group_bytes (take n codes) ++ drop (1 + k * w) out
    unfolding group_bytes
    written_is out ys some back =
        first_back out ys w some
        ∙ ap₂ (λ (v : ℕ) (r : List ℕ). v ∷ r) is
        (back ∙ ap₂ (λ (v : ℕ) (r : List ℕ). packed v codes ++ r) is (ap (drop (k * w)) (behind_first out w) ∙ drop-drop (k * w) 1 out))
        ∙ ap (λ (cs : List ℕ). group_bytes cs ++ drop (1 + k * w) out) counted
