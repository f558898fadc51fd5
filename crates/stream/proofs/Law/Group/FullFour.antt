-- A group of four full records: behind the width byte each is a block of 4w whole bytes. For any width.
-- Assumes nothing.
use mathlib.Core.Path.{◌≡◌, refl, sym, ap, ap₂, subst, ◌∙◌}
use mathlib.Core.Logic.{inl}
use mathlib.Core.List.{List, [], ◌∷◌, ◌++◌, append_assoc, append-nil}
use Prim.Native.Nat.{ℕ, suc, ◌+◌, ◌-◌, ◌*◌, ◌%◌, ◌^◌, ◌≤◌, max}
use native.Mathlib.Numerals.{one-add}
use native.Mathlib.Omega.{arith}
use lib.ListN.{length, take, drop, set, length-append}
use lib.Seq.{take_all}
use borrow.Rule.Slice.PartMut.{put_mid}
use Rattle.blocks.specs.Bytes.{Below}
use Rattle.stream.specs.Group.{bytes_for, width_of, packed, group_bytes}
use Rattle.stream.proofs.Law.Group.RoundTrip.{length_packed, length_group, width_holds}
use Rattle.stream.proofs.Law.Group.Whole.{bytes_whole}
use Rattle.stream.proofs.Law.Group.Parts.{below_left, below_right, two_packed, width_of_four, four_long}
use Rattle.stream.proofs.Law.Plain.Appended.{Appended, first_set, one_piece, piece_fits}

-- a full record counts all its codes, and these are 32
pub record Full (n : ℕ) (codes : List ℕ) : Type 0 where
  pub counts : n ≡ 32
  pub long : length codes ≡ 32

taken : {n : ℕ} {codes : List ℕ} → Full n codes → take n codes ≡ codes
taken {n} {codes} f = take_all n codes (omega (arith, f.counts, f.long))

block_long : {n : ℕ} {codes : List ℕ} → Full n codes → (w : ℕ) → 4 * w ≡ length (packed w codes)
block_long {n} {codes} f w = sym (length_packed w codes ∙ ap (bytes_for w) f.long ∙ bytes_whole w 4)

-- the group `all` of four records with the codes a, b, c, d
pub record InBlocks (w : ℕ) (a b c d all : List ℕ) : Type 0 where
  pub length_is : 1 + 16 * w ≡ length (group_bytes all)
  pub group_is : group_bytes all ≡ w ∷ (packed w a ++ (packed w b ++ (packed w c ++ packed w d)))
  pub below_a : Below (2 ^ w) a
  pub below_b : Below (2 ^ w) b
  pub below_c : Below (2 ^ w) c
  pub below_d : Below (2 ^ w) d
  pub long_a : 4 * w ≡ length (packed w a)
  pub long_b : 4 * w ≡ length (packed w b)
  pub long_c : 4 * w ≡ length (packed w c)
  pub long_d : 4 * w ≡ length (packed w d)

pub in_blocks : {ka kb kc kd : ℕ} {a b c d : List ℕ} (w : ℕ) → Full ka a → Full kb b → Full kc c → Full kd d
    → w ≡ max (max (width_of a) (width_of b)) (max (width_of c) (width_of d))
    → InBlocks w a b c d (take ka a ++ take kb b ++ take kc c ++ take kd d)
unfolding group_bytes
in_blocks {ka} {kb} {kc} {kd} {a} {b} {c} {d} w fa fb fc fd is =
    let all = a ++ b ++ c ++ d in
    let same : take ka a ++ take kb b ++ take kc c ++ take kd d ≡ all = ap₂ ◌++◌ (ap₂ ◌++◌ (ap₂ ◌++◌ (taken fa) (taken fb)) (taken fc)) (taken fd) in
    let width : w ≡ width_of all = is ∙ sym (width_of_four a b c d) in
    let long : length all ≡ 128 = four_long a b c d 32 32 32 32 fa.long fb.long fc.long fd.long in
    let one_by_one : all ≡ a ++ (b ++ (c ++ d)) = append_assoc (a ++ b) c d ∙ append_assoc a b (c ++ d) in
    let below : Below (2 ^ w) (a ++ (b ++ (c ++ d))) = subst (λ (l : List ℕ). Below (2 ^ w) l) one_by_one (subst (λ (v : ℕ). Below (2 ^ v) all) (sym width) (width_holds all)) in
    let below-3 : Below (2 ^ w) (b ++ (c ++ d)) = below_right (2 ^ w) a (b ++ (c ++ d)) below in
    let below-2 : Below (2 ^ w) (c ++ d) = below_right (2 ^ w) b (c ++ d) below-3 in
    let long-2 : length (c ++ d) ≡ 64 = length-append c d ∙ ap₂ ◌+◌ fc.long fd.long in
    let long-3 : length (b ++ (c ++ d)) ≡ 96 = length-append b (c ++ d) ∙ ap₂ ◌+◌ fb.long long-2 in
    let ba = below_left (2 ^ w) a (b ++ (c ++ d)) below in
    let bb = below_left (2 ^ w) b (c ++ d) below-3 in
    let bc = below_left (2 ^ w) c d below-2 in
    let e : 32 % 8 ≡ 0 = refl in
    record {
      length_is =
          one-add (16 * w) ∙ ap suc (sym (bytes_whole w 16) ∙ ap₂ bytes_for width (sym long)) ∙ sym (length_group all)
          ∙ ap (λ (cs : List ℕ). length (group_bytes cs)) (sym same);
      group_is =
          ap group_bytes same
          ∙ ap (λ (v : ℕ). v ∷ packed v all) (sym width)
          ∙ ap (λ (l : List ℕ). w ∷ l)
          (ap (packed w) one_by_one
          ∙ two_packed w 32 96 a (b ++ (c ++ d)) fa.long long-3 (inl e) ba
          ∙ ap (λ (l : List ℕ). packed w a ++ l)
          (two_packed w 32 64 b (c ++ d) fb.long long-2 (inl e) bb
          ∙ ap (λ (l : List ℕ). packed w b ++ l) (two_packed w 32 32 c d fc.long fd.long (inl e) bc)));
      below_a = ba;
      below_b = bb;
      below_c = bc;
      below_d = below_right (2 ^ w) c d below-2;
      long_a = block_long fa w;
      long_b = block_long fb w;
      long_c = block_long fc w;
      long_d = block_long fd w;
    }

-- the next block, written into the part from `put` on
module _ (all rest base out : List ℕ) (put : ℕ) (a : Appended all rest base out put) (w : ℕ) (codes more : List ℕ)
    (is : rest ≡ packed w codes ++ more) (long : 4 * w ≡ length (packed w codes)) where
  pub block_fits : 4 * w ≤ length (take (length out - put) (drop put out))
  block_fits = omega (arith, long, piece_fits all rest base out put a (packed w codes) more is)

  pub one_block : (next : ℕ) (ys : List ℕ) → next ≡ put + 4 * w → ys ≡ packed w codes ++ drop (4 * w) (take (length out - put) (drop put out))
      → Appended all more base (put_mid put (length out - put) out ys) next
  one_block next ys e back =
      subst (λ (p : ℕ). Appended all more base (put_mid put (length out - put) out ys) p) (sym e)
      (one_piece all rest base out put a (packed w codes) more ys (4 * w) is long back)

-- how far the writing of four blocks has come: the width stands, then each block
module _ (w : ℕ) (a b c d all base : List ℕ) (k : InBlocks w a b c d all) (room : length (group_bytes all) ≤ length base) where
  pub begun : Appended (group_bytes all) (packed w a ++ (packed w b ++ (packed w c ++ packed w d))) base (set base 0 w) 1
  begun = first_set (group_bytes all) (packed w a ++ (packed w b ++ (packed w c ++ packed w d))) base w k.group_is room

  -- what a block that was lent the part from `put` on leaves there
  abbrev Left : List ℕ → List ℕ → ℕ → List ℕ → Type 0
  Left codes out put ys = ys ≡ packed w codes ++ drop (4 * w) (take (length out - put) (drop put out))

  abbrev over : List ℕ → ℕ → List ℕ → List ℕ
  over out put ys = put_mid put (length out - put) out ys

  module _ (ya : List ℕ) (ea : Left a (set base 0 w) 1 ya) where
    pub stands_1 : Appended (group_bytes all) (packed w b ++ (packed w c ++ packed w d)) base (over (set base 0 w) 1 ya) (1 + 4 * w)
    stands_1 = one_block _ _ _ _ _ begun w a (packed w b ++ (packed w c ++ packed w d)) refl k.long_a (1 + 4 * w) ya refl ea

    module _ (yb : List ℕ) (eb : Left b (over (set base 0 w) 1 ya) (1 + 4 * w) yb) where
      pub stands_2 : Appended (group_bytes all) (packed w c ++ packed w d) base (over (over (set base 0 w) 1 ya) (1 + 4 * w) yb) (1 + 8 * w)
      stands_2 = one_block _ _ _ _ _ stands_1 w b (packed w c ++ packed w d) refl k.long_b (1 + 8 * w) yb (omega arith) eb

      module _ (yc : List ℕ) (ec : Left c (over (over (set base 0 w) 1 ya) (1 + 4 * w) yb) (1 + 8 * w) yc) where
        pub stands_3 : Appended (group_bytes all) (packed w d) base (over (over (over (set base 0 w) 1 ya) (1 + 4 * w) yb) (1 + 8 * w) yc) (1 + 12 * w)
        stands_3 = one_block _ _ _ _ _ stands_2 w c (packed w d) refl k.long_c (1 + 12 * w) yc (omega arith) ec

        pub stands_4 : (yd : List ℕ) → Left d (over (over (over (set base 0 w) 1 ya) (1 + 4 * w) yb) (1 + 8 * w) yc) (1 + 12 * w) yd
            → Appended (group_bytes all) [] base (over (over (over (over (set base 0 w) 1 ya) (1 + 4 * w) yb) (1 + 8 * w) yc) (1 + 12 * w) yd) (1 + 16 * w)
        stands_4 yd ed = one_block _ _ _ _ _ stands_3 w d [] (sym (append-nil (packed w d))) k.long_d (1 + 16 * w) yd (omega arith) ed
