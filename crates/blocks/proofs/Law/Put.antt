-- Bytes go out piece by piece: what stands after each. The pieces are words, and the last may be a part of one.
-- Assumes nothing.
use mathlib.Core.Path.{◌≡◌, sym, ap, ap₂, ◌∙◌, subst}
use mathlib.Core.Logic.{◌⊎◌, inl, inr}
use mathlib.Core.Bool.{Bool, cond}
use mathlib.Core.List.{List, ◌++◌, append_assoc}
use Prim.Native.Nat.{ℕ, ◌+◌, ◌-◌, ◌*◌, ◌/◌, ◌%◌, ◌^◌, ◌≤◌, ◌<◌, min}
use native.Mathlib.Omega.{arith}
use borrow.Author.Tests.{lt-ltb, le-ltb}
use lib.ListN.{length, take, drop, length-append, length-drop}
use lib.Pow.{mod-mod-pow}
use lib.Seq.{take_at, drop_at, drop-drop}
use Rattle.blocks.specs.Bytes.{digits}
use Rattle.blocks.specs.Put.{word_put, Standing}
use Rattle.blocks.proofs.Law.Digits.{byte, length_digits, digits_append, digits_mod}
use Rattle.blocks.proofs.Law.Words.{pow_pow}
use Rattle.blocks.proofs.Law.Truth.{le_or_lt}

-- ---- what one step puts

module _ (w k n : ℕ) (out : List ℕ) where
  abbrev y : ℕ
  y = n / 2 ^ (64 * k)

  some : 2 * k < w → take (8 * k) out ++ digits 256 (min 8 (4 * w - 8 * k)) y ++ drop (min (8 * k + 8) (4 * w)) out ≡ word_put w k n out
  unfolding word_put
  some h = ap (λ (b : Bool). cond b (take (8 * k) out ++ digits 256 (min 8 (4 * w - 8 * k)) y ++ drop (min (8 * k + 8) (4 * w)) out) out) (sym (lt-ltb (2 * k) w h))

  pub put_word : (at x : ℕ) → at ≡ 8 * k → x ≡ y % 2 ^ 64 → 2 * k + 2 ≤ w → take at out ++ digits 256 8 x ++ drop (at + 8) out ≡ word_put w k n out
  put_word at x a e h =
      ap₂ (λ (i z : ℕ). take i out ++ digits 256 8 z ++ drop (i + 8) out) a e
      ∙ ap (λ (d : List ℕ). take (8 * k) out ++ d ++ drop (8 * k + 8) out) (digits_mod 256 byte 8 y)
      ∙ ap₂ (λ (r t : ℕ). take (8 * k) out ++ digits 256 r y ++ drop t out) (let q : 8 ≡ min 8 (4 * w - 8 * k) = omega arith in q) (let q : 8 * k + 8 ≡ min (8 * k + 8) (4 * w) = omega arith in q)
      ∙ some (omega arith)

  pub put_half : (at x : ℕ) → at ≡ 8 * k → x ≡ y % 2 ^ 64 → 2 * k + 1 ≡ w → take at out ++ digits 256 4 x ++ drop (at + 4) out ≡ word_put w k n out
  put_half at x a e h =
      ap₂ (λ (i z : ℕ). take i out ++ digits 256 4 z ++ drop (i + 4) out) a e
      ∙ ap (λ (d : List ℕ). take (8 * k) out ++ d ++ drop (8 * k + 4) out)
      (sym (digits_mod 256 byte 4 (y % 2 ^ 64)) ∙ ap (digits 256 4) (mod-mod-pow y 32 32) ∙ digits_mod 256 byte 4 y)
      ∙ ap₂ (λ (r t : ℕ). take (8 * k) out ++ digits 256 r y ++ drop t out) (let q : 4 ≡ min 8 (4 * w - 8 * k) = omega arith in q) (let q : 8 * k + 4 ≡ min (8 * k + 8) (4 * w) = omega arith in q)
      ∙ some (omega arith)

  pub put_none : w ≤ 2 * k → out ≡ word_put w k n out
  unfolding word_put
  put_none h = ap (λ (b : Bool). cond b (take (8 * k) out ++ digits 256 (min 8 (4 * w - 8 * k)) y ++ drop (min (8 * k + 8) (4 * w)) out) out) (sym (le-ltb (2 * k) w h))

-- ---- what stands after a piece

-- r digits more from p on, of which some may stand already
pub piece_stands : (n at p r : ℕ) (base out next : List ℕ) → p ≤ at → at ≤ p + r → out ≡ digits 256 at n ++ drop at base
    → next ≡ take p out ++ digits 256 r (n / 2 ^ (8 * p)) ++ drop (p + r) out → next ≡ digits 256 (p + r) n ++ drop (p + r) base
piece_stands n at p r base out next h k s e =
    let j = at - p in
    let m = p + r - at in
    let low = digits 256 p n in
    let all : digits 256 at n ≡ low ++ digits 256 j (n / 256 ^ p) = ap (λ (i : ℕ). digits 256 i n) (let q : at ≡ p + j = omega arith in q) ∙ digits_append 256 byte p j n in
    let front : take p out ≡ low =
    ap (take p) (s ∙ ap (λ (d : List ℕ). d ++ drop at base) all ∙ append_assoc low (digits 256 j (n / 256 ^ p)) (drop at base))
    ∙ take_at low (digits 256 j (n / 256 ^ p) ++ drop at base) p (length_digits 256 p n) in
    let sum : at + m ≡ p + r = omega arith in
    let back : drop (p + r) out ≡ drop (p + r) base =
    ap (λ (i : ℕ). drop i out) (sym sum) ∙ sym (drop-drop m at out)
    ∙ ap (drop m) (ap (drop at) s ∙ drop_at (digits 256 at n) (drop at base) at (length_digits 256 at n))
    ∙ drop-drop m at base ∙ ap (λ (i : ℕ). drop i base) sum in
    e
    ∙ ap₂ (λ (a b : List ℕ). a ++ digits 256 r (n / 2 ^ (8 * p)) ++ b) front back
    ∙ ap (λ (z : ℕ). low ++ digits 256 r (n / z) ++ drop (p + r) base) (sym (pow_pow 2 8 p))
    ∙ ap (λ (a : List ℕ). a ++ drop (p + r) base) (sym (digits_append 256 byte p r n))

-- what is written over keeps its length
pub stands_length : (p n : ℕ) (base out : List ℕ) → p ≤ length base → out ≡ digits 256 p n ++ drop p base → length out ≡ length base
stands_length p n base out h s =
    ap length s ∙ length-append (digits 256 p n) (drop p base)
    ∙ ap₂ ◌+◌ (length_digits 256 p n) (length-drop p base) ∙ (let q : p + (length base - p) ≡ length base = omega arith in q)

pub standing_none : (w n : ℕ) (base : List ℕ) → Standing w 0 n base base
unfolding digits
standing_none w n base = ap (λ (i : ℕ). digits 256 i n ++ drop i base) (let q : 0 ≡ min 0 w = omega arith in q)

pub standing_all : (w at n : ℕ) (base out : List ℕ) → w ≤ at → Standing w at n base out → out ≡ digits 256 w n ++ drop w base
standing_all w at n base out h s = s ∙ ap (λ (i : ℕ). digits 256 i n ++ drop i base) (let q : min at w ≡ w = omega arith in q)

-- where all stand, they stand on
pub standing_past : (w at n : ℕ) (base out : List ℕ) → w ≤ at → Standing w at n base out → Standing w (at + 8) n base out
standing_past w at n base out h s = s ∙ ap (λ (i : ℕ). digits 256 i n ++ drop i base) (let q : min at w ≡ min (at + 8) w = omega arith in q)

-- a word stored at p: at the next place, or at the last that has room for it
pub standing_word : (w at p n x : ℕ) (base out next : List ℕ) → at < w → p ≤ at → at ≤ p + 8 → p + 8 ≡ min (at + 8) w → x ≡ n / 2 ^ (8 * p) % 2 ^ 64
    → next ≡ take p out ++ digits 256 8 x ++ drop (p + 8) out → Standing w at n base out → Standing w (at + 8) n base next
standing_word w at p n x base out next l h k e is f s =
    piece_stands n at p 8 base out next h k
    (s ∙ ap (λ (i : ℕ). digits 256 i n ++ drop i base) (let q : min at w ≡ at = omega arith in q))
    (f ∙ ap (λ (d : List ℕ). take p out ++ d ++ drop (p + 8) out) (ap (digits 256 8) is ∙ digits_mod 256 byte 8 (n / 2 ^ (8 * p))))
    ∙ ap (λ (i : ℕ). digits 256 i n ++ drop i base) e

-- ---- what stands after k of the words of a block

pub stands_next : (w n : ℕ) (base : List ℕ) (k : ℕ) (out : List ℕ) → Standing (4 * w) (8 * k) n base out → Standing (4 * w) (8 * (k + 1)) n base (word_put w k n out)
stands_next w n base k out s = go (le_or_lt w (2 * k))
  where
    go : (w ≤ 2 * k) ⊎ (2 * k < w) → Standing (4 * w) (8 * (k + 1)) n base (word_put w k n out)
    go (inl h) = sym (put_none w k n out h) ∙ s ∙ ap (λ (i : ℕ). digits 256 i n ++ drop i base) (let q : min (8 * k) (4 * w) ≡ min (8 * (k + 1)) (4 * w) = omega arith in q)
    go (inr h) =
        let i = 8 * k in
        let r = min 8 (4 * w - i) in
        let e : min (i + 8) (4 * w) ≡ i + r = omega arith in
        piece_stands n i i r base out (word_put w k n out) (omega arith) (omega arith)
        (s ∙ ap (λ (j : ℕ). digits 256 j n ++ drop j base) (let q : min (8 * k) (4 * w) ≡ 8 * k = omega arith in q))
        (sym (some w k n out h) ∙ ap₂ (λ (b j : ℕ). take i out ++ digits 256 r (n / 2 ^ b) ++ drop j out) (let q : 64 * k ≡ 8 * (8 * k) = omega arith in q) e)
        ∙ ap (λ (j : ℕ). digits 256 j n ++ drop j base) (let q : i + r ≡ min (8 * (k + 1)) (4 * w) = omega arith in q)

pub stands_four : (w n : ℕ) (base : List ℕ) (k : ℕ) (out next : List ℕ) → Standing (4 * w) (8 * k) n base out
    → next ≡ word_put w (k + 3) n (word_put w (k + 2) n (word_put w (k + 1) n (word_put w k n out))) → Standing (4 * w) (8 * (k + 4)) n base next
stands_four w n base k out next s e =
    let one = word_put w k n out in
    let two = word_put w (k + 1) n one in
    let three = word_put w (k + 2) n two in
    let a = stands_next w n base k out s in
    let b = subst (λ (i : ℕ). Standing (4 * w) (8 * i) n base two) (let q : k + 1 + 1 ≡ k + 2 = omega arith in q) (stands_next w n base (k + 1) one a) in
    let c = subst (λ (i : ℕ). Standing (4 * w) (8 * i) n base three) (let q : k + 2 + 1 ≡ k + 3 = omega arith in q) (stands_next w n base (k + 2) two b) in
    e ∙ subst (λ (i : ℕ). Standing (4 * w) (8 * i) n base (word_put w (k + 3) n three)) (let q : k + 3 + 1 ≡ k + 4 = omega arith in q) (stands_next w n base (k + 3) three c)
