-- A group's codes block by block: 32 codes of w bits are 4w whole bytes, so what follows them is read from there on as if it were the start. Over the width,
-- the counts and the place.
-- Assumes nothing.
use mathlib.Core.Path.{◌≡◌, refl, sym, ap, ap₂, ◌∙◌, subst}
use mathlib.Core.Bool.{Bool, true, false, ◌&&◌}
use mathlib.Core.Logic.{◌⊎◌, inl, inr}
use mathlib.Core.List.{List, [], ◌∷◌, ◌++◌, append-nil}
use Prim.Native.Nat.{ℕ, ◌+◌, ◌-◌, ◌*◌, ◌/◌, ◌^◌, ◌≤◌, ◌<◌, min, max}
use native.Mathlib.Nat.{le_antisymm, le-max_left, le-max_right, max-le, lt_of_lt_of_le, mul-add, mul-le-mul_left}
use native.Mathlib.Omega.{arith}
use borrow.Author.Tests.{eq-eqb, ne_eqb, eqb-true, eqb-false}
use lib.Dec.{leb, eqb}
use lib.ListN.{length, take, drop, replicate, length-take, length-drop, get_or-append}
use lib.Pow.{pow_pos, pow_mono, shr-shr}
use lib.Seq.{take_at, take_all, drop-drop, get_or-append-add}
use Rattle.blocks.specs.Bytes.{Below, number, digits}
use Rattle.numbers.specs.Difference.{running_sums, last_of}
use Rattle.numbers.proofs.Theorems.{an_append_carries_on, sums_of_an_append}
use Rattle.stream.specs.Block.{block_codes}
use Rattle.stream.specs.Group.{bytes_for, width_of, given_width, group_length, group_codes, within}
use Rattle.blocks.proofs.Law.Digits.{byte, everywhere, below_append, below_drop, length_digits, digits_below, digits_append, number_drop}
use Rattle.blocks.proofs.Law.Truth.{le_or_lt}
use Rattle.blocks.proofs.Law.Words.{pow_pow}
use Rattle.stream.proofs.Law.Group.Reading.{codes_from, no_bits}
use Rattle.stream.proofs.Law.Group.RoundTrip.{width_holds, width_least, length_codes}

-- ---- the codes of a block

-- a group's codes are read behind its first byte, which says their width
pub codes_are : (n w : ℕ) (s : List ℕ) → Below 256 s → w ≡ given_width s → group_codes n s ≡ block_codes w n s
unfolding block_codes
codes_are n w s bytes is = codes_from n s bytes ∙ ap (λ (k : ℕ). digits (2 ^ k) n (number 256 s / 256)) (sym is)

module _ (w n : ℕ) (s : List ℕ) where
  pub length_block : length (block_codes w n s) ≡ n
  unfolding block_codes
  length_block = length_digits (2 ^ w) n (number 256 s / 256)

  pub block_below : Below (2 ^ w) (block_codes w n s)
  unfolding block_codes
  block_below i = digits_below (2 ^ w) (pow_pos w) n (number 256 s / 256) i

pub no_block : (w : ℕ) (s : List ℕ) → block_codes w 0 s ≡ []
unfolding block_codes digits
no_block w s = refl

-- codes of no bits are zeros
pub zero_block : (n : ℕ) (s : List ℕ) → block_codes 0 n s ≡ replicate n 0
unfolding block_codes
zero_block n s = no_bits n (number 256 s / 256)

-- what a full block opens into, with nothing behind it
pub opened_codes : (w n : ℕ) (s : List ℕ) → n ≡ 32 → digits (2 ^ w) 32 (number 256 s / 2 ^ 8) ++ [] ≡ block_codes w n s
unfolding block_codes
opened_codes w n s is = append-nil (digits (2 ^ w) 32 (number 256 s / 256)) ∙ ap (λ (k : ℕ). digits (2 ^ w) k (number 256 s / 256)) (sym is)

-- a full group of 32 is one block
pub one_block : (n w : ℕ) (s : List ℕ) → Below 256 s → w ≡ given_width s → n ≡ 32 → group_codes n s ≡ block_codes w 32 s
one_block n w s bytes is full = codes_are n w s bytes is ∙ ap (λ (k : ℕ). block_codes w k s) full

-- ---- what follows some codes that are whole bytes

pub block_split : (w p n f : ℕ) (s : List ℕ) → Below 256 s → w * p ≡ 8 * f → block_codes w (p + n) s ≡ block_codes w p s ++ block_codes w n (drop f s)
unfolding block_codes
block_split w p n f s bytes whole =
    let N : ℕ = number 256 s in
    digits_append (2 ^ w) (pow_pos w) p n (N / 256)
    ∙ ap (λ (m : ℕ). digits (2 ^ w) p (N / 256) ++ digits (2 ^ w) n m)
    (ap (λ (q : ℕ). N / 256 / q) (pow_pow 2 w p)
    ∙ shr-shr N 8 (w * p)
    ∙ ap (λ (k : ℕ). N / 2 ^ k) (let e : 8 + w * p ≡ 8 * f + 8 = omega arith in e)
    ∙ sym (ap (λ (m : ℕ). m / 256) (number_drop 256 byte f s bytes ∙ ap (λ (q : ℕ). N / q) (pow_pow 2 8 f)) ∙ shr-shr N (8 * f) 8))

-- the bytes of some codes, and of more
pub bytes_fewer : (w m n : ℕ) → m ≤ n → bytes_for w m ≤ bytes_for w n
unfolding bytes_for
bytes_fewer w m n h = omega (arith, mul-le-mul_left w h)

pub bytes_split : (w p n f : ℕ) → w * p ≡ 8 * f → bytes_for w (p + n) ≡ f + bytes_for w n
unfolding bytes_for
bytes_split w p n f whole = omega (arith, mul-add w p n)

-- 32 codes are 4w bytes
full : (w : ℕ) → w * 32 ≡ 8 * (4 * w)
full w = omega arith

-- ---- block by block: `left` codes stand from the byte `from` on, and the next `count` of them are a block

-- The block is read from the part that is lent, which is all from there on. Behind the last block no codes are left, wherever they would stand.
pub next_block : (w left count from : ℕ) (s : List ℕ) → Below 256 s → count ≡ min 32 left
    → block_codes w left (drop from s) ≡ block_codes w count (take (length s - from) (drop from s)) ++ block_codes w (left - count) (drop (from + 4 * w) s)
next_block w left count from s bytes is =
    go (le_or_lt left 32)
    ∙ ap (λ (r : List ℕ). block_codes w count r ++ block_codes w (left - count) (drop (from + 4 * w) s)) (sym (take_all (length s - from) (drop from s) (rw (length-drop from s) (omega arith))))
  where
    go : (left ≤ 32) ⊎ (32 < left) → block_codes w left (drop from s) ≡ block_codes w count (drop from s) ++ block_codes w (left - count) (drop (from + 4 * w) s)
    go (inl h) =
        let all : left ≡ count = omega arith in
        let none : left - count ≡ 0 = omega arith in
        sym (append-nil (block_codes w left (drop from s)))
        ∙ ap₂ (λ (k : ℕ) (r : List ℕ). block_codes w k (drop from s) ++ r) all
        (sym (ap (λ (k : ℕ). block_codes w k (drop (from + 4 * w) s)) none ∙ no_block w (drop (from + 4 * w) s)))
    go (inr h) =
        let more : left ≡ 32 + (left - count) = omega arith in
        let first : 32 ≡ count = omega arith in
        ap (λ (k : ℕ). block_codes w k (drop from s)) more
        ∙ block_split w 32 (left - count) (4 * w) (drop from s) (below_drop 256 from s bytes) (full w)
        ∙ ap₂ (λ (k : ℕ) (r : List ℕ). block_codes w k (drop from s) ++ block_codes w (left - count) r) first (drop-drop (4 * w) from s)

-- where a walk stands: the codes that are left are there
pub record Along (w : ℕ) (s : List ℕ) (left from : ℕ) : Type 0 where
  pub few : 0 < left → from + 8 * left ≤ 1024
  pub there : 0 < left → from + bytes_for w left < length s

pub starts_along : {w : ℕ} (n : ℕ) {s : List ℕ} → n ≤ 128 → w ≡ given_width s → group_length n s ≤ length s → Along w s n 0
unfolding group_length
starts_along n most is whole = record { few = λ h. omega arith; there = λ h. rw is (omega arith) }

-- what a turn takes: the block is there, and the walk goes on behind it
pub record Next (w : ℕ) (s : List ℕ) (left count from : ℕ) : Type 0 where
  pub inside : from ≤ length s
  pub there : bytes_for w count < length (take (length s - from) (drop from s))
  pub near : from + 4 * w ≤ 1280
  pub on : Along w s (left - count) (from + 4 * w)

pub next : {w left count from : ℕ} {s : List ℕ} → Along w s left from → 0 < left → count ≡ min 32 left → w ≤ 64 → Next w s left count from
next {w = w} {left = left} {count = count} {from = from} {s = s} a some is narrow = record {
  inside = omega (arith, a.there some);
  there = simp (length-take, length-drop) (omega (arith, a.there some, bytes_fewer w count left (omega arith)));
  near = omega (arith, a.few some);
  on = record { few = λ h. omega (arith, a.few some); there = far };
}
  where
    far : 0 < left - count → from + 4 * w + bytes_for w (left - count) < length s
    far h =
        let more : 32 + (left - count) ≡ left = omega arith in
        omega (arith, a.there some, ap (bytes_for w) (sym more) ∙ bytes_split w 32 (left - count) (4 * w) (full w))

-- ---- the width, and the limit, of two lists of codes

pub width_append : (xs ys : List ℕ) → width_of (xs ++ ys) ≡ max (width_of xs) (width_of ys)
width_append xs ys =
    let m : ℕ = max (width_of xs) (width_of ys) in
    let w : ℕ = width_of (xs ++ ys) in
    le_antisymm
    (width_least m (xs ++ ys)
    (below_append (2 ^ m) xs ys (λ i. lt_of_lt_of_le (width_holds xs i) (pow_mono (le-max_left (width_of xs) (width_of ys))))
    (λ i. lt_of_lt_of_le (width_holds ys i) (pow_mono (le-max_right (width_of xs) (width_of ys))))))
    (max-le
    (width_least w xs (everywhere (λ (x : ℕ). x < 2 ^ w) xs (pow_pos w) (λ k h. subst (λ (x : ℕ). x < 2 ^ w) (get_or-append xs ys 0 k h) (width_holds (xs ++ ys) k))))
    (width_least w ys (λ i. subst (λ (x : ℕ). x < 2 ^ w) (get_or-append-add xs ys i 0) (width_holds (xs ++ ys) (length xs + i)))))

pub within_append : (U : ℕ) (xs ys : List ℕ) → within U (xs ++ ys) ≡ (within U xs && within U ys)
unfolding within
within_append U [] ys = refl
within_append U (x ∷ xs) ys = ap (λ (b : Bool). leb (x / 2) U && b) (within_append U xs ys) ∙ go (leb (x / 2) U)
  where
    go : (b : Bool) → (b && (within U xs && within U ys)) ≡ ((b && within U xs) && within U ys)
    go true = refl
    go false = refl

-- w is the width of codes of w bits: the first block that needs it settles it, and one that does not leaves it to the rest
module _ (w : ℕ) (xs ys : List ℕ) (below : Below (2 ^ w) xs) where
  pub reached_here : Below (2 ^ w) ys → w ≡ width_of xs → eqb w (width_of (xs ++ ys)) ≡ true
  reached_here rest e = eq-eqb w (width_of (xs ++ ys)) (omega (arith, e, width_append xs ys, width_least w ys rest))

  pub reached_later : (w ≡ width_of xs → ⊥) → eqb w (width_of (xs ++ ys)) ≡ eqb w (width_of ys)
  reached_later other = go (eqb w (width_of ys)) refl
    where
      less : width_of xs < w
      less = omega (arith, other, width_least w xs below)

      go : (b : Bool) → eqb w (width_of ys) ≡ b → eqb w (width_of (xs ++ ys)) ≡ eqb w (width_of ys)
      go true q = eq-eqb w (width_of (xs ++ ys)) (omega (arith, less, eqb-true w (width_of ys) q, width_append xs ys)) ∙ sym q
      go false q =
          let ne = eqb-false w (width_of ys) q in
          ne_eqb w (width_of (xs ++ ys)) (λ z. omega (arith, less, ne, width_append xs ys)) ∙ sym q

-- no codes have no width
pub none_reached : (w : ℕ) → 1 ≤ w → eqb w (width_of []) ≡ false
none_reached w some = ne_eqb w (width_of []) (λ z. omega (arith, width_least 0 [] (λ i. pow_pos 0)))

-- ---- the carry of two lists of codes in mode 2

pub carry_append : (W before after : ℕ) (xs ys : List ℕ) → after ≡ last_of before (running_sums W before xs)
    → last_of before (running_sums W before (xs ++ ys)) ≡ last_of after (running_sums W after ys)
carry_append W before after xs ys is =
    ap (last_of before) (sums_of_an_append W before xs ys)
    ∙ an_append_carries_on before (running_sums W before xs) (running_sums W (last_of before (running_sums W before xs)) ys)
    ∙ ap (λ (b : ℕ). last_of b (running_sums W b ys)) (sym is)

-- the sums of the codes that were read to the front of a scratch
pub sums_of_read : (W before n k : ℕ) (s c out : List ℕ) {codes : List ℕ} → k ≡ n → codes ≡ group_codes n s ++ drop n c
    → running_sums W before (take k codes) ++ drop k out ≡ running_sums W before (group_codes n s) ++ drop n out
sums_of_read W before n k s c out is read =
    ap (λ (cs : List ℕ). running_sums W before (take k cs) ++ drop k out) read
    ∙ ap (λ (j : ℕ). running_sums W before (take j (group_codes n s ++ drop n c)) ++ drop j out) is
    ∙ ap (λ (cs : List ℕ). running_sums W before cs ++ drop n out) (take_at (group_codes n s) (drop n c) n (length_codes n s))
