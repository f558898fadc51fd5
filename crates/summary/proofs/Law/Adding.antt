-- The copy with its summary, as it is written: the bytes, the number of side parts in its place, the entry of the side table number by number, and the part.
use mathlib.Core.Path.{◌≡◌, sym, ap, ap₂, ◌∙◌}
use mathlib.Core.List.{List, ◌++◌, append_assoc, append-nil}
use Prim.Native.Nat.{ℕ, ◌+◌, ◌-◌, ◌≤◌}
use native.Mathlib.Omega.{arith}
use lib.ListN.{length, take, drop, length-append}
use lib.Seq.{take-append-le, drop-append-le}
use borrow.Rule.Slice.PartMut.{put_mid}
use Rattle.blocks.specs.Bytes.{digits}
use Rattle.blocks.proofs.Law.Digits.{length_digits}
use Rattle.stream.specs.Writing.{spell, entries, parts, placed, add_sides}
use Rattle.stream.specs.Lent.{landed}
use Rattle.stream.proofs.Law.Plain.Appended.{landed_mid}
use Rattle.summary.specs.Summary.{summary_id, summary, with_summary}
use Rattle.summary.proofs.Law.Grown.{grown}
use Rattle.summary.proofs.Law.Copy.{length_placed}

-- a number in its place in the header leaves what lies behind the bytes as it was
placed_over : (at n : ℕ) (s base o now : List ℕ) → at + 4 ≤ length s → o ≡ s ++ base → now ≡ take at o ++ digits 256 4 n ++ drop (at + 4) o → now ≡ placed at n s ++ base
unfolding placed
placed_over at n s base o now fits is-o is-now =
    is-now
    ∙ ap₂ (λ (a b : List ℕ). (a ++ digits 256 4 n) ++ b)
    (ap (take at) is-o ∙ take-append-le at s base (omega (arith, fits)))
    (ap (drop (at + 4)) is-o ∙ drop-append-le (at + 4) s base fits)
    ∙ sym (append_assoc (take at s ++ digits 256 4 n) (drop (at + 4) s) base)

module _ (s : List ℕ) where
  -- piece by piece
  abbrev front : List ℕ
  front = placed 40 1 s

  abbrev with_id : List ℕ
  with_id = front ++ digits 256 4 1

  abbrev with_place : List ℕ
  with_place = with_id ++ digits 256 4 (length s + 12)

  abbrev with_length : List ℕ
  with_length = with_place ++ digits 256 4 (length (summary s))

  pieces : with_summary s ≡ with_length ++ summary s
  unfolding with_summary add_sides spell entries parts summary_id
  pieces =
      ap₂ (λ (a b : List ℕ). (front ++ a) ++ b)
      (ap (λ (a : List ℕ). digits 256 4 1 ++ (digits 256 4 (length s + 12) ++ a)) (append-nil (digits 256 4 (length (summary s)))))
      (append-nil (summary s))
      ∙ ap (λ (a : List ℕ). a ++ summary s)
      (sym (append_assoc front (digits 256 4 1) (digits 256 4 (length s + 12) ++ digits 256 4 (length (summary s))))
      ∙ sym (append_assoc with_id (digits 256 4 (length s + 12)) (digits 256 4 (length (summary s)))))

  module _ (fits : 48 ≤ length s) where
    length_front : length front ≡ length s
    length_front = length_placed 40 1 s (omega (arith, fits))

    length_id : length with_id ≡ length s + 4
    length_id = length-append front (digits 256 4 1) ∙ ap₂ ◌+◌ length_front (length_digits 256 4 1)

    length_place : length with_place ≡ length s + 8
    length_place =
        length-append with_id (digits 256 4 (length s + 12)) ∙ ap₂ ◌+◌ length_id (length_digits 256 4 (length s + 12))
        ∙ (let e : length s + 4 + 4 ≡ length s + 8 = omega arith in e)

    length_length : length with_length ≡ length s + 12
    length_length =
        length-append with_place (digits 256 4 (length (summary s))) ∙ ap₂ ◌+◌ length_place (length_digits 256 4 (length (summary s)))
        ∙ (let e : length s + 8 + 4 ≡ length s + 12 = omega arith in e)

    pub length_with : length (with_summary s) ≡ length s + 12 + length (summary s)
    length_with = ap length pieces ∙ length-append with_length (summary s) ∙ ap (λ (n : ℕ). n + length (summary s)) length_length

    -- as the code writes them: the bytes, the number at 40, three numbers, and the part
    pub copy_put : (base o o1 o2 o3 o4 ys : List ℕ) (long : ℕ) → long ≡ length (summary s)
        → o ≡ s ++ drop (length s) base
        → o1 ≡ take 40 o ++ digits 256 4 1 ++ drop 44 o
        → o2 ≡ take (length s) o1 ++ digits 256 4 1 ++ drop (length s + 4) o1
        → o3 ≡ take (length s + 4) o2 ++ digits 256 4 (length s + 12) ++ drop (length s + 4 + 4) o2
        → o4 ≡ take (length s + 8) o3 ++ digits 256 4 long ++ drop (length s + 8 + 4) o3
        → ys ≡ summary s ++ drop long (take (length o4 - (length s + 12)) (drop (length s + 12) o4))
        → put_mid (length s + 12) (length o4 - (length s + 12)) o4 ys ≡ with_summary s ++ drop (length (with_summary s)) base
    unfolding landed
    copy_put base o o1 o2 o3 o4 ys long is e e1 e2 e3 e4 e5 =
        let f1 = placed_over 40 1 s (drop (length s) base) o o1 (omega (arith, fits)) e e1 in
        let f2 = grown front (digits 256 4 1) base o1 o2 (length s) 4 length_front f1 e2 in
        let f3 = grown with_id (digits 256 4 (length s + 12)) base o2 o3 (length s + 4) 4 length_id f2 e3 in
        let f4 = grown with_place (digits 256 4 long) base o3 o4 (length s + 8) 4 length_place
        (f3 ∙ ap (λ (n : ℕ). with_place ++ drop n base) (let q : length s + 4 + 4 ≡ length s + 8 = omega arith in q)) e4 in
        let f5 = grown with_length (summary s) base o4 (put_mid (length s + 12) (length o4 - (length s + 12)) o4 ys) (length s + 12) (length (summary s)) length_length
        (f4 ∙ ap₂ (λ (a n : ℕ). (with_place ++ digits 256 4 a) ++ drop n base) is (let q : length s + 8 + 4 ≡ length s + 12 = omega arith in q))
        (landed_mid (length s + 12) long (summary s) o4 ys (sym is) e5) in
        f5 ∙ ap₂ (λ (a : List ℕ) (n : ℕ). a ++ drop n base) (sym pieces) (sym length_with)
