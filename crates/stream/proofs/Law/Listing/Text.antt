-- Numbers in decimal, and pieces of text that are written one after the other.
use mathlib.Core.Path.{◌≡◌, sym, ap, ap₂, subst, ◌∙◌}
use mathlib.Core.Logic.{⊎_elim}
use mathlib.Core.List.{List, [], ◌∷◌, ◌++◌, append_assoc, append-nil}
use Prim.Native.Nat.{ℕ, zero, suc, ◌+◌, ◌/◌, ◌%◌, ◌^◌, ◌≤◌, ◌<◌}
use native.Mathlib.Numerals.{add-one}
use native.Mathlib.Omega.{arith}
use native.Mathlib.Nat.{div-lt_iff_lt-mul, pow-suc}
use borrow.Author.Tests.{lt-ltb, le-ltb}
use lib.ListN.{length, get_or, take, drop, set, length-append, length-take, length-drop, take-append-drop}
use lib.Seq.{take_at, take-suc, drop_at, drop-drop, set_split, append_snoc}
use Rattle.stream.specs.Listing.{digit, decimal_in, decimal, labelled, Appends}
use Rattle.blocks.proofs.Law.Truth.{le_or_lt}

-- ---- decimal

small_in : (turns n : ℕ) → n < 10 → decimal_in (suc turns) n ≡ digit n ∷ []
unfolding decimal_in
small_in turns n l = rw (lt-ltb n 10 l)

more_in : (turns n : ℕ) → 10 ≤ n → decimal_in (suc turns) n ≡ decimal_in turns (n / 10) ++ (digit (n % 10) ∷ [])
unfolding decimal_in
more_in turns n l = rw (le-ltb n 10 l)

-- turns that are more than the number never run out, so their count does not matter
turns_free : (f g n : ℕ) → n < f → n < g → decimal_in f n ≡ decimal_in g n
turns_free zero g n lf lg = elim lf [ ]
turns_free (suc f) zero n lf lg = elim lg [ ]
turns_free (suc f) (suc g) n lf lg =
    ⊎_elim
    (λ (l : 10 ≤ n).
    more_in f n l
    ∙ ap (λ (ds : List ℕ). ds ++ (digit (n % 10) ∷ [])) (turns_free f g (n / 10) (omega arith) (omega arith))
    ∙ sym (more_in g n l))
    (λ (l : n < 10). small_in f n l ∙ sym (small_in g n l))
    (le_or_lt 10 n)

pub small : (n : ℕ) → n < 10 → decimal n ≡ digit n ∷ []
unfolding decimal
small n l = small_in n n l

pub more : (n : ℕ) → 10 ≤ n → decimal n ≡ decimal (n / 10) ++ (digit (n % 10) ∷ [])
unfolding decimal
more n l =
    more_in n n l
    ∙ ap (λ (ds : List ℕ). ds ++ (digit (n % 10) ∷ [])) (turns_free n (suc (n / 10)) (n / 10) (omega arith) (omega arith))

pub one_digit : (n : ℕ) → n < 10 → length (decimal n) ≡ 1
one_digit n l = ap length (small n l)

pub digit_more : (n : ℕ) → 10 ≤ n → length (decimal n) ≡ length (decimal (n / 10)) + 1
digit_more n l = ap length (more n l) ∙ length-append (decimal (n / 10)) (digit (n % 10) ∷ [])

-- a number below 10 ^ k has at most k digits
pub few_digits : (k n : ℕ) → n < 10 ^ suc k → length (decimal n) ≤ suc k
few_digits zero n l = rw (small n (omega arith)) (omega arith)
few_digits (suc k) n l =
    ⊎_elim
    (λ (m : 10 ≤ n).
    rw (more n m, length-append)
    (omega (arith, few_digits k (n / 10) ((div-lt_iff_lt-mul (omega arith)).1 (rw pow-suc at l)))))
    (λ (s : n < 10). rw (small n s) (omega arith))
    (le_or_lt 10 n)

-- a number of the machine has at most 20
pub twenty : (n : ℕ) → n < 2 ^ 64 → length (decimal n) ≤ 20
twenty n l = few_digits 19 n (omega (arith, l))

-- ---- pieces

pub nothing_yet : (at : ℕ) (out : List ℕ) → at ≤ length out → Appends [] at at out out
nothing_yet at out l =
    record {
      next_is = omega arith;
      room = l;
      is = sym (ap (λ (s : List ℕ). s ++ drop at out) (append-nil (take at out)) ∙ take-append-drop at out);
    }

pub one_byte : (b at : ℕ) (out : List ℕ) → at < length out → Appends (b ∷ []) at (at + 1) out (set out at b)
one_byte b at out l =
    record {
      next_is = omega arith;
      room = omega arith;
      is = rw add-one (set_split out at b l ∙ sym (append_snoc (take at out) b (drop (suc at) out)));
    }

pub same_piece : {a b : List ℕ} {at next : ℕ} {out new : List ℕ} → a ≡ b → Appends a at next out new → Appends b at next out new
same_piece {at = at} {next = next} {out = out} {new = new} e p = subst (λ (c : List ℕ). Appends c at next out new) e p

module _ {a : List ℕ} {at next : ℕ} {out new : List ℕ} (p : Appends a at next out new) where
  front : length (take at out ++ a) ≡ next
  front = rw (length-append, length-take) (omega (arith, p.next_is, p.room))

  behind : drop next new ≡ drop next out
  behind = ap (drop next) p.is ∙ drop_at (take at out ++ a) (drop next out) next front

  pub keeps_length : length new ≡ length out
  keeps_length = ap length p.is ∙ rw (length-append, length-drop) (omega (arith, front, p.room))

-- a piece, and then another
module _ {a b : List ℕ} {at mid next : ℕ} {out half new : List ℕ} (p : Appends a at mid out half) (q : Appends b mid next half new) where
  rest : drop next half ≡ drop next out
  rest =
      ap (λ (n : ℕ). drop n half) q.next_is
      ∙ sym (drop-drop (length b) mid half)
      ∙ ap (drop (length b)) (behind p)
      ∙ drop-drop (length b) mid out
      ∙ ap (λ (n : ℕ). drop n out) (sym q.next_is)

  pub and_then : Appends (a ++ b) at next out new
  and_then =
      record {
        next_is = rw length-append (omega (arith, p.next_is, q.next_is));
        room = omega (arith, q.room, keeps_length p);
        is =
            q.is
            ∙ ap₂ (λ (s t : List ℕ). s ++ b ++ t) (ap (take mid) p.is ∙ take_at (take at out ++ a) (drop mid out) mid (front p)) rest
            ∙ ap (λ (s : List ℕ). s ++ drop next out) (append_assoc (take at out) a b);
      }

-- one element more of a list that is written element by element
pub one_more : (piece : List ℕ) (i at mid : ℕ) (out half : List ℕ) → Appends (take i piece) at mid out half → i < length piece
    → (next : ℕ) (new : List ℕ) → Appends (get_or piece i 0 ∷ []) mid next half new → Appends (take (i + 1) piece) at next out new
one_more piece i at mid out half p l next new q =
    same_piece (sym (ap (λ (n : ℕ). take n piece) (add-one i) ∙ take-suc piece i 0 l)) (and_then p q)

-- a word and a number below 10 ^ k reach at most so far
pub within_digits : (word : List ℕ) (n : ℕ) {at next : ℕ} {out new : List ℕ} → Appends (labelled word n) at next out new
    → (k : ℕ) → n < 10 ^ suc k → next ≤ at + length word + suc k
unfolding labelled
within_digits word n p k l = omega (arith, p.next_is, length-append word (decimal n), few_digits k n l)
