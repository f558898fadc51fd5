-- The summary as bytes: entry j stands at j times the length of an entry, and bytes are an entry exactly when the three numbers read from them are its numbers.
use mathlib.Core.Path.{◌≡◌, refl, sym, ap, ap₂, subst, ◌∙◌}
use mathlib.Core.Logic.{⊎_elim}
use mathlib.Core.Bool.{Bool, true, false, false≢true}
use mathlib.Core.List.{List, [], ◌∷◌, ◌++◌, append_assoc}
use Prim.Native.Nat.{ℕ, zero, suc, ◌+◌, ◌-◌, ◌*◌, ◌/◌, ◌^◌, ◌≤◌, ◌<◌}
use native.Mathlib.Nat.{zero-mul, suc-mul, mul-le-mul_right}
use native.Mathlib.Numerals.{add-one}
use native.Mathlib.Omega.{arith}
use borrow.Author.Tests.{eq-eqb, eqb-true}
use lib.Dec.{eqb}
use lib.ListN.{length, take, drop, length-drop, take-append-drop}
use lib.Seq.{take_at, drop_at, drop-drop, take-add, length-take-le}
use Rattle.blocks.specs.Bytes.{Below, number, digits}
use Rattle.blocks.proofs.Law.Digits.{byte, below_drop, below_take, length_digits, digits_number, number_digits_whole}
use Rattle.stream.specs.Setting.{known_width, fraction_bits}
use Rattle.stream.specs.Stream.{joined, chunk_values}
use Rattle.stream.specs.declared.header.Header.{Header}
use Rattle.stream.proofs.Law.Plain.Joined.{length_joined, joined_part}
use Rattle.stream.proofs.Law.Plain.Truth.{and_left, and_right}
use Rattle.stream.proofs.Law.Setting.Allowed.{width_cases}
use Rattle.summary.specs.Entry.{nans_in, smallest, largest, entry_length, entry_bytes}
use Rattle.summary.specs.Summary.{chunk_entry, summary_in, same}
use Rattle.summary.specs.Private.{Accepted}
use Rattle.summary.proofs.Law.Entry.{length_entry, nans_most, smallest_below, largest_below}
use Rattle.summary.proofs.Law.Stream.{known}
use Rattle.summary.proofs.Law.Values.{values_below, values_few}

-- ---- "byte for byte"

pub same_refl : (xs : List ℕ) → same xs xs ≡ true
unfolding same
same_refl [] = refl
same_refl (x ∷ xs) = rw (eq-eqb x x refl, same_refl xs)

pub same_equal : (xs ys : List ℕ) → same xs ys ≡ true → xs ≡ ys
unfolding same
same_equal [] [] e = refl
same_equal [] (y ∷ ys) e = absurd (false≢true e)
same_equal (x ∷ xs) [] e = absurd (false≢true e)
same_equal (x ∷ xs) (y ∷ ys) e =
    ap₂ (λ (z : ℕ) (zs : List ℕ). z ∷ zs) (eqb-true x y (and_left (eqb x y) (same xs ys) e)) (same_equal xs ys (and_right (eqb x y) (same xs ys) e))

pub same_other : (xs ys : List ℕ) → (xs ≡ ys → ⊥) → same xs ys ≡ false
same_other xs ys n = go (same xs ys) refl
  where
    go : (b : Bool) → same xs ys ≡ b → same xs ys ≡ false
    go true e = absurd (n (same_equal xs ys e))
    go false e = e

-- ---- entries side by side

-- of n entries of E bytes, the entry j lies within
pub entry_inside : (E j n : ℕ) → j < n → j * E + E ≤ n * E
entry_inside E j n l = omega (arith, suc-mul j E, mul-le-mul_right E l)

module _ (h : Header) (s : List ℕ) where
  abbrev E : ℕ
  E = entry_length h.width

  length_next : (j : ℕ) → length (joined (chunk_entry h s) (suc j)) ≡ length (joined (chunk_entry h s) j) + E
  unfolding chunk_entry
  length_next j = length_joined (chunk_entry h s) j ∙ ap (λ (n : ℕ). length (joined (chunk_entry h s) j) + n) (length_entry h.width (fraction_bits h.width) (chunk_values h s j))

  pub length_entries : (j : ℕ) → length (joined (chunk_entry h s) j) ≡ j * E
  unfolding joined
  length_entries zero = sym (zero-mul E)
  length_entries (suc j) = length_next j ∙ ap (λ (n : ℕ). n + E) (length_entries j) ∙ sym (suc-mul j E)

  pub length_summary : length (summary_in h s) ≡ h.chunks * E
  unfolding summary_in
  length_summary = length_entries h.chunks

  -- bytes that have the summary from a place on have its entry j there
  pub entry_stands : (xs : List ℕ) (place : ℕ) → take (h.chunks * E) (drop place xs) ≡ summary_in h s → (j : ℕ) → j < h.chunks → take E (drop (place + j * E) xs) ≡ chunk_entry h s j
  unfolding summary_in
  entry_stands xs place is j l =
      let f = chunk_entry h s in
      let n = h.chunks * E in
      let rest = drop n (drop place xs) in
      let whole : drop place xs ≡ joined f h.chunks ++ rest = sym (take-append-drop n (drop place xs)) ∙ ap (λ (ys : List ℕ). ys ++ rest) is in
      let long : E ≡ length (joined f (j + 1)) - length (joined f j) = omega (arith, length_next j, ap (λ (k : ℕ). length (joined f k)) (add-one j)) in
      ap (take E) (sym (drop-drop (j * E) place xs) ∙ ap (drop (j * E)) whole)
      ∙ ap₂ (λ (a b : ℕ). take a (drop b (joined f h.chunks ++ rest))) long (sym (length_entries j))
      ∙ joined_part f j h.chunks rest l

  -- one entry more of a part that is the summary so far
  pub one_more : (part : List ℕ) (j : ℕ) → take (j * E) part ≡ joined (chunk_entry h s) j → take E (drop (j * E) part) ≡ chunk_entry h s j
      → take ((j + 1) * E) part ≡ joined (chunk_entry h s) (j + 1)
  unfolding joined
  one_more part j front next =
      ap (λ (k : ℕ). take (k * E) part) (add-one j)
      ∙ ap (λ (k : ℕ). take k part) (suc-mul j E)
      ∙ take-add (j * E) E part
      ∙ ap₂ ◌++◌ front next
      ∙ ap (joined (chunk_entry h s)) (sym (add-one j))

-- ---- the pieces of an entry

module _ (n k : ℕ) (ys : List ℕ) where
  pieces : take (n + 2 * k) ys ≡ take n ys ++ take k (drop n ys) ++ take k (drop (n + k) ys)
  pieces =
      ap (λ (l : ℕ). take l ys) (let e : n + 2 * k ≡ n + k + k = omega arith in e)
      ∙ take-add (n + k) k ys
      ∙ ap (λ (l : List ℕ). l ++ take k (drop (n + k) ys)) (take-add n k ys)

  pieces_apart : (a b c : List ℕ) → take (n + 2 * k) ys ≡ a ++ b ++ c → length a ≡ n → length b ≡ k → length c ≡ k
      → (take n ys ≡ a) × (take k (drop n ys) ≡ b) × (take k (drop (n + k) ys) ≡ c)
  pieces_apart a b c e la lb lc =
      let r = drop (n + 2 * k) ys in
      let all : ys ≡ a ++ (b ++ (c ++ r)) =
      sym (take-append-drop (n + 2 * k) ys) ∙ ap (λ (l : List ℕ). l ++ r) e ∙ append_assoc (a ++ b) c r ∙ append_assoc a b (c ++ r) in
      let two : drop n ys ≡ b ++ (c ++ r) = ap (drop n) all ∙ drop_at a (b ++ (c ++ r)) n la in
      let three : drop (n + k) ys ≡ c ++ r = sym (drop-drop k n ys) ∙ ap (drop k) two ∙ drop_at b (c ++ r) k lb in (
        ap (take n) all ∙ take_at a (b ++ (c ++ r)) n la,
        ap (take k) two ∙ take_at b (c ++ r) k lb,
        ap (take k) three ∙ take_at c r k lc,
      )

-- k bytes are the digits of the number that they spell
spelt : (k x : ℕ) (ys : List ℕ) → Below 256 ys → k ≤ length ys → number 256 (take k ys) ≡ x → take k ys ≡ digits 256 k x
spelt k x ys below long e =
    sym (digits_number 256 byte (take k ys) (below_take 256 k ys below)) ∙ ap₂ (digits 256) (length-take-le k ys long) e

-- ---- the bytes of an entry, and the numbers that are read from them

bytes_of : (W : ℕ) → known_width W ≡ true → 2 ^ W ≡ 256 ^ (W / 8)
bytes_of W known = ⊎_elim (λ e. subst (λ (w : ℕ). 2 ^ w ≡ 256 ^ (w / 8)) (sym e) refl) (λ e. subst (λ (w : ℕ). 2 ^ w ≡ 256 ^ (w / 8)) (sym e) refl) (width_cases W known)

module _ (h : Header) (s : List ℕ) (a : Accepted h s) (j : ℕ) (l : j < h.chunks) where
  abbrev W : ℕ
  W = h.width

  abbrev m : ℕ
  m = fraction_bits h.width

  abbrev vs : List ℕ
  vs = chunk_values h s j

  few : nans_in W m vs < 256 ^ 4
  few = let n : nans_in W m vs ≤ 1024 = omega (arith, nans_most W m vs, values_few h s j) in omega (arith, n)

  small : smallest W m vs < 256 ^ (W / 8)
  small = subst (λ (n : ℕ). smallest W m vs < n) (bytes_of W (known h s a)) (smallest_below W m vs (values_below h s a j l))

  large : largest W m vs < 256 ^ (W / 8)
  large = subst (λ (n : ℕ). largest W m vs < n) (bytes_of W (known h s a)) (largest_below W m vs (values_below h s a j l))

  module _ (xs : List ℕ) (at : ℕ) where
    -- the bytes from `at` on say of the chunk j what its values are
    abbrev pub Says : Type 0
    Says =
        (number 256 (take 4 (drop at xs)) ≡ nans_in h.width (fraction_bits h.width) (chunk_values h s j))
        × (number 256 (take (h.width / 8) (drop (at + 4) xs)) ≡ smallest h.width (fraction_bits h.width) (chunk_values h s j))
        × (number 256 (take (h.width / 8) (drop (at + 4 + h.width / 8) xs)) ≡ largest h.width (fraction_bits h.width) (chunk_values h s j))

    behind : drop (4 + W / 8) (drop at xs) ≡ drop (at + 4 + W / 8) xs
    behind = drop-drop (4 + W / 8) at xs ∙ ap (λ (n : ℕ). drop n xs) (let e : at + (4 + W / 8) ≡ at + 4 + W / 8 = omega arith in e)

    pub entry_says_lem : take (entry_length h.width) (drop at xs) ≡ chunk_entry h s j → Says
    unfolding chunk_entry entry_bytes entry_length
    entry_says_lem e =
        let p = pieces_apart 4 (W / 8) (drop at xs) (digits 256 4 (nans_in W m vs)) (digits 256 (W / 8) (smallest W m vs)) (digits 256 (W / 8) (largest W m vs)) e
        (length_digits 256 4 (nans_in W m vs)) (length_digits 256 (W / 8) (smallest W m vs)) (length_digits 256 (W / 8) (largest W m vs)) in (
          ap (number 256) p.0 ∙ number_digits_whole 256 byte 4 (nans_in W m vs) few,
          ap (λ (ys : List ℕ). number 256 (take (W / 8) ys)) (sym (drop-drop 4 at xs)) ∙ ap (number 256) p.1 ∙ number_digits_whole 256 byte (W / 8) (smallest W m vs) small,
          ap (λ (ys : List ℕ). number 256 (take (W / 8) ys)) (sym behind) ∙ ap (number 256) p.2 ∙ number_digits_whole 256 byte (W / 8) (largest W m vs) large,
        )

    pub says_entry : Below 256 xs → at + entry_length h.width ≤ length xs → Says → take (entry_length h.width) (drop at xs) ≡ chunk_entry h s j
    unfolding chunk_entry entry_bytes entry_length
    says_entry below long says =
        let k = W / 8 in
        let one = spelt 4 (nans_in W m vs) (drop at xs) (below_drop 256 at xs below) (omega (arith, length-drop at xs)) says.0 in
        let two = spelt k (smallest W m vs) (drop (at + 4) xs) (below_drop 256 (at + 4) xs below) (omega (arith, length-drop (at + 4) xs)) says.1 in
        let three = spelt k (largest W m vs) (drop (at + 4 + k) xs) (below_drop 256 (at + 4 + k) xs below) (omega (arith, length-drop (at + 4 + k) xs)) says.2 in
        pieces 4 k (drop at xs)
        ∙ ap₂ ◌++◌ (ap₂ ◌++◌ one (ap (take k) (drop-drop 4 at xs) ∙ two)) (ap (take k) behind ∙ three)
