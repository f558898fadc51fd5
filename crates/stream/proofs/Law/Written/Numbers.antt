-- Numbers of 4 bytes each, lowest byte first: written one by one, in place, and read at their places.
use mathlib.Core.Path.{◌≡◌, refl, sym, ap, ap₂, ◌∙◌}
use mathlib.Core.List.{List, [], ◌∷◌, ◌++◌, append_assoc, append-nil}
use Prim.Native.Nat.{ℕ, zero, suc, ◌+◌, ◌-◌, ◌*◌, ◌^◌, ◌≤◌, ◌<◌}
use native.Mathlib.Numerals.{add-one}
use native.Mathlib.Omega.{arith}
use lib.ListN.{length, take, drop, get_or, replicate, length-append, length-replicate}
use lib.Seq.{split_at, take-suc, take_at, take_all, drop_at, drop-drop, length-take-le}
use Rattle.blocks.specs.Bytes.{Below, number, digits}
use Rattle.stream.specs.Header.{word}
use Rattle.stream.specs.Writing.{spell}
use Rattle.blocks.proofs.Law.Digits.{byte, below_append, length_digits, digits_below, number_digits_whole}

-- ---- numbers one after the other

pub length_spell : (ns : List ℕ) → length (spell ns) ≡ 4 * length ns
unfolding spell
length_spell [] = refl
length_spell (n ∷ ns) =
    length-append (digits 256 4 n) (spell ns) ∙ ap₂ ◌+◌ (length_digits 256 4 n) (length_spell ns)
    ∙ (let e : 4 + 4 * length ns ≡ 4 * suc (length ns) = omega arith in e)

pub spell_append : (ms ns : List ℕ) → spell (ms ++ ns) ≡ spell ms ++ spell ns
unfolding spell
spell_append [] ns = refl
spell_append (m ∷ ms) ns =
    ap (λ (l : List ℕ). digits 256 4 m ++ l) (spell_append ms ns) ∙ sym (append_assoc (digits 256 4 m) (spell ms) (spell ns))

spell_one : (n : ℕ) → spell (n ∷ []) ≡ digits 256 4 n
unfolding spell
spell_one n = append-nil (digits 256 4 n)

pub spell_below : (ns : List ℕ) → Below 256 (spell ns)
unfolding spell
spell_below [] = λ i. byte
spell_below (n ∷ ns) = below_append 256 (digits 256 4 n) (spell ns) (digits_below 256 byte 4 n) (spell_below ns)

-- the number behind ms
around : (ms ns t : List ℕ) (n : ℕ) → spell (ms ++ n ∷ ns) ++ t ≡ spell ms ++ (digits 256 4 n ++ (spell ns ++ t))
unfolding spell
around ms ns t n =
    ap (λ (l : List ℕ). l ++ t) (spell_append ms (n ∷ ns))
    ∙ append_assoc (spell ms) (digits 256 4 n ++ spell ns) t
    ∙ ap (λ (l : List ℕ). spell ms ++ l) (append_assoc (digits 256 4 n) (spell ns) t)

module _ (ms ns t : List ℕ) (at : ℕ) (e : at ≡ 4 * length ms) where
  long : length (spell ms) ≡ at
  long = length_spell ms ∙ sym e

  from : (n : ℕ) → drop at (spell (ms ++ n ∷ ns) ++ t) ≡ digits 256 4 n ++ (spell ns ++ t)
  from n = ap (drop at) (around ms ns t n) ∙ drop_at (spell ms) (digits 256 4 n ++ (spell ns ++ t)) at long

  -- another number put in its place
  pub spell_put : (old n : ℕ)
      → take at (spell (ms ++ old ∷ ns) ++ t) ++ digits 256 4 n ++ drop (at + 4) (spell (ms ++ old ∷ ns) ++ t) ≡ spell (ms ++ n ∷ ns) ++ t
  spell_put old n =
      ap₂ (λ (a b : List ℕ). a ++ digits 256 4 n ++ b)
      (ap (take at) (around ms ns t old) ∙ take_at (spell ms) (digits 256 4 old ++ (spell ns ++ t)) at long)
      (sym (drop-drop 4 at (spell (ms ++ old ∷ ns) ++ t)) ∙ ap (drop 4) (from old) ∙ drop_at (digits 256 4 old) (spell ns ++ t) 4 (length_digits 256 4 old))
      ∙ append_assoc (spell ms) (digits 256 4 n) (spell ns ++ t)
      ∙ sym (around ms ns t n)

  -- and read there
  pub word_at : (n : ℕ) → n < 2 ^ 32 → word (spell (ms ++ n ∷ ns) ++ t) at ≡ n
  unfolding word
  word_at n h =
      ap (λ (l : List ℕ). number 256 (take 4 l)) (from n)
      ∙ ap (number 256) (take_at (digits 256 4 n) (spell ns ++ t) 4 (length_digits 256 4 n))
      ∙ number_digits_whole 256 byte 4 n h

-- the number j of a list, at its place
pub word_spelled : (ns t : List ℕ) (j : ℕ) → Below (2 ^ 32) ns → j < length ns → word (spell ns ++ t) (4 * j) ≡ get_or ns j 0
word_spelled ns t j below h =
    ap (λ (l : List ℕ). word (spell l ++ t) (4 * j)) (split_at ns j 0 h)
    ∙ word_at (take j ns) (drop (suc j) ns) t (4 * j) (ap (λ (n : ℕ). 4 * n) (sym (length-take-le j ns (omega arith)))) (get_or ns j 0) (below j)

-- ---- numbers spelled over what was there: so far the first i

pub none_spelled : (ns base : List ℕ) → base ≡ spell (take 0 ns) ++ drop (4 * 0) base
unfolding spell
none_spelled ns base = refl

pub one_spelled : (ns base out : List ℕ) (i n : ℕ) → i < length ns → n ≡ get_or ns i 0 → out ≡ spell (take i ns) ++ drop (4 * i) base
    → take (4 * i) out ++ digits 256 4 n ++ drop (4 * i + 4) out ≡ spell (take (i + 1) ns) ++ drop (4 * (i + 1)) base
one_spelled ns base out i n h is e =
    let long : length (spell (take i ns)) ≡ 4 * i = length_spell (take i ns) ∙ ap (λ (k : ℕ). 4 * k) (length-take-le i ns (omega arith)) in
    let more : spell (take (i + 1) ns) ≡ spell (take i ns) ++ digits 256 4 n =
    ap (λ (k : ℕ). spell (take k ns)) (add-one i) ∙ ap spell (take-suc ns i 0 h) ∙ spell_append (take i ns) (get_or ns i 0 ∷ [])
    ∙ ap (λ (l : List ℕ). spell (take i ns) ++ l) (spell_one (get_or ns i 0) ∙ ap (digits 256 4) (sym is)) in
    ap₂ (λ (a b : List ℕ). a ++ digits 256 4 n ++ b)
    (ap (take (4 * i)) e ∙ take_at (spell (take i ns)) (drop (4 * i) base) (4 * i) long)
    (sym (drop-drop 4 (4 * i) out) ∙ ap (drop 4) (ap (drop (4 * i)) e ∙ drop_at (spell (take i ns)) (drop (4 * i) base) (4 * i) long)
    ∙ drop-drop 4 (4 * i) base ∙ ap (λ (k : ℕ). drop k base) (let q : 4 * i + 4 ≡ 4 * (i + 1) = omega arith in q))
    ∙ ap (λ (l : List ℕ). l ++ drop (4 * (i + 1)) base) (sym more)

pub all_spelled : (ns base out : List ℕ) (i count : ℕ) → length ns ≡ count → i ≡ count → out ≡ spell (take i ns) ++ drop (4 * i) base
    → out ≡ spell ns ++ drop (4 * count) base
all_spelled ns base out i count l e is =
    is ∙ ap₂ (λ (a : List ℕ) (n : ℕ). spell a ++ drop (4 * n) base) (take_all i ns (omega arith)) e

-- a list and zeros behind it, `count` elements in all
abbrev pub padded : List ℕ → ℕ → List ℕ
padded ns count = ns ++ replicate (count - length ns) 0

pub length_padded : (ns : List ℕ) (count : ℕ) → length ns ≤ count → length (padded ns count) ≡ count
length_padded ns count h =
    length-append ns (replicate (count - length ns) 0) ∙ ap (λ (n : ℕ). length ns + n) (length-replicate (count - length ns) 0)
    ∙ (let q : length ns + (count - length ns) ≡ count = omega arith in q)

-- they change no element
pub get_or_padded : (ns : List ℕ) (k i : ℕ) → get_or (ns ++ replicate k 0) i 0 ≡ get_or ns i 0
get_or_padded [] zero i = refl
get_or_padded [] (suc k) zero = refl
get_or_padded [] (suc k) (suc i) = get_or_padded [] k i
get_or_padded (n ∷ ns) k zero = refl
get_or_padded (n ∷ ns) k (suc i) = get_or_padded ns k i
