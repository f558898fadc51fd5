-- A list filled from the front with the differences of another, or with the running sums of one, over the width: one element more, four, and as many
-- as a piece has.
use mathlib.Core.Path.{◌≡◌, refl, sym, ap, ap₂, subst, ◌∙◌}
use mathlib.Core.List.{List, [], ◌∷◌, ◌++◌}
use Prim.Native.Nat.{ℕ, ◌+◌, ◌-◌, ◌≤◌, ◌<◌, zero-le}
use native.Mathlib.Numerals.{add-one}
use native.Mathlib.Omega.{arith}
use lib.ListN.{length, take, drop, get_or, set, length-append, length-drop, take-append-drop, drop_of_length-le}
use lib.Seq.{take-suc-set, length-take-le, take_all, drop-drop}
use borrow.Rule.Slice.PartMut.{put_mid}
use Rattle.numbers.specs.Difference.{difference_code, difference_codes, difference_restored, running_sums, last_of}
use Rattle.numbers.proofs.Theorems.{the_last_of_a_beginning, the_last_sum, one_more_difference, one_more_sum, as_many_sums, sums_of_an_append, no_sums}
use Rattle.stream.proofs.Law.Plain.Mapped.{one_over_there, part_taken}
use Rattle.stream.proofs.Law.Plain.Appended.{Appended, nothing_yet, same_room, one_piece, all_there}

module _ (W before : ℕ) (xs : List ℕ) (i : ℕ) (h : i < length xs) where
  pub one_coded : (ys : List ℕ) → i < length ys → take i ys ≡ difference_codes W before (take i xs)
      → take (i + 1) (set ys i (difference_code W (last_of before (take i xs)) (get_or xs i 0))) ≡ difference_codes W before (take (i + 1) xs)
  one_coded ys l e =
      let x = difference_code W (last_of before (take i xs)) (get_or xs i 0) in
      ap (λ (k : ℕ). take k (set ys i x)) (add-one i)
      ∙ take-suc-set ys i x l
      ∙ ap (λ (l : List ℕ). l ++ (x ∷ [])) e
      ∙ sym (ap (λ (k : ℕ). difference_codes W before (take k xs)) (add-one i) ∙ one_more_difference W before xs i h)

  pub passed_is : last_of before (take (i + 1) xs) ≡ get_or xs i 0
  passed_is = ap (λ (k : ℕ). last_of before (take k xs)) (add-one i) ∙ the_last_of_a_beginning before xs i h

  pub summed_is : last_of before (running_sums W before (take (i + 1) xs)) ≡ difference_restored W (last_of before (running_sums W before (take i xs))) (get_or xs i 0)
  summed_is = ap (λ (k : ℕ). last_of before (running_sums W before (take k xs))) (add-one i) ∙ the_last_sum W before xs i h

  pub one_summed : (base : List ℕ) → i < length base
      → set (running_sums W before (take i xs) ++ drop i base) i (difference_restored W (last_of before (running_sums W before (take i xs))) (get_or xs i 0))
      ≡ running_sums W before (take (i + 1) xs) ++ drop (i + 1) base
  one_summed base l =
      let x = difference_restored W (last_of before (running_sums W before (take i xs))) (get_or xs i 0) in
      one_over_there (running_sums W before (take i xs)) base i x (as_many_sums W before (take i xs) ∙ length-take-le i xs (omega arith)) l
      ∙ ap (λ (s : List ℕ). s ++ drop (i + 1) base) (sym (ap (λ (k : ℕ). running_sums W before (take k xs)) (add-one i) ∙ one_more_sum W before xs i h))

-- so the output keeps its length
pub length_summed : (W before : ℕ) (xs base out : List ℕ) (i : ℕ) → i ≤ length xs → i ≤ length base → out ≡ running_sums W before (take i xs) ++ drop i base
    → length out ≡ length base
length_summed W before xs base out i h l e =
    ap length e ∙ length-append (running_sums W before (take i xs)) (drop i base)
    ∙ ap₂ ◌+◌ (as_many_sums W before (take i xs) ∙ length-take-le i xs h) (length-drop i base) ∙ (let q : i + (length base - i) ≡ length base = omega arith in q)

-- ---- four at a time

pub four_over : (a b c d : ℕ) (out : List ℕ) → 4 ≤ length out → set (set (set (set out 0 a) 1 b) 2 c) 3 d ≡ (a ∷ b ∷ c ∷ d ∷ []) ++ drop 4 out
four_over a b c d [] h = absurd (omega arith)
four_over a b c d (x ∷ []) h = absurd (omega arith)
four_over a b c d (x ∷ y ∷ []) h = absurd (omega arith)
four_over a b c d (x ∷ y ∷ z ∷ []) h = absurd (omega arith)
four_over a b c d (x ∷ y ∷ z ∷ w ∷ out) h = refl

-- ---- the sums of the first n codes, put piece by piece: how far they have come

module _ (W before n : ℕ) (codes base : List ℕ) (h : n ≤ length codes) (l : n ≤ length base) where
  abbrev cs : List ℕ
  cs = take n codes

  abbrev all : List ℕ
  all = running_sums W before cs

  -- the codes from i on stand behind the pattern `last`
  pub record Summed (out : List ℕ) (last i : ℕ) : Type 0 where
    pub within : i ≤ n
    pub put : Appended all (running_sums W last (drop i cs)) base out i

  length_all : length all ≡ n
  length_all = as_many_sums W before cs ∙ length-take-le n codes h

  pub nothing_summed : Summed base before 0
  nothing_summed = record { within = zero-le; put = nothing_yet all base (rw length_all l) }

  module _ (out : List ℕ) (last i : ℕ) (m : Summed out last i) where
    pub summed_room : length out ≡ length base
    summed_room = same_room _ _ _ _ _ m.put

    -- the next k codes, as they are lent
    abbrev lent : ℕ → List ℕ
    lent k = take k (take (length codes - i) (drop i codes))

    lent_is : (k : ℕ) → i + k ≤ n → lent k ≡ take k (drop i cs)
    lent_is k e = ap (take k) (take_all (length codes - i) (drop i codes) (rw (length-drop i codes) (omega arith))) ∙ sym (part_taken k i n codes e)

    pub lent_long : (k : ℕ) → i + k ≤ n → length (lent k) ≡ k
    lent_long k e = ap length (lent_is k e) ∙ length-take-le k (drop i cs) (rw (length-drop i cs, length-take-le n codes h) (omega arith))

    pub more_summed : (k : ℕ) → i + k ≤ n → (r : ℕ) (ys : List ℕ) → r ≡ last_of last (running_sums W last (lent k))
        → ys ≡ running_sums W last (lent k) ++ drop k (take (length out - i) (drop i out)) → Summed (put_mid i (length out - i) out ys) r (i + k)
    more_summed k e r ys is put =
        let piece = running_sums W last (lent k) in
        let split : running_sums W last (drop i cs) ≡ piece ++ running_sums W r (drop (i + k) cs) =
        ap (running_sums W last) (sym (take-append-drop k (drop i cs)) ∙ ap₂ ◌++◌ (sym (lent_is k e)) (drop-drop k i cs))
        ∙ sums_of_an_append W last (lent k) (drop (i + k) cs) ∙ ap (λ (b : ℕ). piece ++ running_sums W b (drop (i + k) cs)) (sym is) in
        record {
          within = e;
          put = one_piece _ _ _ _ _ m.put piece (running_sums W r (drop (i + k) cs)) ys k split (sym (as_many_sums W last (lent k) ∙ lent_long k e)) put;
        }

  pub all_summed : (out : List ℕ) (last i : ℕ) → i ≡ n → Summed out last i → out ≡ all ++ drop n base
  all_summed out last i e m =
      let none : running_sums W last (drop i cs) ≡ [] = ap (running_sums W last) (drop_of_length-le cs {i = i} (rw (length-take-le n codes h) (omega arith))) ∙ no_sums W last in
      all_there all base out i (subst (λ (rest : List ℕ). Appended all rest base out i) none m.put) ∙ ap (λ (k : ℕ). all ++ drop k base) e
