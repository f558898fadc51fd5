-- A chunk's bytes walked group by group: what is left of the values and of the bytes decides the answer, and the codes.
use Rattle.std.specs.Prelude.{Some, None, Err}
use mathlib.Core.Path.{◌≡◌, sym, ap, ap₂, ◌∙◌}
use mathlib.Core.Bool.{true, false}
use mathlib.Core.List.{List}
use Prim.Native.Nat.{ℕ, suc, ◌+◌, ◌-◌, ◌≤◌, ◌<◌, min}
use native.Mathlib.Numerals.{add-one}
use native.Mathlib.Omega.{arith}
use borrow.Author.Tests.{eq-eqb, ne_eqb}
use lib.ListN.{length, take, drop, length-drop}
use lib.Seq.{take_all, drop-drop}
use Rattle.stream.specs.Group.{group_length, good_group}
use Rattle.stream.specs.Group.{group_answer}
use Rattle.stream.specs.Chunk.{Verdict, good, groups_in, first_fault}
use Rattle.stream.proofs.Law.Group.Exact.{true_good}
use Rattle.stream.proofs.Law.Plain.Truth.{given_some, given_none}
use Rattle.stream.proofs.Law.Chunk.Groups.{fault_none, fault_step}

-- ---- a group's answer, taken apart

module _ (W U n : ℕ) (s : List ℕ) where
  pub bad_means : group_answer W U n s ≡ None → good_group W U n s ≡ false
  unfolding group_answer
  bad_means e = given_none _ _ e

  pub good_means : (k : ℕ) → group_answer W U n s ≡ Some k → (good_group W U n s ≡ true) × (k ≡ group_length n s)
  unfolding group_answer
  good_means k e = let g = given_some _ _ _ e in (g.0, sym g.1)

-- the part from `at` on
pub part_is : (s : List ℕ) (at : ℕ) → take (length s - at) (drop at s) ≡ drop at s
part_is s at = take_all (length s - at) (drop at s) (rw (length-drop at s) (omega arith))

-- ---- one group on

module _ (size : ℕ) (some : 0 < size) (W U : ℕ) (s : List ℕ) where
  -- what the walk has still to find, with `left` values and the bytes from `at` on
  abbrev pub found : ℕ → ℕ → ℕ → Verdict
  found left at i = first_fault W U size (groups_in size left) left (drop at s) i

  pub found_bad : (left at i count : ℕ) → 0 < left → count ≡ min size left → good_group W U count (drop at s) ≡ false → found left at i ≡ Err i
  found_bad left at i count h e g = fault_step size some W U left (drop at s) i h ∙ rw (← e) (rw g)

  pub found_good : (left at i count k : ℕ) → 0 < left → count ≡ min size left → good_group W U count (drop at s) ≡ true → k ≡ group_length count (drop at s)
      → found left at i ≡ found (left - count) (at + k) (i + 1)
  found_good left at i count k h e g l =
      fault_step size some W U left (drop at s) i h
      ∙ rw (← e) (rw g
      (ap₂ (λ (n : ℕ) (t : List ℕ). first_fault W U size (groups_in size n) n t (suc i)) (let q : left - size ≡ left - count = omega arith in q)
      (ap (λ (n : ℕ). drop n (drop at s)) (sym l) ∙ drop-drop k at s)
      ∙ ap (λ (n : ℕ). first_fault W U size (groups_in size (left - count)) (left - count) (drop (at + k) s) n) (sym (add-one i))))

  pub found_over : (at i : ℕ) → at < length s → found 0 at i ≡ Err (i - 1)
  found_over at i h = fault_none size some W U (drop at s) i ∙ rw (ne_eqb (length (drop at s)) 0 (λ z. let q = sym (length-drop at s) ∙ z in omega arith))

  pub found_end : (at i : ℕ) → length s ≤ at → found 0 at i ≡ good
  found_end at i h = fault_none size some W U (drop at s) i ∙ rw (eq-eqb (length (drop at s)) 0 (length-drop at s ∙ (let q : length s - at ≡ 0 = omega arith in q)))

-- a good group lies within the bytes
pub within_bytes : (W U count : ℕ) (s : List ℕ) (at k : ℕ) → at ≤ length s → good_group W U count (drop at s) ≡ true → k ≡ group_length count (drop at s) → at + k ≤ length s
within_bytes W U count s at k h g l =
    let w : group_length count (drop at s) ≤ length (drop at s) = (true_good W U count (drop at s) g).whole in
    omega (arith, length-drop at s)
