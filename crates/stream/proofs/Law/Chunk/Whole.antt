-- A chunk whose groups are all there to be read, walked group by group. Over the width and the group size.
use Rattle.std.specs.Prelude.{Option, Some, None, Err}
use mathlib.Core.Path.{◌≡◌, refl, sym, ap, ap₂, ◌∙◌}
use mathlib.Core.Logic.{⊎_elim}
use mathlib.Core.Bool.{Bool, true, false, ◌&&◌, cond, and-eq-true_iff}
use mathlib.Core.List.{List}
use Prim.Native.Nat.{ℕ, zero, suc, ◌+◌, ◌-◌, ◌≤◌, ◌<◌, min}
use native.Mathlib.Omega.{arith}
use borrow.Author.Tests.{le-leb, leb-true}
use lib.Dec.{leb}
use lib.ListN.{length, drop}
use lib.Seq.{drop-drop}
use Rattle.stream.specs.Group.{given_width, group_length, whole_group, good_group}
use Rattle.stream.specs.Chunk.{good, groups_in, first_fault, chunk_answer, whole_groups, whole_chunk}
use Rattle.blocks.proofs.Law.Truth.{le_or_lt}
use Rattle.stream.proofs.Law.Group.Exact.{true_good}
use Rattle.stream.proofs.Law.Chunk.Groups.{groups_none, groups_step, fault_step, never_good}

-- one group, as facts
module _ (W n : ℕ) (s : List ℕ) where
  pub whole_facts : whole_group W n s ≡ true → (given_width s ≤ W) × (group_length n s ≤ length s)
  whole_facts e =
      let both = (and-eq-true_iff (leb (given_width s) W) (leb (group_length n s) (length s))).0 e in
      (leb-true (given_width s) W both.0, leb-true (group_length n s) (length s) both.1)

  pub facts_whole : given_width s ≤ W → group_length n s ≤ length s → whole_group W n s ≡ true
  facts_whole wide whole = rw (le-leb (given_width s) W wide, le-leb (group_length n s) (length s) whole)

  pub not_whole : ((given_width s ≤ W) × (group_length n s ≤ length s) → ⊥) → whole_group W n s ≡ false
  not_whole broken = go (whole_group W n s) refl
    where
      go : (b : Bool) → whole_group W n s ≡ b → whole_group W n s ≡ false
      go true e = absurd (broken (whole_facts e))
      go false e = e

  -- how many bytes it has, where it is there
  abbrev pub there : Option ℕ
  there = cond (whole_group W n s) (Some (group_length n s)) None

module _ (size : ℕ) (some : 0 < size) (W : ℕ) where
  -- what is left of the values and of the bytes
  abbrev pub whole_left : ℕ → List ℕ → Bool
  whole_left n s = whole_groups W size (groups_in size n) n s

  pub whole_none : (s : List ℕ) → whole_left 0 s ≡ true
  unfolding whole_groups
  whole_none s = rw (groups_none size some)

  pub whole_step : (n : ℕ) (s : List ℕ) → 0 < n
      → whole_left n s ≡ (whole_group W (min size n) s && whole_left (n - size) (drop (group_length (min size n) s) s))
  unfolding whole_groups
  whole_step n s h = rw (groups_step size some n h)

  -- a good group is there, and so are those of a good chunk
  module _ (U : ℕ) where
    good_group_whole : (n : ℕ) (s : List ℕ) → good_group W U n s ≡ true → whole_group W n s ≡ true
    good_group_whole n s e = let g = true_good W U n s e in facts_whole W n s g.wide g.whole

    some_whole : (n i : ℕ) (s : List ℕ) → 0 < n → first_fault W U size (groups_in size n) n s i ≡ good
        → ((t : List ℕ) → first_fault W U size (groups_in size (n - size)) (n - size) t (suc i) ≡ good → whole_left (n - size) t ≡ true)
        → whole_left n s ≡ true
    some_whole n i s k e again = go (good_group W U (min size n) s) refl
      where
        go : (b : Bool) → good_group W U (min size n) s ≡ b → whole_left n s ≡ true
        go true g =
            let rest = drop (group_length (min size n) s) s in
            let more = first_fault W U size (groups_in size (n - size)) (n - size) rest (suc i) in
            whole_step n s k
            ∙ rw (good_group_whole (min size n) s g)
            (again rest (sym (ap (λ (x : Bool). cond x more (Err i)) g) ∙ sym (fault_step size some W U n s i k) ∙ e))
        go false g =
            let more = first_fault W U size (groups_in size (n - size)) (n - size) (drop (group_length (min size n) s) s) (suc i) in
            absurd (never_good i (sym (ap (λ (x : Bool). cond x more (Err i)) g) ∙ sym (fault_step size some W U n s i k) ∙ e))

    groups_whole : (f n i : ℕ) (s : List ℕ) → n ≤ f → first_fault W U size (groups_in size n) n s i ≡ good → whole_left n s ≡ true
    groups_whole zero n i s k e = ap (λ (m : ℕ). whole_left m s) (let z : n ≡ 0 = omega arith in z) ∙ whole_none s
    groups_whole (suc f) n i s k e =
        ⊎_elim (λ h. ap (λ (m : ℕ). whole_left m s) (let z : n ≡ 0 = omega arith in z) ∙ whole_none s)
        (λ h. some_whole n i s h e (λ t l. groups_whole f (n - size) (suc i) t (omega arith) l))
        (le_or_lt n 0)

    pub good_whole : (n : ℕ) (s : List ℕ) → chunk_answer W U size n s ≡ good → whole_chunk W size n s ≡ true
    unfolding chunk_answer whole_chunk
    good_whole n s e = groups_whole n n 0 s (omega arith) e

-- ---- one group on, of the bytes from `at` on

module _ (size : ℕ) (some : 0 < size) (W : ℕ) (s : List ℕ) where
  pub torn_here : (left at count : ℕ) → 0 < left → count ≡ min size left → whole_group W count (drop at s) ≡ false → whole_left size some W left (drop at s) ≡ false
  torn_here left at count h e g = whole_step size some W left (drop at s) h ∙ rw (← e) (rw g)

  pub whole_here : (left at count k : ℕ) → 0 < left → count ≡ min size left → whole_group W count (drop at s) ≡ true → k ≡ group_length count (drop at s)
      → whole_left size some W left (drop at s) ≡ whole_left size some W (left - count) (drop (at + k) s)
  whole_here left at count k h e g l =
      whole_step size some W left (drop at s) h
      ∙ rw (← e) (rw g
      (ap₂ (λ (n : ℕ) (t : List ℕ). whole_left size some W n t) (let q : left - size ≡ left - count = omega arith in q)
      (ap (λ (n : ℕ). drop n (drop at s)) (sym l) ∙ drop-drop k at s)))
