-- The values of a chunk that is there to be read, restored group by group: what has been put, and what the rest of the bytes has still to give. Over the width, the
-- setting and the group size.
use mathlib.Core.Path.{◌≡◌, refl, sym, ap, ap₂, ◌∙◌}
use mathlib.Core.Bool.{Bool, true, false, cond, false≢true}
use mathlib.Core.List.{List, [], ◌++◌, map}
use Prim.Native.Nat.{ℕ, ◌+◌, ◌-◌, ◌≤◌, ◌<◌, min}
use native.Mathlib.Omega.{arith}
use lib.Dec.{eqb}
use lib.ListN.{length, take, drop, get_or, length-take, length-drop, get_or-append, take-append-drop}
use lib.Seq.{drop-drop, get_or-append-add, length-take-le}
use Rattle.numbers.specs.Difference.{running_sums, last_of}
use Rattle.numbers.proofs.Theorems.{no_sums}
use Rattle.stream.specs.Group.{given_width, group_length, group_codes, whole_group}
use Rattle.stream.specs.Setting.{pattern_at, patterns_after, patterns_of}
use Rattle.stream.specs.Lent.{SameBehind}
use Rattle.stream.specs.Chunk.{chunk_codes, whole_chunk}
use Rattle.stream.specs.declared.setting.Setting.{Setting}
use Rattle.stream.proofs.Law.Group.RoundTrip.{length_codes}
use Rattle.stream.proofs.Law.Chunk.Groups.{codes_step, length_chunk_codes}
use Rattle.stream.proofs.Law.Setting.Codes.{length_patterns, patterns_append}
use Rattle.stream.proofs.Law.Chunk.Checking.{part_is}
use Rattle.stream.proofs.Law.Chunk.Whole.{whole_facts, whole_left, torn_here, whole_here}

pub patterns_none : (t : Setting) (before : ℕ) → patterns_after t before [] ≡ []
unfolding patterns_after
patterns_none t before = go (eqb t.mode 2)
  where
    go : (b : Bool) → cond b (running_sums t.width before []) (map (pattern_at t) []) ≡ []
    go true = no_sums t.width before
    go false = refl

-- an array whose first n elements are n codes is long enough
pub long_enough : (n : ℕ) (xs ys : List ℕ) → take n xs ≡ ys → length ys ≡ n → n ≤ length xs
long_enough n xs ys e l = let q : min n (length xs) ≡ n = sym (length-take n xs) ∙ ap length e ∙ l in omega arith

-- the pattern at an index takes no code behind it
pub pattern_first : (t : Setting) (before : ℕ) (cs ds : List ℕ) (i : ℕ) → i < length cs → get_or (patterns_after t before (cs ++ ds)) i 0 ≡ get_or (patterns_after t before cs) i 0
pattern_first t before cs ds i h =
    ap (λ (ps : List ℕ). get_or ps i 0) (patterns_append t before cs ds)
    ∙ get_or-append (patterns_after t before cs) (patterns_after t (last_of before (patterns_after t before cs)) ds) 0 i (rw (length_patterns t before cs) h)

pub pattern_upto : (t : Setting) (before : ℕ) (cs ds : List ℕ) (i : ℕ) → i < length cs
    → get_or (patterns_after t before (cs ++ ds)) i 0 ≡ get_or (patterns_after t before (take (i + 1) cs)) i 0
pattern_upto t before cs ds i h =
    pattern_first t before cs ds i h
    ∙ ap (λ (xs : List ℕ). get_or (patterns_after t before xs) i 0) (sym (take-append-drop (i + 1) cs))
    ∙ pattern_first t before (take (i + 1) cs) (drop (i + 1) cs) i (rw (length-take-le (i + 1) cs (omega arith)) (omega arith))

-- and of the codes before it only the pattern that they end with
pub pattern_behind : (t : Setting) (before after : ℕ) (cs ds : List ℕ) (i k : ℕ) → i ≡ length cs + k → SameBehind t after (last_of before (patterns_after t before cs))
    → get_or (patterns_after t before (cs ++ ds)) i 0 ≡ get_or (patterns_after t after ds) k 0
pattern_behind t before after cs ds i k e same =
    let first = patterns_after t before cs in
    let more = patterns_after t (last_of before first) ds in
    ap₂ (λ (ps : List ℕ) (n : ℕ). get_or ps n 0) (patterns_append t before cs ds) (let q : i ≡ length first + k = omega (arith, length_patterns t before cs) in q)
    ∙ get_or-append-add first more k 0
    ∙ ap (λ (ps : List ℕ). get_or ps k 0) (sym (same ds))

-- the codes of the next group stand first among those that are left
module _ (size : ℕ) (some : 0 < size) (s : List ℕ) (left at count k : ℕ) (h : 0 < left) (is : count ≡ min size left) (l : k ≡ group_length count (drop at s)) where
  codes_next : chunk_codes size left (drop at s) ≡ group_codes count (drop at s) ++ chunk_codes size (left - count) (drop (at + k) s)
  codes_next =
      codes_step size some left (drop at s) h
      ∙ ap₂ (λ (a b : List ℕ). a ++ b) (ap (λ (n : ℕ). group_codes n (drop at s)) (sym is))
      (ap₂ (chunk_codes size) (let q : left - size ≡ left - count = omega arith in q)
      (ap (λ (n : ℕ). drop (group_length n (drop at s)) (drop at s)) (sym is) ∙ ap (λ (n : ℕ). drop n (drop at s)) (sym l) ∙ drop-drop k at s))

  pub patterns_next : (t : Setting) (before : ℕ) → let first = patterns_after t before (group_codes count (drop at s)) in
      patterns_after t before (chunk_codes size left (drop at s)) ≡ first ++ patterns_after t (last_of before first) (chunk_codes size (left - count) (drop (at + k) s))
  patterns_next t before =
      ap (patterns_after t before) codes_next ∙ patterns_append t before (group_codes count (drop at s)) (chunk_codes size (left - count) (drop (at + k) s))

module _ (size : ℕ) (some : 0 < size) (W : ℕ) (s : List ℕ) where
  -- where a walk that ends well stands: `left` values in the bytes from `at` on
  pub record Onward (left at : ℕ) : Type 0 where
    pub inside : at ≤ length s
    pub whole : whole_left size some W left (drop at s) ≡ true

  pub starts_onward : (n : ℕ) → whole_chunk W size n s ≡ true → Onward n 0
  unfolding whole_chunk
  starts_onward n e = record { inside = omega arith; whole = e }

  module _ (left at count : ℕ) (o : Onward left at) (h : 0 < left) (is : count ≡ min size left) where
    -- the group that comes next is there
    next_there : (b : Bool) → whole_group W count (drop at s) ≡ b → whole_group W count (drop at s) ≡ true
    next_there true e = e
    next_there false e = absurd (false≢true (sym (torn_here size some W s left at count h is e) ∙ o.whole))

    next_is_there : whole_group W count (drop at s) ≡ true
    next_is_there = next_there (whole_group W count (drop at s)) refl

    pub next_wide : given_width (drop at s) ≤ W
    next_wide = (whole_facts W count (drop at s) next_is_there).0

    pub next_whole : group_length count (drop at s) ≤ length (drop at s)
    next_whole = (whole_facts W count (drop at s) next_is_there).1

    -- the same of the part that is handed on
    pub part_opens : (given_width (take (length s - at) (drop at s)) ≤ W) × (group_length count (take (length s - at) (drop at s)) ≤ length (take (length s - at) (drop at s)))
    part_opens = rw (part_is s at) (next_wide, next_whole)

    pub goes_on : (k : ℕ) → k ≡ group_length count (drop at s) → Onward (left - count) (at + k)
    goes_on k l = record {
      inside = omega (arith, o.inside, next_whole, length-drop at s);
      whole = sym (whole_here size some W s left at count k h is next_is_there l) ∙ o.whole;
    }

  -- an index behind the next group, and one within it
  module _ (left at count : ℕ) (o : Onward left at) (h : 0 < left) (is : count ≡ min size left) (t : Setting) (before : ℕ) (k : ℕ) (l : k ≡ group_length count (drop at s)) where
    abbrev codes : List ℕ
    codes = group_codes count (drop at s)

    pub behind_next : (i after : ℕ) → count ≤ i → SameBehind t after (last_of before (patterns_after t before codes))
        → get_or (patterns_after t before (chunk_codes size left (drop at s))) i 0 ≡ get_or (patterns_after t after (chunk_codes size (left - count) (drop (at + k) s))) (i - count) 0
    behind_next i after b same =
        ap (λ (cs : List ℕ). get_or (patterns_after t before cs) i 0) (codes_next size some s left at count k h is l)
        ∙ pattern_behind t before after codes (chunk_codes size (left - count) (drop (at + k) s)) i (i - count) (let q : i ≡ length codes + (i - count) = omega (arith, length_codes count (drop at s)) in q) same

    pub within_next : (i : ℕ) → i < count → get_or (patterns_after t before (chunk_codes size left (drop at s))) i 0 ≡ get_or (patterns_after t before codes) i 0
    within_next i b =
        ap (λ (cs : List ℕ). get_or (patterns_after t before cs) i 0) (codes_next size some s left at count k h is l)
        ∙ pattern_first t before codes (chunk_codes size (left - count) (drop (at + k) s)) i (rw (length_codes count (drop at s)) b)

pub length_restored : (size : ℕ) (some : 0 < size) (t : Setting) (n : ℕ) (s : List ℕ) → length (patterns_of t (chunk_codes size n s)) ≡ n
length_restored size some t n s = length_patterns t 0 (chunk_codes size n s) ∙ length_chunk_codes size some n s
