-- `stream::chunk::restored` meets its contract. The invariant: the patterns put so far, and those that the bytes left give, are all of them.
use Prim.Native.Nat.{ℕ, ◌-◌, ◌+◌, ◌≤◌, ◌<◌, min}
use Rattle.numbers.proofs.Theorems.{nothing_carries_on}
use Rattle.stream.proofs.Law.Plain.Appended.{nothing_yet, same_room, one_landed, all_there, carried_on}
use Rattle.stream.proofs.Law.Chunk.LongerBytes.{Going, starts_going, going_inside, going_wide, going_whole, goes}
use Rattle.stream.proofs.Law.Chunk.Groups.{codes_none}
use Rattle.stream.proofs.Law.Chunk.Restoring.{length_restored, patterns_none, patterns_next}
use Rattle.stream.proofs.Law.Setting.Codes.{length_patterns}
use Rattle.stream.proofs.Law.Group.RoundTrip.{length_codes}
use Rattle.stream.proofs.Law.Lent.Chosen.{chosen_long}
use Rattle.stream.proofs.Law.Setting.Allowed.{size_some}
use Rattle.stream.proofs.Law.Chunk.Checking.{part_is}
use Rattle.stream.specs.Chunk.{chunk_codes}
use Rattle.stream.specs.Group.{given_width, group_length, group_codes}
use Rattle.stream.specs.Lent.{chosen, landed}
use Rattle.stream.specs.Setting.{group_size, patterns_after, patterns_of}
use Rattle.stream.specs.declared.setting.Setting.{Setting}
use lib.ListN.{length, take, drop}
use Rattle.numbers.specs.Difference.{last_of}
use mathlib.Core.List.{List, ◌++◌}
use mathlib.Core.Path.{◌≡◌, refl, sym, ap, ◌∙◌}
use native.Mathlib.Nat.{zero-add}
use native.Mathlib.Omega.{arith}
use Rattle.stream.proofs.chunk.restored.Goals as goal
use Rattle.stream.proofs.chunk.restored.Lts as lts
use Rattle.stream.proofs.chunk.restored.Reads as reads
use Rattle.stream.proofs.chunk.restored.Tie as tie

abbrev Start : Type 0
Start = lts.Start tie.the-claims reads.Pre reads.Post goal.the-invariant-loop-left goal.the-decreases-loop-left tie.handed_clauses

abbrev At-loop : Type 0
At-loop = lts.At-loop tie.the-claims reads.Pre reads.Post goal.the-invariant-loop-left goal.the-decreases-loop-left tie.handed_clauses

abbrev After-min : Type 0
After-min = lts.After-min tie.the-claims reads.Pre reads.Post goal.the-invariant-loop-left goal.the-decreases-loop-left tie.handed_clauses

abbrev After-group_length : Type 0
After-group_length = lts.After-group_length tie.the-claims reads.Pre reads.Post goal.the-invariant-loop-left goal.the-decreases-loop-left tie.handed_clauses

abbrev start : At-loop → Start
start l = l.before.before.before.before.before.before.before

abbrev bytes : At-loop → List ℕ
bytes l = (start l).args.s.now

-- the loop's place in the bytes, over the setting
module _ (l : At-loop) where
  abbrev t : Setting
  t = (start l).args.t

  inside : l.loop-left.at ≤ length (bytes l)
  inside = going_inside (group_size t) (size_some t) t.width (bytes l) l.loop-left.left l.loop-left.at l.loop-left.invariant.1

-- how many codes the next group has, and that it is a good one
count_is : (c : After-min) → let l = c.before.before in c.min-count.result ≡ min (group_size (t l)) l.loop-left.left
count_is c = omega (arith, c.min-count.ensures, c.group_size-size.ensures.0)

count_most : (c : After-min) → c.min-count.result ≤ 128
count_most c = omega (arith, c.min-count.ensures, c.group_size-size.ensures.2)

count_some : (c : After-min) → 0 < c.min-count.result
count_some c = omega (arith, c.min-count.ensures, c.group_size-size.ensures.1, c.loop-left-test.true)

wide : (c : After-min) → let l = c.before.before in given_width (drop l.loop-left.at (bytes l)) ≤ (t l).width
wide c = let l = c.before.before in going_wide (group_size (t l)) (size_some (t l)) (t l).width (bytes l) l.loop-left.left l.loop-left.at l.loop-left.invariant.1 c.min-count.result c.loop-left-test.true (count_is c)

whole : (c : After-min) → let l = c.before.before in
    group_length c.min-count.result (drop l.loop-left.at (bytes l)) ≤ length (drop l.loop-left.at (bytes l))
whole c = let l = c.before.before in going_whole (group_size (t l)) (size_some (t l)) (t l).width (bytes l) l.loop-left.left l.loop-left.at l.loop-left.invariant.1 c.min-count.result c.loop-left-test.true (count_is c)

-- where the count was made, and the loop, behind a turn
abbrev counted : After-group_length → After-min
counted c = c.before.before.before.before.before.before.before.before.before.before.before.before.before.before.before.before

abbrev turn : After-group_length → At-loop
turn c = c.before.before.before.before.before.before.before.before.before.before.before.before.before.before.before.before.before.before

-- its bytes, as their number is measured
bytes_are : (c : After-group_length) → c.group_length-at.result ≡ group_length (counted c).min-count.result (drop (turn c).loop-left.at (bytes (turn c)))
bytes_are c = c.group_length-at.ensures ∙ ap (group_length (counted c).min-count.result) (part_is (bytes (turn c)) (turn c).loop-left.at)

on : (c : After-group_length) → let l = turn c in
    Going (group_size (t l)) (size_some (t l)) (t l).width (bytes l) (l.loop-left.left - (counted c).min-count.result) (l.loop-left.at + c.group_length-at.result)
on c =
    let l = turn c in
    let e = counted c in
    goes (group_size (t l)) (size_some (t l)) (t l).width (bytes l) l.loop-left.left l.loop-left.at l.loop-left.invariant.1 e.min-count.result e.loop-left-test.true (count_is e) c.group_length-at.result (bytes_are c)

pub loop-left-init : goal.loop-left-init
loop-left-init c =
    let s = c.before in
    let v = s.args in
    let b = s.requires.allowed.2 in (
      zero-add v.n,
      starts_going (group_size v.t) (size_some v.t) v.t.width v.s.now v.n b.bytes b.rest b.split b.whole,
      rw (nothing_carries_on 0) (nothing_yet _ _ (rw (length_restored (group_size v.t) (size_some v.t) v.t v.n v.s.now) s.requires.in_bounds.1)),
      refl,
      refl,
      refl,
      refl,
    )

pub slice_bounds-put_values-count : goal.slice_bounds-put_values-count
slice_bounds-put_values-count c = inside c.before.before.before

pub slice_bounds-put_values-start : goal.slice_bounds-put_values-start
slice_bounds-put_values-start c = inside c.before.before.before

pub put_values-requires : goal.put_values-requires
put_values-requires c =
    let e = c.before.before.before.before.before.before in
    let l = e.before.before in
    let p = (start l).requires in record {
      allowed = (p.allowed.0, count_most e, rw (part_is (bytes l) l.loop-left.at) (wide e), rw (part_is (bytes l) l.loop-left.at) (whole e));
      at_bound = (
        omega (arith, l.loop-left.invariant.0, p.allowed.1),
        omega (arith, count_most e, p.in_bounds.0, chosen_long (t l).width (start l).args.c32.now (start l).args.c64.now l.loop-left.c32 l.loop-left.c64 l.loop-left.invariant.3 l.loop-left.invariant.4),
        omega (arith, p.in_bounds.1, l.loop-left.invariant.0, e.min-count.ensures, same_room _ _ _ _ _ l.loop-left.invariant.2),
      );
    }

pub slice_bounds-group_length-count : goal.slice_bounds-group_length-count
slice_bounds-group_length-count c = inside c.before.before.before.before.before.before.before.before.before.before.before.before.before.before.before.before.before

pub slice_bounds-group_length-start : goal.slice_bounds-group_length-start
slice_bounds-group_length-start c = inside c.before.before.before.before.before.before.before.before.before.before.before.before.before.before.before.before.before

pub group_length-at-requires : goal.group_length-at-requires
group_length-at-requires c = let e = c.before.before.before.before.before.before.before.before.before.before.before.before.before.before.before.before in let l = e.before.before in (count_most e, rw (part_is (bytes l) l.loop-left.at) (whole e))

pub overflow_add-at : goal.overflow_add-at
overflow_add-at c = let l = turn c.before in omega (arith, going_inside (group_size (t l)) (size_some (t l)) (t l).width (bytes l) _ _ (on c.before), (start l).well_formed)

pub overflow_sub-left : goal.overflow_sub-left
overflow_sub-left c = omega (arith, (counted c.before).min-count.ensures)

pub overflow_add-done : goal.overflow_add-done
overflow_add-done c = let l = turn c.before in omega (arith, (counted c.before).min-count.ensures, l.loop-left.invariant.0, (start l).requires.allowed.1)

pub loop-left-smaller : goal.loop-left-smaller
loop-left-smaller c = omega (arith, (counted c.before).min-count.ensures, count_some (counted c.before))

pub loop-left-preserved : goal.loop-left-preserved
loop-left-preserved c =
    let e = counted c.before in
    let l = turn c.before in
    let v = (start l).args in
    let n = e.min-count.result in
    let k = c.group_length-at.result in
    let call = c.put_values in
    let out : List ℕ = chosen v.t.width l.loop-left.o32 l.loop-left.o64 in
    let b = last_of 0 (take l.loop-left.done out) in
    let codes = group_codes n (drop l.loop-left.at (bytes l)) in
    let piece = patterns_after (t l) b codes in
    let long : length piece ≡ n = length_patterns (t l) b codes ∙ length_codes n (drop l.loop-left.at (bytes l)) in
    let more = chunk_codes (group_size (t l)) (l.loop-left.left - n) (drop (l.loop-left.at + k) (bytes l)) in
    let lands = call.ensures ∙ ap (λ (u : List ℕ). landed l.loop-left.done (patterns_after (t l) b (group_codes n u)) out) (part_is (bytes l) l.loop-left.at) in
    let inside : l.loop-left.done ≤ length out = omega (arith, l.loop-left.invariant.0, (start l).requires.in_bounds.1, same_room _ _ _ _ _ l.loop-left.invariant.2) in (
      omega (arith, l.loop-left.invariant.0, e.min-count.ensures),
      on c.before,
      one_landed _ _ _ _ _ l.loop-left.invariant.2 piece (patterns_after (t l) _ more) _ n
          (patterns_next (group_size (t l)) (size_some (t l)) (bytes l) l.loop-left.left l.loop-left.at n k e.loop-left-test.true (count_is e) (bytes_are c.before) (t l) b
          ∙ ap (λ (a : ℕ). piece ++ patterns_after (t l) a more) (sym (carried_on l.loop-left.done n piece out _ long inside lands)))
          (sym long) lands,
      call.auto.c32 ∙ l.loop-left.invariant.3,
      call.auto.c64 ∙ l.loop-left.invariant.4,
      call.auto.o32 ∙ l.loop-left.invariant.5,
      call.auto.o64 ∙ l.loop-left.invariant.6,
    )

pub shape_of-c32 : goal.shape_of-c32
shape_of-c32 c = c.loop-left.invariant.3

pub shape_of-c64 : goal.shape_of-c64
shape_of-c64 c = c.loop-left.invariant.4

pub shape_of-o32 : goal.shape_of-o32
shape_of-o32 c = c.loop-left.invariant.5

pub shape_of-o64 : goal.shape_of-o64
shape_of-o64 c = c.loop-left.invariant.6

pub returns : goal.returns
returns c =
    let l = c.before.before in
    let v = (start l).args in
    let size = group_size v.t in
    let none : l.loop-left.left ≡ 0 = omega (arith, c.loop-left-test.false) in
    let b = last_of 0 (take l.loop-left.done (chosen v.t.width l.loop-left.o32 l.loop-left.o64)) in
    let rest = ap (λ (n : ℕ). patterns_after v.t b (chunk_codes size n (drop l.loop-left.at (bytes l)))) none
    ∙ ap (patterns_after v.t b) (codes_none size (size_some v.t) (drop l.loop-left.at (bytes l))) ∙ patterns_none v.t b in
    all_there _ _ _ l.loop-left.done (rw rest at l.loop-left.invariant.2)
    ∙ ap (λ (n : ℕ). patterns_of v.t (chunk_codes size v.n (bytes l)) ++ drop n (chosen v.t.width v.o32.now v.o64.now)) (let q : l.loop-left.done ≡ v.n = omega (arith, l.loop-left.invariant.0) in q)
