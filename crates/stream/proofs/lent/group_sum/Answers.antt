-- `stream::lent::group_sum` meets its contract. The invariant: the last sum of the blocks left, behind the last sum so far, is that of the group.
use mathlib.Core.List.{List}
use mathlib.Core.Path.{◌≡◌, sym, ap, ◌∙◌}
use Prim.Native.Nat.{ℕ, ◌+◌, ◌*◌, ◌-◌, ◌≤◌, min}
use native.Mathlib.Nat.{le_trans}
use native.Mathlib.Omega.{arith}
use lib.Dec.{lit≤}
use lib.ListN.{length, take, drop, length-drop}
use lib.Seq.{take_all}
use Rattle.blocks.specs.Bytes.{Below}
use Rattle.numbers.specs.Difference.{running_sums, last_of}
use Rattle.numbers.proofs.Theorems.{no_sums, nothing_carries_on}
use Rattle.stream.specs.Group.{given_width, group_length}
use Rattle.stream.specs.Block.{block_codes}
use Rattle.stream.proofs.Law.Group.Blocks.{codes_are, no_block, next_block, starts_along, Next, next, carry_append}
use Rattle.stream.proofs.Law.Setting.Allowed.{width_most}
use Rattle.stream.proofs.lent.group_sum.Goals as goal
use Rattle.stream.proofs.lent.group_sum.Lts as lts
use Rattle.stream.proofs.lent.group_sum.Reads as reads
use Rattle.stream.proofs.lent.group_sum.Tie as tie

abbrev Start : Type 0
Start = lts.Start tie.the-claims reads.Pre reads.Post goal.the-invariant-loop-left goal.the-decreases-loop-left

abbrev After-wide : Type 0
After-wide = lts.After-wide tie.the-claims reads.Pre reads.Post goal.the-invariant-loop-left goal.the-decreases-loop-left

abbrev At-loop : Type 0
At-loop = lts.At-loop tie.the-claims reads.Pre reads.Post goal.the-invariant-loop-left goal.the-decreases-loop-left

abbrev In-loop : Type 0
In-loop = lts.In-loop tie.the-claims reads.Pre reads.Post goal.the-invariant-loop-left goal.the-decreases-loop-left

abbrev Else1 : Type 0
Else1 = lts.Else1 tie.the-claims reads.Pre reads.Post goal.the-invariant-loop-left goal.the-decreases-loop-left

width_is : (c : After-wide) → c.wide-w.result ≡ given_width c.args.s.now
unfolding given_width
width_is c = c.wide-w.ensures.0

-- the loop's place
module _ (l : At-loop) where
  abbrev start : Start
  start = l.before.before.before.before

  abbrev s : List ℕ
  s = start.args.s.now

  abbrev w : ℕ
  w = l.wide-w.result

  abbrev W : ℕ
  W = start.args.t.width

  under : w ≤ W
  under = omega (arith, width_is l.before, start.requires.3)

  narrow : w ≤ 64
  narrow = le_trans under (width_most W start.requires.0.known)

  bytes : Below 256 s
  bytes i = (l.shared_slice_known-1.given i).fits

-- the full block that comes next
module _ (c : In-loop) where
  abbrev turn : At-loop
  turn = c.before

  abbrev left : ℕ
  left = turn.loop-left.left

  abbrev from : ℕ
  from = turn.loop-left.from

  abbrev part : List ℕ
  part = take (length (s turn) - from) (drop from (s turn))

  full : 32 ≡ min 32 left
  full = omega (arith, c.loop-left-test.true)

  turns : Next (w turn) (s turn) left 32 from
  turns = next turn.loop-left.invariant.0 (omega (arith, c.loop-left-test.true)) full (narrow turn)

-- the short one behind all full ones
module _ (c : Else1) where
  abbrev end : At-loop
  end = c.before.before

  rest : end.loop-left.left ≡ min 32 end.loop-left.left
  rest = omega (arith, c.loop-left-test.false)

  last_turn : Next (w end) (s end) end.loop-left.left end.loop-left.left end.loop-left.from
  last_turn = next end.loop-left.invariant.0 (omega (arith, c.if-left-eq0.false)) rest (narrow end)

pub bounds-s-0 : goal.bounds-s-0
unfolding group_length
bounds-s-0 c = omega (arith, c.requires.4)

pub loop-left-init : goal.loop-left-init
loop-left-init c =
    let f = c.before in
    let a = f.args in (
      starts_along a.n f.requires.2 (width_is c.before) f.requires.4,
      f.requires.1,
      ap (λ (cs : List ℕ). last_of a.before (running_sums a.t.width a.before cs))
          (codes_are a.n c.wide-w.result a.s.now (λ i. (c.shared_slice_known-1.given i).fits) (width_is c.before)),
    )

pub slice_bounds-block_sum-count : goal.slice_bounds-block_sum-count
slice_bounds-block_sum-count c = (turns c.before).inside

pub slice_bounds-block_sum-start : goal.slice_bounds-block_sum-start
slice_bounds-block_sum-start c = (turns c.before).inside

pub block_sum-last-requires : goal.block_sum-last-requires
block_sum-last-requires c =
    let b = c.before.before in
    let l = turn b in
    ((start l).requires.0, l.loop-left.invariant.1, lit≤ tt, under l, (turns b).there)

pub overflow_mul-from : goal.overflow_mul-from
overflow_mul-from c = omega (arith, narrow (turn c.before.before.before))

pub overflow_add-from : goal.overflow_add-from
overflow_add-from c = omega (arith, (turns c.before.before.before).near)

pub loop-left-smaller : goal.loop-left-smaller
loop-left-smaller c = omega (arith, c.loop-left-test.true)

pub loop-left-preserved : goal.loop-left-preserved
loop-left-preserved c =
    let b = c.before.before.before in
    let l = turn b in
    let last = l.loop-left.last in
    let codes = block_codes (w l) 32 (part b) in
    let more = block_codes (w l) (left b - 32) (drop (from b + 4 * w l) (s l)) in (
      (turns b).on,
      c.block_sum-last.ensures.0,
      l.loop-left.invariant.2
          ∙ ap (λ (cs : List ℕ). last_of last (running_sums (W l) last cs)) (next_block (w l) (left b) 32 (from b) (s l) (bytes l) (full b))
          ∙ carry_append (W l) last c.block_sum-last.result codes more c.block_sum-last.ensures.1,
    )

pub returns-then-left-eq0 : goal.returns-then-left-eq0
returns-then-left-eq0 c =
    let l = c.before.before.before in
    let last = l.loop-left.last in
    let behind = drop l.loop-left.from (s l) in (
      l.loop-left.invariant.1,
      sym (l.loop-left.invariant.2
          ∙ ap (λ (cs : List ℕ). last_of last (running_sums (W l) last cs)) (ap (λ (k : ℕ). block_codes (w l) k behind) c.if-left-eq0.true ∙ no_block (w l) behind)
          ∙ ap (last_of last) (no_sums (W l) last)
          ∙ nothing_carries_on last),
    )

pub slice_bounds-block_sum-count-2 : goal.slice_bounds-block_sum-count-2
slice_bounds-block_sum-count-2 c = (last_turn c.before).inside

pub slice_bounds-block_sum-start-2 : goal.slice_bounds-block_sum-start-2
slice_bounds-block_sum-start-2 c = (last_turn c.before).inside

pub block_sum-requires : goal.block_sum-requires
block_sum-requires c =
    let b = c.before.before in
    let l = end b in
    ((start l).requires.0, l.loop-left.invariant.1, omega (arith, rest b), under l, (last_turn b).there)

pub returns : goal.returns
returns c =
    let l = end c.before.before.before in
    let last = l.loop-left.last in
    let from = l.loop-left.from in (
      c.block_sum.ensures.0,
      c.block_sum.ensures.1
          ∙ ap (λ (p : List ℕ). last_of last (running_sums (W l) last (block_codes (w l) l.loop-left.left p)))
          (take_all (length (s l) - from) (drop from (s l)) (rw (length-drop from (s l)) (omega arith)))
          ∙ sym l.loop-left.invariant.2,
    )
