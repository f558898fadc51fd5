-- `stream::group_checked::blocks_reached` meets its contract. The invariant: whether w is the width of the group is whether it is that of the blocks left.
-- Assumes nothing.
use mathlib.Core.Path.{◌≡◌, sym, ap, ◌∙◌}
use mathlib.Core.List.{List, ◌++◌}
use Prim.Native.Nat.{ℕ, ◌+◌, ◌*◌, ◌-◌}
use native.Mathlib.Omega.{arith}
use lib.Dec.{eqb}
use lib.ListN.{length, take, drop}
use Rattle.blocks.specs.Bytes.{Below}
use Rattle.stream.specs.Group.{width_of, group_codes}
use Rattle.stream.specs.Block.{block_codes}
use Rattle.stream.proofs.Law.Group.Blocks.{codes_are, block_below, no_block, next_block, starts_along, Next, next, reached_here, reached_later, none_reached}
use Rattle.stream.proofs.group_checked.blocks_reached.Goals as goal
use Rattle.stream.proofs.group_checked.blocks_reached.Lts as lts
use Rattle.stream.proofs.group_checked.blocks_reached.Reads as reads
use Rattle.stream.proofs.group_checked.blocks_reached.Tie as tie

abbrev Start : Type 0
Start = lts.Start tie.the-claims reads.Pre reads.Post goal.the-invariant-loop-left goal.the-decreases-loop-left

abbrev At-loop : Type 0
At-loop = lts.At-loop tie.the-claims reads.Pre reads.Post goal.the-invariant-loop-left goal.the-decreases-loop-left

abbrev After-min : Type 0
After-min = lts.After-min tie.the-claims reads.Pre reads.Post goal.the-invariant-loop-left goal.the-decreases-loop-left

-- the loop's place
module _ (l : At-loop) where
  abbrev start : Start
  start = l.before.before

  abbrev s : List ℕ
  s = start.args.s.now

  abbrev w : ℕ
  w = start.args.w

  bytes : Below 256 s
  bytes i = (l.shared_slice_known-1.given i).fits

-- the block that comes next
module _ (c : After-min) where
  abbrev turn : At-loop
  turn = c.before.before

  abbrev left : ℕ
  left = turn.loop-left.left

  abbrev from : ℕ
  from = turn.loop-left.from

  abbrev count : ℕ
  count = c.min-count.result

  abbrev part : List ℕ
  part = take (length (s turn) - from) (drop from (s turn))

  turns : Next (w turn) (s turn) left count from
  turns = next turn.loop-left.invariant.0 c.loop-left-test.true c.min-count.ensures (start turn).requires.2

  abbrev codes : List ℕ
  codes = block_codes (w turn) count part

  abbrev rest : List ℕ
  rest = block_codes (w turn) (left - count) (drop (from + 4 * w turn) (s turn))

  -- what is asked of the block and of the rest
  asked : eqb (w turn) (width_of (group_codes (start turn).args.n (s turn))) ≡ eqb (w turn) (width_of (codes ++ rest))
  asked = turn.loop-left.invariant.1 ∙ ap (λ (cs : List ℕ). eqb (w turn) (width_of cs)) (next_block (w turn) left count from (s turn) (bytes turn) c.min-count.ensures)

pub loop-left-init : goal.loop-left-init
loop-left-init c =
    let f = c.before in
    let a = f.args in (
      starts_along a.n f.requires.0 f.requires.3 f.requires.4,
      ap (λ (cs : List ℕ). eqb a.w (width_of cs)) (codes_are a.n a.w a.s.now (λ i. (c.shared_slice_known-1.given i).fits) f.requires.3),
    )

pub slice_bounds-block_width-count : goal.slice_bounds-block_width-count
slice_bounds-block_width-count c = (turns c.before).inside

pub slice_bounds-block_width-start : goal.slice_bounds-block_width-start
slice_bounds-block_width-start c = (turns c.before).inside

pub block_width-requires : goal.block_width-requires
block_width-requires c =
    let b = c.before.before in
    let l = turn b in (
      omega (arith, b.min-count.ensures),
      (start l).requires.1,
      (start l).requires.2,
      (turns b).there,
    )

pub returns-then-block_width-w : goal.returns-then-block_width-w
returns-then-block_width-w c =
    let b = c.before.before.before.before in
    let l = turn b in
    sym (asked b
    ∙ reached_here (w l) (codes b) (rest b) (block_below (w l) (count b) (part b)) (block_below (w l) (left b - count b) (drop (from b + 4 * w l) (s l)))
    (sym c.if-block_width-w.true ∙ c.block_width.ensures))

pub overflow_mul-from : goal.overflow_mul-from
overflow_mul-from c = omega (arith, (start (turn c.before.before.before.before)).requires.2)

pub overflow_add-from : goal.overflow_add-from
overflow_add-from c = omega (arith, (turns c.before.before.before.before).near)

pub overflow_sub-left : goal.overflow_sub-left
overflow_sub-left c = let b = c.before in omega (arith, b.min-count.ensures)

pub loop-left-smaller : goal.loop-left-smaller
loop-left-smaller c = let b = c.before in omega (arith, b.min-count.ensures, b.loop-left-test.true)

pub loop-left-preserved : goal.loop-left-preserved
loop-left-preserved c =
    let b = c.before.before.before.before in
    let l = turn b in (
      (turns b).on,
      asked b ∙ reached_later (w l) (codes b) (rest b) (block_below (w l) (count b) (part b)) (λ e. c.if-block_width-w.false (c.block_width.ensures ∙ sym e)),
    )

pub returns : goal.returns
returns c =
    let l = c.before.before in
    let none : l.loop-left.left ≡ 0 = omega (arith, c.loop-left-test.false) in
    sym (l.loop-left.invariant.1
    ∙ ap (λ (cs : List ℕ). eqb (w l) (width_of cs)) (ap (λ (k : ℕ). block_codes (w l) k (drop l.loop-left.from (s l))) none ∙ no_block (w l) (drop l.loop-left.from (s l)))
    ∙ none_reached (w l) (start l).requires.1)
