-- `stream::group_checked::blocks_limited` meets its contract. The invariant: whether no code of the group has a u above the limit is whether none of the
-- blocks left has.
-- Assumes nothing.
use mathlib.Core.Path.{◌≡◌, sym, ap, ◌∙◌}
use mathlib.Core.Bool.{Bool, ◌&&◌}
use mathlib.Core.List.{List}
use Prim.Native.Nat.{ℕ, ◌+◌, ◌*◌, ◌-◌}
use native.Mathlib.Omega.{arith}
use lib.ListN.{length, take, drop}
use Rattle.blocks.specs.Bytes.{Below}
use Rattle.stream.specs.Group.{within, group_codes}
use Rattle.stream.specs.Block.{block_codes}
use Rattle.stream.proofs.Law.Group.Blocks.{codes_are, no_block, next_block, starts_along, Next, next, within_append}
use Rattle.stream.proofs.group_checked.blocks_limited.Goals as goal
use Rattle.stream.proofs.group_checked.blocks_limited.Lts as lts
use Rattle.stream.proofs.group_checked.blocks_limited.Reads as reads
use Rattle.stream.proofs.group_checked.blocks_limited.Tie as tie

abbrev Start : Type 0
Start = lts.Start tie.the-claims reads.Pre reads.Post goal.the-invariant-loop-left goal.the-decreases-loop-left

abbrev At-loop : Type 0
At-loop = lts.At-loop tie.the-claims reads.Pre reads.Post goal.the-invariant-loop-left goal.the-decreases-loop-left

abbrev After-min : Type 0
After-min = lts.After-min tie.the-claims reads.Pre reads.Post goal.the-invariant-loop-left goal.the-decreases-loop-left

abbrev After-block_limited : Type 0
After-block_limited = lts.After-block_limited tie.the-claims reads.Pre reads.Post goal.the-invariant-loop-left goal.the-decreases-loop-left

-- the loop's place
module _ (l : At-loop) where
  abbrev start : Start
  start = l.before.before

  abbrev s : List ℕ
  s = start.args.s.now

  abbrev w : ℕ
  w = start.args.w

  abbrev limit : ℕ
  limit = start.args.limit

  bytes : Below 256 s
  bytes i = (l.shared_slice_known-1.given i).fits

-- the block that comes next
module _ (c : After-min) where
  abbrev turn : At-loop
  turn = c.before.before

  abbrev left : ℕ
  left = turn.loop-left.left

  abbrev from : ℕ
  from = turn.loop-left.from

  abbrev count : ℕ
  count = c.min-count.result

  abbrev part : List ℕ
  part = take (length (s turn) - from) (drop from (s turn))

  turns : Next (w turn) (s turn) left count from
  turns = next turn.loop-left.invariant.0 c.loop-left-test.true c.min-count.ensures (start turn).requires.2

-- what is asked, by what was found of it
asked : (c : After-block_limited) → let b = c.before.before in
    let l = turn b in
    within (limit l) (group_codes (start l).args.n (s l))
    ≡ (c.block_limited.result && within (limit l) (block_codes (w l) (left b - count b) (drop (from b + 4 * w l) (s l))))
asked c =
    let b = c.before.before in
    let l = turn b in
    let rest = block_codes (w l) (left b - count b) (drop (from b + 4 * w l) (s l)) in
    l.loop-left.invariant.1
    ∙ ap (within (limit l)) (next_block (w l) (left b) (count b) (from b) (s l) (bytes l) b.min-count.ensures)
    ∙ within_append (limit l) (block_codes (w l) (count b) (part b)) rest
    ∙ ap (λ (x : Bool). x && within (limit l) rest) (sym c.block_limited.ensures)

pub loop-left-init : goal.loop-left-init
loop-left-init c =
    let f = c.before in
    let a = f.args in (
      starts_along a.n f.requires.0 f.requires.3 f.requires.4,
      ap (within a.limit) (codes_are a.n a.w a.s.now (λ i. (c.shared_slice_known-1.given i).fits) f.requires.3),
    )

pub slice_bounds-block_limited-count : goal.slice_bounds-block_limited-count
slice_bounds-block_limited-count c = (turns c.before).inside

pub slice_bounds-block_limited-start : goal.slice_bounds-block_limited-start
slice_bounds-block_limited-start c = (turns c.before).inside

pub block_limited-requires : goal.block_limited-requires
block_limited-requires c =
    let b = c.before.before in
    let l = turn b in (
      omega (arith, b.min-count.ensures),
      (start l).requires.1,
      (start l).requires.2,
      (turns b).there,
    )

pub returns-then-not-block_limited : goal.returns-then-not-block_limited
returns-then-not-block_limited c =
    let b = c.before.before.before.before in
    let l = turn b in
    sym (asked c.before.before ∙ ap (λ (x : Bool). x && within (limit l) (block_codes (w l) (left b - count b) (drop (from b + 4 * w l) (s l)))) c.if-not-block_limited.true)

pub overflow_mul-from : goal.overflow_mul-from
overflow_mul-from c = omega (arith, (start (turn c.before.before.before.before)).requires.2)

pub overflow_add-from : goal.overflow_add-from
overflow_add-from c = omega (arith, (turns c.before.before.before.before).near)

pub overflow_sub-left : goal.overflow_sub-left
overflow_sub-left c = let b = c.before in omega (arith, b.min-count.ensures)

pub loop-left-smaller : goal.loop-left-smaller
loop-left-smaller c = let b = c.before in omega (arith, b.min-count.ensures, b.loop-left-test.true)

pub loop-left-preserved : goal.loop-left-preserved
loop-left-preserved c =
    let b = c.before.before.before.before in
    let l = turn b in (
      (turns b).on,
      asked c.before.before ∙ ap (λ (x : Bool). x && within (limit l) (block_codes (w l) (left b - count b) (drop (from b + 4 * w l) (s l)))) c.if-not-block_limited.false,
    )

pub returns : goal.returns
unfolding within
returns c =
    let l = c.before.before in
    let none : l.loop-left.left ≡ 0 = omega (arith, c.loop-left-test.false) in
    sym (l.loop-left.invariant.1
    ∙ ap (within (limit l)) (ap (λ (k : ℕ). block_codes (w l) k (drop l.loop-left.from (s l))) none ∙ no_block (w l) (drop l.loop-left.from (s l))))
