-- `stream::lent::value_behind` meets its contract: the codes before the index's block count by the pattern that they end with, and those behind the index for nothing.
use mathlib.Core.List.{List}
use mathlib.Core.Path.{◌≡◌, sym, ap, ◌∙◌}
use Prim.Native.Nat.{ℕ, ◌+◌, ◌*◌, ◌-◌, ◌/◌, ◌^◌, ◌≤◌, ◌<◌}
use native.Mathlib.Nat.{lt_of_lt_of_le, mul_comm, mul_assoc, mul-le-mul}
use native.Mathlib.Omega.{arith}
use lib.ListN.{length, take, drop, get_or, length-take, length-drop}
use lib.Pow.{pow_mono}
use lib.Seq.{take-take}
use Rattle.blocks.specs.Bytes.{Below}
use Rattle.blocks.proofs.Law.Digits.{below_take}
use Rattle.numbers.specs.Difference.{last_of}
use Rattle.stream.specs.Group.{bytes_for, given_width, group_length}
use Rattle.stream.specs.Block.{block_codes}
use Rattle.stream.specs.Lent.{SameBehind}
use Rattle.stream.specs.Setting.{patterns_after}
use Rattle.stream.proofs.Law.Chunk.Restoring.{long_enough, pattern_upto, pattern_behind}
use Rattle.stream.proofs.Law.Group.Blocks.{codes_are, length_block, block_below, block_split, bytes_fewer, bytes_split, next_block}
use Rattle.stream.proofs.Law.Setting.Allowed.{width_most}
use Rattle.stream.proofs.lent.value_behind.Goals as goal
use Rattle.stream.proofs.lent.value_behind.Lts as lts
use Rattle.stream.proofs.lent.value_behind.Reads as reads
use Rattle.stream.proofs.lent.value_behind.Tie as tie

abbrev Start : Type 0
Start = lts.Start tie.the-claims reads.Pre reads.Post

abbrev After-wide : Type 0
After-wide = lts.After-wide tie.the-claims reads.Pre reads.Post

abbrev After-min : Type 0
After-min = lts.After-min tie.the-claims reads.Pre reads.Post

abbrev After-codes_of : Type 0
After-codes_of = lts.After-codes_of tie.the-claims reads.Pre reads.Post

-- the blocks before the index's: how many codes they have, and where they end
module _ (c : After-wide) where
  abbrev start : Start
  start = c.before.before.before

  abbrev s : List ℕ
  s = start.args.s.now

  abbrev n : ℕ
  n = start.args.n

  abbrev i : ℕ
  i = start.args.i

  abbrev w : ℕ
  w = c.wide-w.result

  abbrev block : ℕ
  block = i / 32

  abbrev passed : ℕ
  passed = 32 * block

  abbrev from : ℕ
  from = 4 * w * block

  abbrev rest : ℕ
  rest = n - passed

  width_is : w ≡ given_width s
  unfolding given_width
  width_is = c.wide-w.ensures.0

  narrow : w ≤ 64
  narrow = omega (arith, width_is, start.requires.4, width_most start.args.t.width start.requires.0.known)

  bytes : Below 256 s
  bytes k = (c.shared_slice_known-1.given k).fits

  -- they are whole bytes
  whole : w * passed ≡ 8 * from
  whole = omega (arith, mul_comm w passed ∙ mul_assoc 32 block w, mul_assoc 4 w block, mul_comm block w)

  split : passed + rest ≡ n
  split = omega (arith, start.requires.2)

  -- and what follows is there
  there : from + bytes_for w rest < length s
  unfolding group_length
  there = omega (arith, start.requires.5, ap (λ (k : ℕ). bytes_for k n) width_is, ap (bytes_for w) (sym split) ∙ bytes_split w passed rest from whole)

-- the index's block
module _ (c : After-min) where
  abbrev at : After-wide
  at = c.before.before

  abbrev count : ℕ
  count = c.min.result

  abbrev index : ℕ
  index = i at - passed at

  within : index < count
  within = omega (arith, c.min.ensures, (start at).requires.2)

  abbrev codes : List ℕ
  codes = block_codes (w at) count (take (length (s at) - from at) (drop (from at) (s at)))

module _ (c : After-codes_of) where
  abbrev here : After-min
  here = c.before

  upto : take (index here + 1) c.codes_of-g.result.codes ≡ take (index here + 1) (codes here)
  upto =
      sym (take-take (index here + 1) (count here) c.codes_of-g.result.codes (omega (arith, within here))) ∙ ap (take (index here + 1)) c.codes_of-g.ensures.1

  long : count here ≤ length c.codes_of-g.result.codes
  long = long_enough (count here) c.codes_of-g.result.codes (codes here) c.codes_of-g.ensures.1 (length_block (w (at here)) (count here) _)

pub bounds-s-0 : goal.bounds-s-0
unfolding group_length
bounds-s-0 c = omega (arith, c.requires.5)

pub overflow_mul-from : goal.overflow_mul-from
overflow_mul-from c = omega (arith, narrow c.before)

pub overflow_mul-from-2 : goal.overflow_mul-from-2
overflow_mul-from-2 c =
    let b = c.before in
    let four : 4 * w b ≤ 256 = omega (arith, narrow b) in
    let blocks : block b ≤ 4 = omega (arith, (start b).requires.2, (start b).requires.3) in
    omega (arith, mul-le-mul four blocks)

pub slice_bounds-codes_of-count : goal.slice_bounds-codes_of-count
slice_bounds-codes_of-count c = omega (arith, there c.before)

pub slice_bounds-codes_of-start : goal.slice_bounds-codes_of-start
slice_bounds-codes_of-start c = omega (arith, there c.before)

pub codes_of-g-requires : goal.codes_of-g-requires
codes_of-g-requires c =
    let b = at c.before in (
      omega (arith, c.min.ensures),
      narrow b,
      simp (length-take, length-drop)
          (omega (arith, there b, bytes_fewer (w b) (count c.before) (rest b) (omega (arith, c.min.ensures)))),
    )

pub picked-requires : goal.picked-requires
picked-requires c =
    let g = c.before.before.before in
    let h = here g in
    let b = at h in
    let p = (start b).requires in
    let W = (start b).args.t.width in
    let below : Below (2 ^ W) (codes h) = λ k. lt_of_lt_of_le (block_below (w b) (count h) _ k) (pow_mono (let l : w b ≤ W = omega (arith, width_is b, p.4) in l)) in (
      p.0,
      p.1,
      omega (arith, long g, within h),
      omega (arith, p.2, p.3),
      rw (upto g) (below_take (2 ^ W) (index h + 1) (codes h) below),
    )

pub returns : goal.returns
returns c before behind-last =
    let g = c.before.before.before.before in
    let h = here g in
    let b = at h in
    let t = (start b).args.t in
    let last = (start b).args.last in
    let first = block_codes (w b) (passed b) (s b) in
    let behind = block_codes (w b) (rest b) (drop (from b) (s b)) in
    let more = block_codes (w b) (rest b - count h) (drop (from b + 4 * w b) (s b)) in
    let same : SameBehind t last (last_of before (patterns_after t before first)) =
    λ ds. behind-last ds ∙ ap (λ (cs : List ℕ). patterns_after t (last_of before (patterns_after t before cs)) ds) (codes_are (passed b) (w b) (s b) (bytes b) (width_is b)) in
    c.picked.ensures
    ∙ ap (λ (cs : List ℕ). get_or (patterns_after t last cs) (index h) 0) (upto g)
    ∙ sym (ap (λ (cs : List ℕ). get_or (patterns_after t before cs) (i b) 0)
    (codes_are (n b) (w b) (s b) (bytes b) (width_is b) ∙ ap (λ (k : ℕ). block_codes (w b) k (s b)) (sym (split b)) ∙ block_split (w b) (passed b) (rest b) (from b) (s b) (bytes b) (whole b))
    ∙ pattern_behind t before last first behind (i b) (index h) (let q : i b ≡ length first + index h = omega (arith, length_block (w b) (passed b) (s b)) in q) same
    ∙ ap (λ (cs : List ℕ). get_or (patterns_after t last cs) (index h) 0) (next_block (w b) (rest b) (count h) (from b) (s b) (bytes b) h.min.ensures)
    ∙ pattern_upto t last (codes h) more (index h) (rw length_block (within h)))
