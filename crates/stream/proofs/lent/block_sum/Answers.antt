-- `stream::lent::block_sum` meets its contract: the last sum of the block's codes.
use mathlib.Core.List.{List}
use mathlib.Core.Path.{ap, ◌∙◌}
use Prim.Native.Nat.{ℕ, ◌^◌}
use native.Mathlib.Nat.{le_trans, lt_of_lt_of_le}
use lib.Pow.{pow_mono}
use Rattle.numbers.specs.Difference.{running_sums, last_of}
use Rattle.numbers.proofs.Theorems.{the_last_is_below, running_sums_have_W_bits}
use Rattle.stream.specs.Block.{block_codes}
use Rattle.stream.proofs.Law.Group.Blocks.{length_block, block_below}
use Rattle.stream.proofs.Law.Chunk.Restoring.{long_enough}
use Rattle.stream.proofs.Law.Setting.Allowed.{width_some, width_most}
use Rattle.stream.proofs.lent.block_sum.Goals as goal

pub codes_of-g-requires : goal.codes_of-g-requires
codes_of-g-requires c = let p = c.requires in (p.2, le_trans p.3 (width_most c.args.t.width p.0.known), p.4)

pub last_sum-requires : goal.last_sum-requires
last_sum-requires c =
    let f = c.before in
    let a = f.args in
    let g = c.codes_of-g in (
      f.requires.0,
      f.requires.1,
      long_enough a.n g.result.codes (block_codes a.w a.n a.s.now) g.ensures.1 (length_block a.w a.n a.s.now),
      λ i. rw g.ensures.1 (lt_of_lt_of_le (block_below a.w a.n a.s.now i) (pow_mono f.requires.3)),
    )

pub returns : goal.returns
returns c =
    let f = c.before in
    let a = f.args in
    let W = a.t.width in
    let cs = block_codes a.w a.n a.s.now in
    let is = c.last_sum.ensures ∙ ap (λ (l : List ℕ). last_of a.before (running_sums W a.before l)) c.codes_of-g.ensures.1 in
    (rw is (the_last_is_below (2 ^ W) a.before (running_sums W a.before cs) f.requires.1 (running_sums_have_W_bits W (width_some W f.requires.0.known) a.before cs)), is)
