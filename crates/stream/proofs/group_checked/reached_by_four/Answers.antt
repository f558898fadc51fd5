-- No code passed, nor the three that are 8, 16 and 24 further on, is as wide as w.
use Rattle.std.proofs.Common.{ℕ, List, eqb, sym, ap, ◌∙◌, arith}
use borrow.Author.Count.{below_none, below_more}
use borrow.Author.Tests.{eq-eqb, ne_eqb}
use lib.Ieee.{size}
use Rattle.stream.specs.Group.{width_of}
use Rattle.stream.specs.Block.{block_codes}
use Rattle.stream.proofs.Law.Group.Blocks.{length_block, block_below}
use Rattle.stream.proofs.Law.Group.RoundTrip.{width_least}
use Rattle.stream.proofs.Law.Group.Checking.{Four, Short, flat, four_all, four_short, four_wide}
use Rattle.stream.proofs.group_checked.reached_by_four.Goals as goal

pub loop-i-init : goal.loop-i-init
loop-i-init c = below_none (Four (Short (block_codes c.args.w 32 c.args.s.now) c.args.w))

pub returns-then-as_wide : goal.returns-then-as_wide
returns-then-as_wide c =
    let w = c.args.w in
    let codes : List ℕ = block_codes w 32 c.args.s.now in
    let found = sym (c.as_wide.ensures ∙ ap (λ (x : ℕ). eqb (size x) w) c.four_codes.ensures) ∙ c.if-as_wide.true in
    sym (eq-eqb w (width_of codes) (four_wide codes w c.loop-i.i (width_least w codes (block_below w 32 c.args.s.now)) found))

pub loop-i-preserved : goal.loop-i-preserved
loop-i-preserved c =
    let w = c.args.w in
    let codes : List ℕ = block_codes w 32 c.args.s.now in
    let found = sym (c.as_wide.ensures ∙ ap (λ (x : ℕ). eqb (size x) w) c.four_codes.ensures) ∙ c.if-as_wide.false in
    below_more (Four (Short codes w)) c.loop-i.i c.loop-i.invariant (four_short codes w c.loop-i.i (width_least w codes (block_below w 32 c.args.s.now)) found)

pub returns : goal.returns
returns c =
    let w = c.args.w in
    let codes : List ℕ = block_codes w 32 c.args.s.now in
    sym (ne_eqb w (width_of codes)
    (flat w codes c.requires.0 (λ k h. four_all (Short codes w) (λ j g. c.loop-i.invariant j (omega arith)) k (omega (arith, length_block w 32 c.args.s.now)))))
