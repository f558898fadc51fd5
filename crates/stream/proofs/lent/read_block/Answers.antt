-- A full block at once, or its codes as they are read one by one.
use Rattle.std.proofs.Common.{ℕ, List, ◌++◌, drop, sym, ap, ◌∙◌, lt_of_lt_of_le}
use lib.Pow.{pow_mono}
use Rattle.stream.specs.Block.{block_codes}
use Rattle.stream.proofs.Law.Group.Blocks.{length_block, block_below}
use Rattle.stream.proofs.Law.Chunk.Restoring.{long_enough}
use Rattle.stream.proofs.lent.read_block.Goals as goal

pub returns-then-w-s : goal.returns-then-w-s
returns-then-w-s g c =
    let a = c.args in
    c.opened.ensures ∙ ap (λ (n : ℕ). block_codes a.w n a.s.now ++ drop n (g.T.Word.values a.out.now)) (sym c.if-n-eq32.true)

pub copied-requires : goal.copied-requires
copied-requires g c =
    let a = c.args in
    let b = c.codes_of-g in (
      long_enough a.n _ _ b.ensures.1 (length_block a.w a.n a.s.now),
      c.requires.4,
      λ i. rw b.ensures.1 (lt_of_lt_of_le (block_below a.w a.n a.s.now i) (pow_mono c.requires.2)),
    )

pub returns : goal.returns
returns g c =
    let a = c.args in
    c.copied.ensures ∙ ap (λ (cs : List ℕ). cs ++ drop a.n (g.T.Word.values a.out.now)) c.codes_of-g.ensures.1
