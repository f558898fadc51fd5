-- A full group of 32 is one block, which is opened at once.
use Rattle.std.proofs.Common.{ℕ, List, ◌++◌, drop, sym, ap₂, ◌∙◌, arith}
use Rattle.stream.specs.Group.{given_width, group_length}
use Rattle.stream.proofs.Law.Group.Blocks.{one_block}
use Rattle.stream.proofs.lent.read_codes.Goals as goal

pub bounds-s-0 : goal.bounds-s-0
unfolding group_length
bounds-s-0 g c = omega (arith, c.requires.3)

pub opened-requires : goal.opened-requires
unfolding given_width
opened-requires g c =
    let p = c.requires in
    let is = c.wide-w.ensures.0 in
    (omega (arith, is, p.1), omega (arith, is, p.2), c.if-w-s.true, omega (arith, p.4, c.if-n-eq32.true))

pub returns-then-w-s : goal.returns-then-w-s
unfolding given_width
returns-then-w-s g c =
    let a = c.args in
    c.opened.ensures
    ∙ ap₂ (λ (cs : List ℕ) (n : ℕ). cs ++ drop n (g.T.Word.values a.out.now))
    (sym (one_block a.n c.wide-w.result a.s.now (λ i. (c.type_inv.s i).fits) c.wide-w.ensures.0 c.if-n-eq32.true))
    (sym c.if-n-eq32.true)

pub read_blocks-requires : goal.read_blocks-requires
unfolding given_width
read_blocks-requires g c =
    let p = c.requires in
    let is = c.wide-w.ensures.0 in
    (p.0, omega (arith, is, p.1), omega (arith, is, p.2), is, p.3, p.4)
