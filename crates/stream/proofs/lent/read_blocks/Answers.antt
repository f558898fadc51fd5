-- The invariant: the codes of the blocks passed stand in the output, and those of the blocks left are to come.
use Rattle.std.proofs.Common.{◌≡◌, ℕ, ◌+◌, ◌*◌, ◌-◌, ◌≤◌, ◌<◌, min, List, ◌++◌, take, drop, length, length-take, length-drop, sym, ap, subst, ◌∙◌, arith, zero-add}
use Rattle.words.proofs.Lists.{length_of, tail_of, mid_of}
use Rattle.stream.specs.Block.{block_codes}
use Rattle.stream.proofs.Law.Plain.Appended.{Appended, nothing_yet, one_piece, all_there}
use Rattle.stream.proofs.Law.Group.Blocks.{codes_are, length_block, no_block, next_block, starts_along, next}
use Rattle.stream.proofs.Law.Setting.Codes.{width_most}
use Rattle.stream.proofs.lent.read_blocks.Goals as goal

pub loop-done-init : goal.loop-done-init
loop-done-init g c =
    let a = c.args in
    let w = g.T.Word in
    let base = w.values a.out.now in
    let room : length (block_codes a.w a.n a.s.now) ≤ length base = rw (length_block a.w a.n a.s.now, length_of g.met.T.Word.values_law a.out.now) c.requires.5 in
    (a.n, zero-add a.n, starts_along a.n c.requires.0 c.requires.3 c.requires.4, nothing_yet (block_codes a.w a.n a.s.now) base room)

pub read_block-requires : goal.read_block-requires
read_block-requires g c =
    let l = c.loop-done in
    let p = c.requires in
    let narrow = width_most g.T.Word.width g.T.Word.fraction g.met.T.Word.formats_law in
    let left = l.invariant.0 in
    let count_is : c.min-count.result ≡ min 32 left = omega (arith, l.invariant.1, c.min-count.ensures) in
    let turn = next l.invariant.2 (let some : 0 < left = omega (arith, l.invariant.1, c.loop-done-test.true) in some) count_is (let few : c.args.w ≤ 64 = omega (arith, narrow, p.2) in few) in (
      omega (arith, c.min-count.ensures),
      p.1,
      p.2,
      turn.there,
      rw (length-take, length-drop) (omega (arith, l.invariant.1, l.auto.out, p.5, count_is)),
    )

pub loop-done-preserved : goal.loop-done-preserved
loop-done-preserved g c =
    let w = g.T.Word in
    let L = g.met.T.Word.values_law in
    let l = c.loop-done in
    let a = c.args in
    let narrow = width_most g.T.Word.width g.T.Word.fraction g.met.T.Word.formats_law in
    let left = l.invariant.0 in
    let count = c.min-count.result in
    let count_is : count ≡ min 32 left = omega (arith, l.invariant.1, c.min-count.ensures) in
    let turn = next l.invariant.2 (let some : 0 < left = omega (arith, l.invariant.1, c.loop-done-test.true) in some) count_is (let few : a.w ≤ 64 = omega (arith, narrow, c.requires.2) in few) in
    let part = take (length a.s.now - l.from) (drop l.from a.s.now) in
    let codes = block_codes a.w count part in
    let all = block_codes a.w a.n a.s.now in
    let rest = block_codes a.w (left - count) (drop (l.from + 4 * a.w) a.s.now) in (
      left - count,
      omega (arith, l.invariant.1, count_is),
      turn.on,
      subst (λ (o : List ℕ). Appended all rest (w.values a.out.now) o (l.done + count)) (sym (mid_of L l.done l.out c.read_block.new.out))
          (one_piece _ _ _ _ _ l.invariant.3 codes rest (w.values c.read_block.new.out) count
          (next_block a.w left count l.from a.s.now (λ i. (c.type_inv.s i).fits) count_is)
          (sym (length_block a.w count part))
          (c.read_block.ensures ∙ ap (λ (o : List ℕ). codes ++ drop count o) (tail_of L l.done l.out))),
    )

pub returns : goal.returns
returns g c =
    let w = g.T.Word in
    let a = c.args in
    let v = c.loop-done in
    let left = v.invariant.0 in
    let none : left ≡ 0 = omega (arith, v.invariant.1, c.loop-done-test.false) in
    let end : v.done ≡ a.n = omega (arith, v.invariant.1, c.loop-done-test.false) in
    let all = block_codes a.w a.n a.s.now in
    let base = w.values a.out.now in
    all_there all base (w.values v.out) v.done
    (subst (λ (rest : List ℕ). Appended all rest base (w.values v.out) v.done)
    (ap (λ (k : ℕ). block_codes a.w k (drop v.from a.s.now)) none ∙ no_block a.w (drop v.from a.s.now)) v.invariant.3)
    ∙ ap (λ (k : ℕ). all ++ drop k base) end
    ∙ ap (λ (cs : List ℕ). cs ++ drop a.n base) (sym (codes_are a.n a.w a.s.now (λ i. (c.type_inv.s i).fits) c.requires.3))
