use Rattle.std.proofs.Common.{◌<◌, refl, ap, sym, ◌∙◌, add-one, take, length, get_or, arith}
use lib.Seq.{take-suc, take_all}
use Rattle.words.proofs.Lists.{length_of, get_of}
use Rattle.stream.specs.Group.{width_of, largest}
use Rattle.stream.proofs.Law.Group.Width.{or_width}
use Rattle.stream.proofs.group.width.Goals as goal

pub loop-code-init : goal.loop-code-init
unfolding width_of largest
loop-code-init g c = rw c.of-all.ensures refl

pub loop-code-preserved : goal.loop-code-preserved
loop-code-preserved g c =
    let L = g.met.T.Word in
    let xs = c.args.codes.now in
    let cs = g.T.Word.values xs in
    let i = c.loop-code.code-index in
    let under : i < length cs = omega (arith, length_of L.values_law xs, c.loop-code-test.true) in
    let code = get_of L.values_law xs i c.code-item.result c.loop-code-test.true ∙ sym (ap g.T.Word.value c.code-item.is) in
    rw (add-one, take-suc cs i 0 under, L.bitor_law _ _ _ c.bitor-all.ensures, ← code) (or_width (g.T.Word.value c.loop-code.all) (get_or cs i 0) (take i cs) c.loop-code.invariant)

pub returns : goal.returns
returns g c =
    let xs = c.args.codes.now in
    let cs = g.T.Word.values xs in
    let l = c.loop-code in
    (c.bit_length.ensures.0 ∙ l.invariant ∙ ap width_of (take_all l.code-index cs (omega (arith, length_of g.met.T.Word.values_law xs, c.loop-code-test.false))), c.bit_length.ensures.1)
