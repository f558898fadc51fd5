-- The invariant: the codes passed, and then what was there.
use Rattle.std.proofs.Common.{ℕ, ◌<◌, List, length, ap₂, ◌∙◌, arith}
use Rattle.std.proofs.Math.ListN.{set}
use Rattle.words.proofs.Lists.{length_of, set_of}
use Rattle.stream.proofs.Law.Plain.Mapped.{one_over}
use Rattle.stream.proofs.lent.copied.Goals as goal

pub loop-i-preserved : goal.loop-i-preserved
loop-i-preserved g c =
    let w = g.T.Word in
    let L = g.met.T.Word.values_law in
    let l = c.loop-i in
    let room : l.i < length (w.values c.args.out.now) = rw (length_of L c.args.out.now) (omega (arith, c.requires.1, c.loop-i-test.true)) in
    set_of L l.out l.i c.narrow.result
    ∙ ap₂ (λ (o : List ℕ) (p : ℕ). set o l.i p) l.invariant c.narrow.ensures
    ∙ one_over c.args.codes.now (w.values c.args.out.now) l.i (omega (arith, c.requires.0, c.loop-i-test.true)) room
