-- The invariant: the pattern so far, and then what was there.
use Rattle.std.proofs.Common.{ℕ, ◌<◌, List, length, ap, ◌∙◌, arith}
use Rattle.std.proofs.Math.ListN.{set}
use Rattle.words.proofs.Lists.{length_of, set_of}
use Rattle.stream.proofs.Law.Plain.Mapped.{one_repeated}
use Rattle.stream.proofs.lent.repeated.Goals as goal

pub loop-i-preserved : goal.loop-i-preserved
loop-i-preserved g c =
    let w = g.T.Word in
    let L = g.met.T.Word.values_law in
    let l = c.loop-i in
    let room : l.i < length (w.values c.args.out.now) = rw (length_of L c.args.out.now) (omega (arith, c.requires, c.loop-i-test.true)) in
    set_of L l.out l.i c.args.p
    ∙ ap (λ (o : List ℕ). set o l.i (w.value c.args.p)) l.invariant
    ∙ one_repeated (w.value c.args.p) (w.values c.args.out.now) l.i room
