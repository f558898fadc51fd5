-- The invariant: the codes of the values passed, and then what was there.
use Rattle.std.proofs.Common.{◌≡◌, ℕ, ◌<◌, List, ◌++◌, map, take, drop, length, sym, ap, ap₂, ◌∙◌, arith}
use Rattle.std.proofs.Math.ListN.{set}
use lib.Seq.{take-length}
use Rattle.words.proofs.Lists.{length_of, set_of, read_of}
use Rattle.stream.specs.Setting.{code_at}
use Rattle.stream.proofs.Law.Plain.Mapped.{one_put}
use Rattle.stream.proofs.coding.put_codes.Goals as goal

pub loop-i-preserved : goal.loop-i-preserved
loop-i-preserved g c =
    let w = g.T.Word in
    let L = g.met.T.Word.values_law in
    let l = c.loop-i in
    let xs = c.args.values.now in
    let here = c.loop-i-test.true in
    let inside : l.i < length (w.values xs) = rw (length_of L xs) here in
    let room : l.i < length (w.values c.args.c.now) = rw (length_of L c.args.c.now) (omega (arith, c.requires.2)) in
    set_of L l.c l.i c.tolerance.result
    ∙ ap₂ (λ (o : List ℕ) (p : ℕ). set o l.i p) l.invariant (c.tolerance.ensures ∙ ap (code_at c.args.t) (read_of L xs l.i c.index-values-i.result c.index-values-i.is here))
    ∙ one_put (code_at c.args.t) (w.values xs) (w.values c.args.c.now) l.i inside room

pub returns : goal.returns
returns g c =
    let w = g.T.Word in
    let L = g.met.T.Word.values_law in
    let l = c.loop-i in
    let xs = c.args.values.now in
    let end : l.i ≡ length xs = omega arith in
    l.invariant
    ∙ ap₂ (λ (a b : List ℕ). map (code_at c.args.t) a ++ b)
    (ap (λ (n : ℕ). take n (w.values xs)) (end ∙ sym (length_of L xs)) ∙ take-length (w.values xs))
    (ap (λ (n : ℕ). drop n (w.values c.args.c.now)) end)
