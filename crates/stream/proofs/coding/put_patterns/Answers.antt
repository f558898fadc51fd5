-- The invariant: the patterns of the codes passed, and then what was there.
use Rattle.std.proofs.Common.{◌≡◌, ℕ, ◌≤◌, ◌<◌, List, ◌++◌, map, take, drop, length, sym, ap, ap₂, ◌∙◌, arith, le_refl}
use Rattle.std.proofs.Math.ListN.{set}
use lib.Seq.{take_all, length-take-le, get_or-take}
use Rattle.words.proofs.Lists.{length_of, set_of, read_of}
use Rattle.stream.specs.Setting.{pattern_at}
use Rattle.stream.proofs.Law.Plain.Mapped.{one_put}
use Rattle.stream.proofs.coding.put_patterns.Goals as goal

pub loop-i-preserved : goal.loop-i-preserved
loop-i-preserved g c =
    let w = g.T.Word in
    let L = g.met.T.Word.values_law in
    let l = c.loop-i in
    let n = c.args.n in
    let codes = w.values c.args.codes.now in
    let base = w.values c.args.out.now in
    let under : l.i < n = c.loop-i-test.true in
    let has : n ≤ length codes = rw (length_of L c.args.codes.now) c.requires.1 in
    let inside : l.i < length (take n codes) = rw (length-take-le n codes has) under in
    let room : l.i < length base = rw (length_of L c.args.out.now) (omega (arith, c.requires.2)) in
    let read = read_of L c.args.codes.now l.i c.index-codes-i.result c.index-codes-i.is (omega (arith, c.requires.1)) in
    set_of L l.out l.i c.pattern.result
    ∙ ap₂ (λ (o : List ℕ) (p : ℕ). set o l.i p) l.invariant (c.pattern.ensures ∙ ap (pattern_at c.args.t) (read ∙ sym (get_or-take n codes l.i 0 under)))
    ∙ one_put (pattern_at c.args.t) (take n codes) base l.i inside room

pub returns : goal.returns
returns g c =
    let w = g.T.Word in
    let l = c.loop-i in
    let n = c.args.n in
    let codes = w.values c.args.codes.now in
    let has : n ≤ length codes = rw (length_of g.met.T.Word.values_law c.args.codes.now) c.requires.1 in
    let end : l.i ≡ n = omega arith in
    l.invariant
    ∙ ap₂ (λ (a b : List ℕ). map (pattern_at c.args.t) a ++ b)
    (ap (λ (i : ℕ). take i (take n codes)) end ∙ take_all n (take n codes) (rw (length-take-le n codes has) (le_refl n)))
    (ap (λ (i : ℕ). drop i (w.values c.args.out.now)) end)
