-- The invariant: the sums of the codes passed, and then what was there; `last` is the last sum.
use Rattle.std.proofs.Common.{◌≡◌, ℕ, ◌≤◌, ◌<◌, List, ◌++◌, take, drop, length, sym, ap, ap₂, ◌∙◌, arith, le_refl}
use Rattle.std.proofs.Math.ListN.{set}
use lib.Seq.{take_all, length-take-le, get_or-take}
use Rattle.words.proofs.Lists.{length_of, set_of, read_of}
use Rattle.numbers.specs.Difference.{difference_restored, running_sums, last_of}
use Rattle.numbers.proofs.Theorems.{nothing_carries_on, no_sums}
use Rattle.stream.proofs.Law.Plain.Differences.{one_summed, summed_is}
use Rattle.stream.proofs.differences.one_by_one.Goals as goal

pub loop-i-init : goal.loop-i-init
loop-i-init g c =
    let w = g.T.Word in
    let b = w.value c.args.before in
    let none = no_sums w.width b in
    (ap (λ (l : List ℕ). l ++ w.values c.args.out.now) (sym none), sym (ap (last_of b) none ∙ nothing_carries_on b))

pub loop-i-preserved : goal.loop-i-preserved
loop-i-preserved g c =
    let w = g.T.Word in
    let L = g.met.T.Word.values_law in
    let l = c.loop-i in
    let n = c.args.n in
    let b = w.value c.args.before in
    let codes = w.values c.args.codes.now in
    let base = w.values c.args.out.now in
    let under : l.i < n = c.loop-i-test.true in
    let room : n ≤ length codes = rw (length_of L c.args.codes.now) c.requires.0 in
    let inside : l.i < length (take n codes) = rw (length-take-le n codes room) under in
    let read = read_of L c.args.codes.now l.i c.index-codes-i.result c.index-codes-i.is (omega (arith, c.requires.0)) in
    let sum = c.restored-last.ensures ∙ ap₂ (difference_restored w.width) l.invariant.1 (read ∙ sym (get_or-take n codes l.i 0 under)) in (
      set_of L l.out l.i c.restored-last.result
          ∙ ap₂ (λ (o : List ℕ) (p : ℕ). set o l.i p) l.invariant.0 sum
          ∙ one_summed w.width b (take n codes) l.i inside base (rw (length_of L c.args.out.now) (omega (arith, c.requires.1))),
      sum ∙ sym (summed_is w.width b (take n codes) l.i inside),
    )

pub returns : goal.returns
returns g c =
    let w = g.T.Word in
    let l = c.loop-i in
    let n = c.args.n in
    let codes = w.values c.args.codes.now in
    let room : n ≤ length codes = rw (length_of g.met.T.Word.values_law c.args.codes.now) c.requires.0 in
    let end : l.i ≡ n = omega arith in
    l.invariant.0
    ∙ ap₂ (λ (a b : List ℕ). running_sums w.width (w.value c.args.before) a ++ b)
    (ap (λ (n : ℕ). take n (take c.args.n codes)) end ∙ take_all n (take n codes) (rw (length-take-le n codes room) (le_refl n)))
    (ap (λ (n : ℕ). drop n (w.values c.args.out.now)) end)
