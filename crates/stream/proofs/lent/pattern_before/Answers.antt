use Rattle.std.proofs.Common.{◌≡◌, ℕ, ◌<◌, ◌-◌, suc, take, length, sym, ap, ◌∙◌, arith}
use Rattle.words.proofs.Lists.{length_of, read_of}
use Rattle.numbers.specs.Difference.{last_of}
use Rattle.numbers.proofs.Theorems.{the_last_of_a_beginning, nothing_carries_on}
use Rattle.stream.proofs.lent.pattern_before.Goals as goal

pub returns-then-at-eq0 : goal.returns-then-at-eq0
returns-then-at-eq0 g c = c.of.ensures ∙ sym (ap (λ (n : ℕ). last_of 0 (take n (g.T.Word.values c.args.values.now))) c.if-at-eq0.true ∙ nothing_carries_on 0)

pub returns-else-at-eq0 : goal.returns-else-at-eq0
returns-else-at-eq0 g c =
    let L = g.met.T.Word.values_law in
    let a = c.args in
    let xs = g.T.Word.values a.values.now in
    let e : suc (a.at - 1) ≡ a.at = omega (arith, c.if-at-eq0.false) in
    let here : a.at - 1 < length xs = rw (length_of L a.values.now) (omega (arith, c.requires, e)) in
    read_of L a.values.now (a.at - 1) c.index-values-at.result c.index-values-at.is (omega (arith, c.requires, e))
    ∙ sym (the_last_of_a_beginning 0 xs (a.at - 1) here) ∙ ap (λ (n : ℕ). last_of 0 (take n xs)) e
