-- The invariant: `last` is the last sum of the codes passed.
use Rattle.std.proofs.Common.{ℕ, take, get_or, sym, ap, ◌∙◌}
use Rattle.numbers.specs.Difference.{difference_restored, last_of}
use Rattle.numbers.proofs.Theorems.{a_sum_has_W_bits, nothing_carries_on, no_sums}
use Rattle.stream.proofs.Law.Plain.Differences.{summed_is}
use Rattle.stream.proofs.Law.Setting.Allowed.{width_some}
use Rattle.stream.proofs.differences.last_sum.Goals as goal

pub loop-c-init : goal.loop-c-init
loop-c-init c = let a = c.args in (sym (ap (last_of a.before) (no_sums a.t.width a.before) ∙ nothing_carries_on a.before), c.requires.1)

pub loop-c-preserved : goal.loop-c-preserved
loop-c-preserved c =
    let a = c.args in
    let l = c.loop-c in
    let W = a.t.width in
    let sum = c.next-last.ensures ∙ ap (λ (b : ℕ). difference_restored W b (get_or (take a.n a.codes.now) l.c-index 0)) l.invariant.0 in (
      sum ∙ sym (summed_is W a.before (take a.n a.codes.now) l.c-index c.loop-c-test.true),
      rw c.next-last.ensures (a_sum_has_W_bits W (width_some W c.requires.0.known) l.last (get_or (take a.n a.codes.now) l.c-index 0)),
    )
