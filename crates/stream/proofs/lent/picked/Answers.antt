-- `stream::lent::picked` meets its contract: in mode 2 the last of the sums up to it, else the pattern of its own code.
use Prim.Native.Nat.{ℕ, ◌+◌, ◌^◌, ◌<◌}
use mathlib.Core.List.{List}
use mathlib.Core.Path.{sym, ap, subst, ◌∙◌}
use native.Mathlib.Numerals.{add-one}
use native.Mathlib.Omega.{arith}
use lib.ListN.{take, get_or}
use lib.Seq.{length-take-le, get_or-take}
use Rattle.numbers.specs.Difference.{running_sums}
use Rattle.numbers.proofs.Theorems.{the_last_of_a_list, as_many_sums}
use Rattle.stream.specs.Setting.{pattern_at}
use Rattle.stream.proofs.Law.Plain.Mapped.{map_at}
use Rattle.stream.proofs.Law.Setting.Codes.{patterns_by_sum, patterns_each}
use Rattle.stream.proofs.lent.picked.Goals as goal

pub pattern-requires : goal.pattern-requires
pattern-requires c =
    let s = c.before in
    let a = s.args in
    (s.requires.0, subst (λ (x : ℕ). x < 2 ^ a.t.width) (get_or-take (a.i + 1) a.codes.now a.i 0 (omega arith)) (s.requires.4 a.i))

pub returns-then-t-eq2 : goal.returns-then-t-eq2
returns-then-t-eq2 c =
    let s = c.before in
    let a = s.args in
    let W = a.t.width in
    let cs = take (a.i + 1) a.codes.now in
    c.last_sum.ensures
    ∙ the_last_of_a_list a.before (running_sums W a.before cs) a.i (as_many_sums W a.before cs ∙ length-take-le (a.i + 1) a.codes.now (omega (arith, s.requires.2)) ∙ add-one a.i)
    ∙ ap (λ (ps : List ℕ). get_or ps a.i 0) (sym (patterns_by_sum a.t a.before cs c.if-t-eq2.true))

pub returns-else-t-eq2 : goal.returns-else-t-eq2
returns-else-t-eq2 c =
    let s = c.before in
    let a = s.args in
    let cs = take (a.i + 1) a.codes.now in
    c.pattern.ensures
    ∙ ap (pattern_at a.t) (sym (get_or-take (a.i + 1) a.codes.now a.i 0 (omega arith)))
    ∙ sym (ap (λ (ps : List ℕ). get_or ps a.i 0) (patterns_each a.t a.before cs c.if-t-eq2.false)
    ∙ map_at (pattern_at a.t) cs a.i (rw (length-take-le (a.i + 1) a.codes.now (omega (arith, s.requires.2))) (omega arith)))
