-- `stream::differences::next` meets its contract.
use Prim.Native.Nat.{ℕ, ◌^◌, ◌<◌}
use mathlib.Core.Path.{sym, ap, subst, ◌∙◌}
use native.Mathlib.Omega.{arith}
use Rattle.numbers.specs.Difference.{difference_restored}
use Rattle.stream.proofs.Law.Setting.Allowed.{width_other}
use Rattle.stream.proofs.differences.next.Goals as goal

pub overflow_cast-before : goal.overflow_cast-before
overflow_cast-before c = let s = c in let h = subst (λ (w : ℕ). s.args.before < 2 ^ w) c.if-t-eq32.true s.requires.1 in omega (arith, h)

pub overflow_cast-c : goal.overflow_cast-c
overflow_cast-c c = let s = c in let h = subst (λ (w : ℕ). s.args.c < 2 ^ w) c.if-t-eq32.true s.requires.2 in omega (arith, h)

pub returns-then-t-eq32 : goal.returns-then-t-eq32
returns-then-t-eq32 c = let a = c.args in c.restored.ensures ∙ ap (λ (w : ℕ). difference_restored w a.before a.c) (sym c.if-t-eq32.true)

pub returns-else-t-eq32 : goal.returns-else-t-eq32
returns-else-t-eq32 c =
    let s = c in
    let a = s.args in
    c.restored-else-t-eq32.ensures ∙ ap (λ (w : ℕ). difference_restored w a.before a.c) (sym (width_other a.t.width s.requires.0.known c.if-t-eq32.false))
