-- `stream::lent::pattern` meets its contract.
use Prim.Native.Nat.{ℕ, ◌^◌, ◌<◌}
use Rattle.stream.proofs.Law.Setting.Allowed.{width_other}
use mathlib.Core.Path.{subst}
use native.Mathlib.Omega.{arith}
use Rattle.stream.proofs.lent.pattern.Goals as goal

pub overflow_cast-c : goal.overflow_cast-c
overflow_cast-c c = let s = c in let h = subst (λ (w : ℕ). s.args.c < 2 ^ w) c.if-t-eq32.true s.requires.1 in omega (arith, h)

pub pattern-requires : goal.pattern-requires
pattern-requires c = c.if-t-eq32.true

pub pattern-requires-else-t-eq32 : goal.pattern-requires-else-t-eq32
pattern-requires-else-t-eq32 c = let s = c in width_other s.args.t.width s.requires.0.known c.if-t-eq32.false

pub returns-then-t-eq32 : goal.returns-then-t-eq32
returns-then-t-eq32 c = c.pattern.ensures

pub returns-else-t-eq32 : goal.returns-else-t-eq32
returns-else-t-eq32 c = c.pattern-else-t-eq32.ensures
