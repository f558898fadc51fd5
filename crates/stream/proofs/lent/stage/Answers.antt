-- `stream::lent::stage` meets its contract: at width 32 in mode 1 the codes are put; else nothing is promised.
use Rattle.std.proofs.Common.{arith}
use Rattle.stream.proofs.Law.Lent.Codes.{staged_front}
use Rattle.stream.proofs.Law.Setting.Allowed.{no_other_mode}
use Rattle.stream.proofs.lent.stage.Goals as goal

pub put_codes-requires : goal.put_codes-requires
put_codes-requires c = (c.if-t-eq32.true, λ z. omega (arith, z, c.if-t-eq1.true), c.requires.1)

pub returns-then-t-eq1 : goal.returns-then-t-eq1
returns-then-t-eq1 c = let a = c.args in λ _ _ _. staged_front a.t a.v32.now _ _ c.put_codes.ensures

pub returns-else-t-eq1 : goal.returns-else-t-eq1
returns-else-t-eq1 c = let s = c.before in λ _ zero two. absurd (no_other_mode s.args.t.mode s.requires.0.mode zero c.if-t-eq1.false two)

pub returns-else-t-eq32 : goal.returns-else-t-eq32
returns-else-t-eq32 c = λ is _ _. absurd (c.if-t-eq32.false is)
