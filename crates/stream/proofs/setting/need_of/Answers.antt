-- `stream::setting::need_of` meets its contract.
use Rattle.stream.proofs.Law.Setting.Allowed.{need_128, need_mode_2, need_64, need_mode_1, need_mode_0}
use Rattle.stream.proofs.setting.need_of.Goals as goal

pub returns-then-t-eq128 : goal.returns-then-t-eq128
returns-then-t-eq128 c = need_128 c.args.t c.if-t-eq128.true

pub returns-then-t-eq2 : goal.returns-then-t-eq2
returns-then-t-eq2 c = need_mode_2 c.args.t c.if-t-eq128.false c.if-t-eq2.true

pub returns-then-t-eq64 : goal.returns-then-t-eq64
returns-then-t-eq64 c =
    need_64 c.args.t c.if-t-eq128.false c.if-t-eq2.false c.if-t-eq64.true

pub returns-then-t-eq1 : goal.returns-then-t-eq1
returns-then-t-eq1 c =
    let t = c.args.t in
    need_mode_1 t c.if-t-eq128.false c.if-t-eq2.false c.if-t-eq64.false c.if-t-eq1.true

pub returns : goal.returns
returns c =
    let t = c.args.t in
    need_mode_0 t c.if-t-eq128.false c.if-t-eq2.false c.if-t-eq64.false c.if-t-eq1.false
