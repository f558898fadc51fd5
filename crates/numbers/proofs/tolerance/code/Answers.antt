-- `numbers::tolerance::code` meets its contract.
use Rattle.std.proofs.Common.{Some, None, sym, arith}
use Rattle.bins.proofs.Law.Answers.{answered}
use Rattle.numbers.proofs.Law.Answers.{no_rule, no_code, coded}
use Rattle.numbers.proofs.tolerance.code.Goals as goal

pub returns-then-halves-gt1 : goal.returns-then-halves-gt1
returns-then-halves-gt1 g c = sym (no_rule g.T.Word.width g.T.Word.fraction _ c.args.halves _ c.if-halves-gt1.true)

pub returns-in_err-j : goal.returns-in_err-j
returns-in_err-j g c =
    let none = answered g.T.Word.width g.T.Word.fraction c.args.k c.ranges.k c.bin.result None c.bin.ensures c.in_err-j.was in
    rw (c.from_residual.ensures) (sym (no_code g.T.Word.width g.T.Word.fraction c.args.k none c.args.halves _))

pub returns : goal.returns
returns g c =
    let law = g.met.T.Kernel in
    let j = c.in_ok-j.j in
    let some = answered g.T.Word.width g.T.Word.fraction c.args.k c.ranges.k c.bin.result (Some j) c.bin.ensures c.in_ok-j.was in
    coded g.T.Word.width g.T.Word.fraction c.args.k j some (omega (arith, law.offset_law)) (omega (arith, law.offset_law, law.bins_law, law.last_law)) c.args.halves _ _
    c.if-halves-gt1.false c.code_at_bin.ensures
