-- The first i of the numbers and zeros are spelled over what was there.
use Rattle.std.proofs.Common.{◌-◌, length, refl, sym, ◌∙◌, arith}
use Rattle.stream.proofs.Law.Written.Numbers.{padded, length_padded, get_or_padded, none_spelled, one_spelled, all_spelled}
use Rattle.stream.proofs.pack.put_numbers.Goals as goal

pub loop-i-init : goal.loop-i-init
loop-i-init c = (refl, none_spelled (padded c.args.numbers.now c.args.count) c.args.out.now)

pub loop-i-preserved : goal.loop-i-preserved
loop-i-preserved c =
    let l = c.loop-i in
    let ns = c.args.numbers.now in
    let count = c.args.count in
    let long = length_padded ns count c.requires.0 in (
      c.put_word.auto.out ∙ l.invariant.0,
      c.put_word.ensures
          ∙ one_spelled (padded ns count) c.args.out.now l.out l.i c.number_at.result (omega arith)
          (c.number_at.ensures ∙ sym (get_or_padded ns (count - length ns) l.i)) l.invariant.1,
    )

pub returns : goal.returns
returns c =
    let l = c.loop-i in
    let ns = c.args.numbers.now in
    let count = c.args.count in
    all_spelled (padded ns count) c.args.out.now l.out l.i count (length_padded ns count c.requires.0) (omega arith) l.invariant.1
