use Rattle.std.proofs.Common.{arith, rules}
use Rattle.stream.proofs.Law.Group.Records.{at_most_64, long_of}
use Rattle.stream.proofs.Law.Group.Whole.{length_is}
use Rattle.stream.proofs.group.measured_full.Goals as goal

pub overflow_mul-result : goal.overflow_mul-result
overflow_mul-result g c = record { fits = omega (arith, c.width.ensures.1, at_most_64 g.met.T.Word.formats_law) }

pub overflow_add-result : goal.overflow_add-result
overflow_add-result g c = record { fits = omega (arith, c.width.ensures.1, at_most_64 g.met.T.Word.formats_law) }

pub returns : goal.returns
returns g c =
    let r = c.args.g in
    let long = long_of g.met.T.Word.values_law r (search rules) in
    length_is 4 (g.T.Word.values r.codes) long r.count c.width.result (omega (arith, long, c.requires)) c.width.ensures.0
