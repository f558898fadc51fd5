-- `bins::whole::code64` meets its contract.
use Rattle.std.proofs.Common.{ℕ, ◌+◌, ◌*◌, ap, ◌∙◌, arith, lit≤}
use Rattle.bins.specs.Tolerance.{last_bin, ordinal, sign}
use Rattle.bins.proofs.Law.Working.{by_taken, by_left, threshold_fits, bins_code_fits, code_bins, code_rest, rest_code_fits}
use Rattle.bins.proofs.whole.code64.Goals as goal

pub overflow_add-j : goal.overflow_add-j
unfolding last_bin
overflow_add-j c = omega arith

pub overflow_mul-j : goal.overflow_mul-j
overflow_mul-j c = record { fits = threshold_fits 64 52 (lit≤ tt) c.args.j c.requires }

pub nearest64-requires : goal.nearest64-requires
nearest64-requires c = (c.before.requires, by_taken 52 c.before.args.j _ c.if-o-j.true)

pub overflow_mul-result : goal.overflow_mul-result
unfolding ordinal sign
overflow_mul-result c = omega (arith, bins_code_fits 64 52 (lit≤ tt) c.before.before.args.j c.before.before.requires c.before.before.args.halves c.before.before.args.p (by_taken 52 c.before.before.args.j _ c.before.if-o-j.true) c.nearest64.result c.nearest64.ensures c.before.before.ranges.p.fits)

pub overflow_add-result : goal.overflow_add-result
unfolding ordinal sign
overflow_add-result c = record { fits = bins_code_fits 64 52 (lit≤ tt) c.before.before.args.j c.before.before.requires c.before.before.args.halves c.before.before.args.p (by_taken 52 c.before.before.args.j _ c.before.if-o-j.true) c.nearest64.result c.nearest64.ensures c.before.before.ranges.p.fits }

pub returns-then-o-j : goal.returns-then-o-j
unfolding ordinal sign
returns-then-o-j c = ap (λ (u : ℕ). 2 * u + sign 64 c.before.before.args.p) c.nearest64.ensures ∙ code_bins 64 52 (lit≤ tt) c.before.before.args.j c.before.before.requires c.before.before.args.halves c.before.before.args.p (by_taken 52 c.before.before.args.j _ c.before.if-o-j.true)

pub overflow_add-result-2 : goal.overflow_add-result-2
unfolding ordinal sign
overflow_add-result-2 c = record { fits = rest_code_fits 64 52 (lit≤ tt) c.before.args.j c.before.requires c.before.args.halves c.before.args.p (by_left 52 c.before.args.j _ c.if-o-j.false) c.before.ranges.p.fits }

pub returns : goal.returns
unfolding ordinal sign
returns c = code_rest 64 52 (lit≤ tt) c.before.args.j c.before.requires c.before.args.halves c.before.args.p (by_left 52 c.before.args.j _ c.if-o-j.false)
