-- `summary::entry::ranked` meets its contract. The invariant: what is found of the values passed.
use Rattle.std.proofs.Common.{◌≡◌, ℕ, ◌+◌, ◌^◌, ◌≤◌, ◌<◌, length, get_or, ap, sym, subst, ◌∙◌, arith}
use Rattle.words.proofs.Lists.{length_of, read_of}
use Rattle.summary.specs.Order.{not_a_number, rank}
use Rattle.summary.proofs.Law.Pass.{count_fits, passed_none, passed_nan, passed_number, passed_all, passed_patterns}
use Rattle.summary.proofs.entry.ranked.Goals as goal
use Rattle.summary.proofs.entry.ranked.Goals.{then-not_a_number, else-not_a_number}

pub loop-value-init : goal.loop-value-init
loop-value-init g c =
    let w = g.T.Word in
    rw (c.of-nans.ensures, c.ALL-low.ensures, g.met.T.Word.all_law, c.of-high.ensures) (passed_none w.width w.fraction (w.values c.args.values.now))

pub add-nans-requires : goal.add-nans-requires
add-nans-requires g c =
    let w = g.T.Word in
    let L = g.met.T.Word in
    let few : w.value c.loop-value.nans + 1 ≤ 1024 = omega (arith, c.loop-value.invariant.few, c.loop-value-test.true, c.requires) in
    L.can_add_law _ _ (rw c.of.ensures (count_fits w.width _ (omega (arith, L.formats_law)) few))

pub loop-value-preserved : goal.loop-value-preserved
loop-value-preserved g c =
    let w = g.T.Word in
    let L = g.met.T.Word in
    let W = w.width in
    let m = w.fraction in
    let l = c.loop-value in
    let xs = c.args.values.now in
    let vs = w.values xs in
    let i = l.value-index in
    let inside : i < length vs = omega (arith, length_of L.values_law xs, c.loop-value-test.true) in
    let read : w.value c.bounded-p.result ≡ get_or vs i 0 = ap w.value c.bounded-p.ensures.same ∙ read_of L.values_law xs i c.value-item.result c.value-item.is c.loop-value-test.true in
    let fits : get_or vs i 0 < 2 ^ W = subst (λ (p : ℕ). p < 2 ^ W) read c.bounded-p.ensures.below in
    let kind = ap (not_a_number W m) (sym read) ∙ sym c.not_a_number.ensures in
    elim c.if-not_a_number.branch [
      | then-not_a_number b ↦ rw (b.nans-is, b.low-is, b.high-is, L.add_law _ _ _ b.add-nans.ensures, b.of.ensures) (passed_nan l.invariant inside fits (kind ∙ b.if-not_a_number.true))
      | else-not_a_number b ↦ rw (b.nans-is, b.low-is, b.high-is) (passed_number l.invariant inside fits (kind ∙ b.if-not_a_number.false) (b.rank-rank.ensures ∙ ap (rank W) read) b.lesser-low.ensures b.greater-high.ensures)
    ]

pub returns-clause-found : goal.returns-clause-found
returns-clause-found g c = passed_all c.loop-value.invariant (omega (arith, length_of g.met.T.Word.values_law c.args.values.now, c.loop-value-test.false))

pub returns-clause-patterns : goal.returns-clause-patterns
returns-clause-patterns g c = passed_patterns c.loop-value.invariant (omega (arith, length_of g.met.T.Word.values_law c.args.values.now, c.loop-value-test.false))
