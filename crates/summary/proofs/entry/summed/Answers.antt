-- `summary::entry::summed` meets its contract: the patterns at the places found.
use Rattle.std.proofs.Common.{sym, ◌∙◌, arith}
use Rattle.words.proofs.Lists.{length_of}
use Rattle.summary.proofs.Law.Pass.{summed_none, summed_some}
use Rattle.summary.proofs.entry.summed.Goals as goal

pub returns-then-nans-values : goal.returns-then-nans-values
returns-then-nans-values g c =
    let w = g.T.Word in
    let f = c.ranked-r in
    let xs = c.args.values.now in
    rw c.wide-nans.ensures
    (summed_none w.width w.fraction (w.values xs) (w.value f.result.nans) (w.value f.result.low) (w.value f.result.high) f.ensures.found
    (sym c.wide-nans.ensures ∙ c.if-nans-values.true ∙ sym (length_of g.met.T.Word.values_law xs)))

pub returns : goal.returns
returns g c =
    let w = g.T.Word in
    let L = g.met.T.Word in
    let f = c.ranked-r in
    let xs = c.args.values.now in
    rw c.wide-nans.ensures
    (summed_some w.width w.fraction (w.values xs) (w.value f.result.nans) (w.value f.result.low) (w.value f.result.high) f.ensures.found
    (omega (arith, L.widths_law)) f.ensures.patterns (λ e. c.if-nans-values.false (c.wide-nans.ensures ∙ e ∙ length_of L.values_law xs))
    (c.wide.ensures ∙ c.pattern.ensures) (c.wide-2.ensures ∙ c.pattern-2.ensures))
