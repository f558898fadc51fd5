-- The number rule of the mode.
use Rattle.std.proofs.Common.{sym, ◌∙◌}
use Rattle.stream.proofs.Law.Setting.Codes.{fraction_is, lossless_pattern_is, tolerance_pattern_is}
use Rattle.stream.proofs.coding.pattern.Goals as goal

pub returns-then-t-eq0 : goal.returns-then-t-eq0
returns-then-t-eq0 g c =
    let w = g.T.Word in
    c.restored.ensures ∙ sym (lossless_pattern_is c.args.t w.width w.fraction c.requires (fraction_is w.width w.fraction g.met.T.Word.formats_law) (w.value c.args.c) c.if-t-eq0.true)

pub returns-else-t-eq0 : goal.returns-else-t-eq0
returns-else-t-eq0 g c =
    let w = g.T.Word in
    c.restored_at_bin.ensures ∙ sym (tolerance_pattern_is c.args.t w.width w.fraction c.requires (fraction_is w.width w.fraction g.met.T.Word.formats_law) (w.value c.args.c) c.if-t-eq0.false)
