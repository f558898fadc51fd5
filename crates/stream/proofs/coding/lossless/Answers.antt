use Rattle.std.proofs.Common.{sym, ◌∙◌}
use Rattle.stream.proofs.Law.Setting.Codes.{fraction_is, lossless_code_is}
use Rattle.stream.proofs.coding.lossless.Goals as goal

pub returns : goal.returns
returns g c =
    let w = g.T.Word in
    c.code.ensures ∙ sym (lossless_code_is c.args.t w.width w.fraction c.requires.0 (fraction_is w.width w.fraction g.met.T.Word.formats_law) (w.value c.args.p) c.requires.1)
