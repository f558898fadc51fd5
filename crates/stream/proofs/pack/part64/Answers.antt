-- `stream::pack::part64` meets its contract: the part between the two places is the piece.
use Rattle.stream.proofs.Law.Written.Pieces.{piece_clipped}
use Rattle.stream.proofs.pack.part64.Goals as goal

pub returns : goal.returns
returns c =
    let l = c.before in
    let a = l.args in
    piece_clipped a.values.now a.j l.min-from.result c.min-to.result l.min-from.ensures c.min-to.ensures
