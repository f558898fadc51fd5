-- `stream::listing::put_listing` meets its contract.
use mathlib.Core.Path.{sym, ap₂, ◌∙◌}
use native.Mathlib.Omega.{arith}
use Rattle.stream.specs.Setting.{highest_level}
use Rattle.stream.specs.Listing.{most_input, newline, too_long, refused_line, answer_lines}
use Rattle.std.specs.Prelude.{Err}
use Rattle.stream.proofs.Law.Listing.Text.{same_piece}
use Rattle.stream.proofs.Law.Listing.Lines.{accepted, too_long_is, answered_is}
use Rattle.stream.proofs.listing.put_listing.Goals as goal

pub returns-then-bytes-gt-MOST_INPUT : goal.returns-then-bytes-gt-MOST_INPUT
unfolding most_input newline too_long
returns-then-bytes-gt-MOST_INPUT c =
    same_piece (too_long_is c.args.bytes.now c.if-bytes-gt-MOST_INPUT.true) c.put_text.ensures

pub put_stream-requires : goal.put_stream-requires
unfolding highest_level
put_stream-requires c =
    record {
      opened = accepted highest_level c.args.bytes.now (λ i. (c.shared_slice_known-1.given i).fits) _ (sym c.check-found.ensures ∙
          c.in-Ok.is);
      in_bounds = omega arith;
    }

pub returns-in-Ok : goal.returns-in-Ok
unfolding most_input highest_level answer_lines
returns-in-Ok c =
    same_piece (answered_is c.args.bytes.now c.if-bytes-gt-MOST_INPUT.false _ _ c.check-found.ensures c.in-Ok.is)
    c.put_stream.ensures

pub returns-in-Err : goal.returns-in-Err
unfolding most_input highest_level answer_lines
returns-in-Err c =
    same_piece
    (ap₂ refused_line c.number.ensures c.detail.ensures
    ∙ answered_is c.args.bytes.now c.if-bytes-gt-MOST_INPUT.false _ (Err c.in-Err.refusal) c.check-found.ensures c.in-Err.is)
    c.put_refused_line.ensures
