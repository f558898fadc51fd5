-- `stream::listing::put_format_line` meets its contract.
use native.Mathlib.Omega.{arith}
use Rattle.stream.specs.Listing.{format_word, point, needs_word, newline, format_line}
use Rattle.stream.proofs.Law.Listing.Text.{and_then}
use Rattle.stream.proofs.listing.put_format_line.Goals as goal

pub returns : goal.returns
unfolding format_word point needs_word newline format_line
returns c =
    let at-put-byte = c.before.before.before in
    let at-put-labelled4 = at-put-byte.before.before.before.before in
    let at-put-labelled3 = at-put-labelled4.before.before.before.before.before in
    let at-put-labelled2 = at-put-labelled3.before.before.before.before.before in
    let at-put-labelled = at-put-labelled2.before.before.before.before.before in (
      and_then (and_then (and_then (and_then at-put-labelled.put_labelled-next.ensures.appends at-put-labelled2.put_labelled-next-2.ensures.appends)
          at-put-labelled3.put_labelled-next-3.ensures.appends) at-put-labelled4.put_labelled-next-4.ensures.appends) at-put-byte.put_byte.ensures,
      omega arith,
    )
