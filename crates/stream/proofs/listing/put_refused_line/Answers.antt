-- `stream::listing::put_refused_line` meets its contract.
use Rattle.stream.specs.Listing.{refused_word, detail_word, newline, refused_line}
use Rattle.stream.proofs.Law.Listing.Text.{and_then}
use Rattle.stream.proofs.listing.put_refused_line.Goals as goal

pub returns : goal.returns
unfolding refused_word detail_word newline refused_line
returns c =
    let at-put-byte = c.before.before.before in
    let at-put-labelled2 = at-put-byte.before.before.before.before in
    let at-put-labelled = at-put-labelled2.before.before.before.before.before in
    and_then (and_then at-put-labelled.put_labelled-next.ensures.appends at-put-labelled2.put_labelled-next-2.ensures.appends) at-put-byte.put_byte.ensures
