-- `stream::listing::put_chunk_line` meets its contract.
use native.Mathlib.Omega.{arith}
use Rattle.stream.specs.Listing.{chunk_word, at_word, bytes_word, groups_word, newline}
use Rattle.stream.proofs.Law.Listing.Text.{and_then, same_piece, within_digits}
use Rattle.stream.proofs.Law.Listing.Lines.{chunk_line_is}
use Rattle.stream.proofs.Law.Tables.Starts.{rising}
use Rattle.stream.proofs.listing.put_chunk_line.Goals as goal

pub groups_at-groups-requires : goal.groups_at-groups-requires
groups_at-groups-requires c = let start = c.before in (start.requires.0.words, start.requires.0.setting, omega (arith, start.requires.0.layout, start.requires.2))

pub overflow_sub-end : goal.overflow_sub-end
overflow_sub-end c =
    let start = c.before in
    omega (arith, rising start.args.h start.args.bytes.now start.requires.1 start.args.j start.requires.2)

pub returns : goal.returns
unfolding chunk_word at_word bytes_word groups_word newline
returns c =
    let at-put-byte = c.before.before.before in
    let at-put-labelled4 = at-put-byte.before.before.before.before in
    let at-put-labelled3 = at-put-labelled4.before.before.before.before.before in
    let at-put-labelled2 = at-put-labelled3.before.before.before.before.before in
    let at-put-labelled = at-put-labelled2.before.before.before.before.before in
    let at-groups-at = at-put-labelled.before.before.before in
    let at-start-at2 = at-groups-at.before in
    let at-start-at = at-start-at2.before in
    let start = at-start-at.before.before.before in (
      same_piece (chunk_line_is start.args.h start.args.bytes.now start.args.j at-start-at.start_at-start.result
          at-start-at2.start_at-end.result at-groups-at.groups_at-groups.result at-start-at.start_at-start.ensures at-start-at2.start_at-end.ensures
          at-groups-at.groups_at-groups.ensures.0)
          (and_then (and_then (and_then (and_then at-put-labelled.put_labelled-next.ensures.appends at-put-labelled2.put_labelled-next-2.ensures.appends)
          at-put-labelled3.put_labelled-next-3.ensures.appends) at-put-labelled4.put_labelled-next-4.ensures.appends) at-put-byte.put_byte.ensures),
      omega (
        arith,
        within_digits chunk_word start.args.j at-put-labelled.put_labelled-next.ensures.appends 3 (omega
            (arith, start.requires.2, start.requires.0.layout)),
        within_digits groups_word _ at-put-labelled4.put_labelled-next-4.ensures.appends 3 (omega
            (arith, at-groups-at.groups_at-groups.ensures.1)),
      ),
    )
