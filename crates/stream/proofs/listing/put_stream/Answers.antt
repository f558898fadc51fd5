-- `stream::listing::put_stream` meets its contract.
use native.Mathlib.Omega.{arith}
use mathlib.Core.Path.{ap}
use Rattle.stream.specs.declared.header.Header.{Header}
use Rattle.stream.specs.Listing.{stream_lines}
use Rattle.stream.proofs.Law.Listing.Text.{and_then, same_piece}
use Rattle.stream.proofs.Law.Listing.Lines.{as_read}
use Rattle.stream.proofs.listing.put_stream.Goals as goal

pub put_setting_line-next-requires : goal.put_setting_line-next-requires
put_setting_line-next-requires c =
    let at-header-of = c.before.before.before.before.before.before in
    let start = at-header-of.before.before.before in
    ((as_read start.args.bytes.now at-header-of.header_of-h.result at-header-of.header_of-h.ensures start.requires.opened).0.words, omega arith)

pub put_chunk_lines-requires : goal.put_chunk_lines-requires
put_chunk_lines-requires c =
    let at_count = c.before.before.before.before in
    let at-setting = at_count.before.before.before.before in
    let at-format = at-setting.before.before.before.before in
    let at-header-of = at-format.before.before in
    let start = at-header-of.before.before.before in
    let r = as_read start.args.bytes.now at-header-of.header_of-h.result at-header-of.header_of-h.ensures start.requires.opened in
    let at_most = at_count.put_count_line-next.ensures.1 in
    let count_most = at-setting.put_setting_line-next.ensures.1 in
    let setting-most = at-format.put_format_line-next.ensures.1 in
    let count_kept = at_count.put_count_line-next.auto.text in
    let Setting-kept = at-setting.put_setting_line-next.auto.text in
    let format-kept = at-format.put_format_line-next.auto.text in
    let room = start.requires.in_bounds in
    (r.0, r.1, omega (arith, r.0.layout, at_most, count_most, setting-most, count_kept, Setting-kept, format-kept, room))

pub returns : goal.returns
unfolding stream_lines
returns c =
    let at-put-chunk-lines = c.before.before.before in
    let at-put-count-line = at-put-chunk-lines.before.before.before.before in
    let at-put-setting-line = at-put-count-line.before.before.before.before in
    let at-put-format-line = at-put-setting-line.before.before.before.before in
    let at-header-of = at-put-format-line.before.before in
    let start = at-header-of.before.before.before in
    same_piece (ap (λ (g : Header). stream_lines g start.args.bytes.now) at-header-of.header_of-h.ensures)
    (and_then (and_then (and_then at-put-format-line.put_format_line-next.ensures.0 at-put-setting-line.put_setting_line-next.ensures.0)
    at-put-count-line.put_count_line-next.ensures.0) at-put-chunk-lines.put_chunk_lines.ensures)
