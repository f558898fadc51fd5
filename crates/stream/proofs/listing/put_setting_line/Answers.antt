-- `stream::listing::put_setting_line` meets its contract.
use native.Mathlib.Omega.{arith}
use mathlib.Core.Path.{ap, ◌∙◌}
use mir.Facts.{to_z-of_z}
use mir.Syntax.{w32}
use Rattle.stream.specs.Listing.{signed_decimal, width_word, mode_word, bound_word, newline, setting_line}
use Rattle.stream.proofs.Law.Listing.Text.{and_then, same_piece}
use Rattle.stream.proofs.listing.put_setting_line.Goals as goal

pub returns : goal.returns
unfolding width_word mode_word bound_word newline setting_line
returns c =
    let at-put-byte = c.before.before.before in
    let at-put-signed = at-put-byte.before.before.before.before in
    let at-put-text = at-put-signed.before.before.before.before in
    let at-put-labelled2 = at-put-text.before.before.before.before.before in
    let at-put-labelled = at-put-labelled2.before.before.before.before.before in
    let at-exponent-of = at-put-labelled.before.before.before in
    let k = ap signed_decimal (to_z-of_z {w = w32} (record { sfits = at-exponent-of.exponent_of-k.type_inv }) ∙ at-exponent-of.exponent_of-k.ensures) in (
      and_then (and_then (and_then (and_then at-put-labelled.put_labelled-next.ensures.appends at-put-labelled2.put_labelled-next-2.ensures.appends)
          at-put-text.put_text-next.ensures) (same_piece k at-put-signed.put_signed-next.ensures.0)) at-put-byte.put_byte.ensures,
      omega arith,
    )
