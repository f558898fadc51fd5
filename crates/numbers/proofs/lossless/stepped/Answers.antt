use Rattle.std.proofs.Common.{ap, sym, ◌∙◌, ◌+◌, ◌-◌, ◌^◌, ◌≤◌, ◌≡◌, nat_le, arith}
use Rattle.numbers.specs.Lossless.{stepped, minus}
use Rattle.numbers.proofs.Law.Lossless.{subtracted, low_below_zero, stepped_below}
use Rattle.numbers.proofs.lossless.stepped.Goals as goal

pub told_highest_bit-requires : goal.told_highest_bit-requires
unfolding minus
told_highest_bit-requires g c =
    let W = g.T.Word.width in
    let m = g.T.Word.fraction in
    let room : m + 2 ≤ W = omega (arith, g.met.T.Word.widths_law) in
    let r = g.T.Word.value c.args.r in
    let a = c.subtracted.ensures in
    let s : g.T.Word.value c.wrapping_sub-s.result ≡ stepped W m r = c.wrapping_sub-s.ensures ∙ subtracted W m room r (g.T.Word.value c.subtracted.result) c.requires (a.zero, (a.up_to_middle, a.above_middle)) in
    (rw s (stepped_below W m room r c.requires), c.exponent_up_to_middle.ensures ∙ low_below_zero W m room r c.requires ∙ ap (nat_le (2 ^ (W - 1))) (sym s))

pub returns : goal.returns
unfolding minus
returns g c =
    let a = c.subtracted.ensures in
    c.told_highest_bit.ensures ∙ c.wrapping_sub-s.ensures
    ∙ subtracted g.T.Word.width g.T.Word.fraction (omega (arith, g.met.T.Word.widths_law)) (g.T.Word.value c.args.r) (g.T.Word.value c.subtracted.result) c.requires (a.zero, (a.up_to_middle, a.above_middle))
