-- `stream::pack::put_front` meets its contract.
use Rattle.stream.proofs.Law.Written.Unfinished.{front_spelled}
use Rattle.stream.proofs.Law.Setting.Widths.{need_small}
use mathlib.Core.Path.{◌∙◌}
use native.Mathlib.Omega.{arith}
use Rattle.stream.proofs.pack.put_front.Goals as goal

pub overflow_cast-numbers : goal.overflow_cast-numbers
overflow_cast-numbers c = omega (arith, c.need_of-needed.ensures, need_small c.args.t)

pub mode_number-requires : goal.mode_number-requires
mode_number-requires c = c.requires.0

pub k_bits-requires : goal.k_bits-requires
k_bits-requires c = c.requires.0

pub returns : goal.returns
returns c =
    let bits = c.k_bits in
    let mode = c.mode_number in
    let needed = c.need_of-needed in
    let chunks = c.chunks_of-chunks in
    let a = c.args in
    c.put_numbers.ensures
    ∙ front_spelled a.level a.t a.n chunks.result needed.result mode.result bits.result a.out.now chunks.ensures.0 needed.ensures mode.ensures bits.ensures
