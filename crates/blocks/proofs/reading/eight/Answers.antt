-- `blocks::reading::eight` meets its contract: eight codes, each w bits behind the one before it.
use native.Mathlib.Nat.{mod-lt, lt_of_lt_of_le}
use lib.Pow.{pow_pos, pow_mono}
use Rattle.std.proofs.lemmas.List.Edits.{paste_none}
use Rattle.std.proofs.Common.{rules}
use Rattle.blocks.specs.Bytes.{number}
use Rattle.blocks.proofs.Law.Block.{elements, next_code, eight_codes}
use Rattle.blocks.proofs.reading.eight.Goals as goal

pub loop-i-init : goal.loop-i-init
loop-i-init g c =
    let a = c.args in
    paste_none a.c.now a.at (elements g.T.Code.of_nat a.w (number 256 a.s.now) a.bit 8)

pub of_code-requires : goal.of_code-requires
of_code-requires g c = rw c.code_at.ensures (lt_of_lt_of_le (mod-lt _ (pow_pos c.args.w)) (pow_mono c.requires.2))

pub loop-i-preserved : goal.loop-i-preserved
loop-i-preserved g c =
    let a = c.args in
    rw c.of_code.ensures (next_code g.T.Code.of_nat a.w (number 256 a.s.now) a.bit a.at c.loop-i.i _ a.c.now _ (search rules) (search rules) c.code_at.ensures c.loop-i.invariant)

pub returns : goal.returns
returns g c =
    let a = c.args in
    eight_codes g.T.Code.of_nat a.w (number 256 a.s.now) a.bit a.at c.loop-i.i a.c.now _ (search rules) c.loop-i.invariant
