-- `stream::setting::k_bits` meets its contract.
use Rattle.numbers.specs.Bound.{exponent_of}
use Rattle.bins.specs.Tolerance.{k_offset, last_bin}
use Rattle.stream.proofs.Law.Setting.Allowed.{width_other}
use Rattle.stream.proofs.Law.Setting.Exponent.{wrapped_bits}
use Rattle.stream.specs.Setting.{fraction_bits, k_bits}
use borrow.Author.Tests.{eq-eqb, ne_eqb}
use lib.Dec.{lit<}
use native.Mathlib.Omega.{arith}
use Rattle.stream.proofs.setting.k_bits.Goals as goal

pub returns-then-t-ne1 : goal.returns-then-t-ne1
unfolding k_bits
returns-then-t-ne1 c = rw (ne_eqb c.args.t.mode 1 c.if-t-ne1.true)

pub returns-then-t-eq32 : goal.returns-then-t-eq32
unfolding k_bits exponent_of k_offset fraction_bits last_bin
returns-then-t-eq32 c =
    let t = c.args.t in
    let bin = rw c.if-t-eq32.true at c.requires.bin in
    rw (eq-eqb t.mode 1 c.if-t-ne1.false, c.if-t-eq32.true) (wrapped_bits t.bin 150 (omega (arith, bin)) (lit< tt))

pub returns : goal.returns
unfolding k_bits exponent_of k_offset fraction_bits last_bin
returns c =
    let t = c.args.t in
    let other = width_other t.width c.requires.known c.if-t-eq32.false in
    let bin = rw other at c.requires.bin in
    rw (eq-eqb t.mode 1 c.if-t-ne1.false, other) (wrapped_bits t.bin 1075 (omega (arith, bin)) (lit< tt))
