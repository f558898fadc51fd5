-- `stream::setting::limit_of` meets its contract.
use Rattle.stream.proofs.Law.Setting.Allowed.{width_other}
use Rattle.stream.specs.Setting.{fraction_bits, clipped, limit_of}
use borrow.Author.Tests.{eq-eqb, ne_eqb}
use Rattle.stream.proofs.setting.limit_of.Goals as goal

pub returns-then-t-ne1 : goal.returns-then-t-ne1
unfolding limit_of fraction_bits clipped
returns-then-t-ne1 c = rw (c.if-t-eq32.true, ne_eqb c.args.t.mode 1 c.if-t-ne1.true)

pub returns-then-t-eq32 : goal.returns-then-t-eq32
unfolding limit_of fraction_bits clipped
returns-then-t-eq32 c = rw (c.if-t-eq32.true, eq-eqb c.args.t.mode 1 c.if-t-ne1.false) c.largest_u.ensures

pub returns-then-t-ne1-2 : goal.returns-then-t-ne1-2
unfolding limit_of fraction_bits clipped
returns-then-t-ne1-2 c = let s = c in rw (width_other s.args.t.width s.requires.known c.if-t-eq32.false, ne_eqb s.args.t.mode 1 c.if-t-ne1-2.true)

pub returns : goal.returns
unfolding limit_of fraction_bits clipped
returns c = let s = c in rw (width_other s.args.t.width s.requires.known c.if-t-eq32.false, eq-eqb s.args.t.mode 1 c.if-t-ne1-2.false) c.largest_u-2.ensures
