-- The patterns land in the output of the width.
use Rattle.std.proofs.Common.{ℕ, List, take, sym, ap, ◌∙◌, arith}
use Rattle.numbers.specs.Difference.{last_of}
use Rattle.stream.specs.Group.{group_codes}
use Rattle.stream.specs.Lent.{landed}
use Rattle.stream.specs.Setting.{patterns_after}
use Rattle.stream.proofs.Law.Setting.Allowed.{width_other}
use Rattle.stream.proofs.Law.Lent.Chosen.{at_32, at_other}
use Rattle.stream.proofs.Law.Lent.Codes.{length_32, length_other}
use Rattle.stream.proofs.lent.put_values.Goals as goal

pub put_from-requires-clause-at_bound : goal.put_from-requires-clause-at_bound
put_from-requires-clause-at_bound c =
    let a = c.args in
    let p = c.requires.at_bound in
    (p.0, omega (arith, p.1, length_32 a.t.width a.c32.now a.c64.now c.if-t-eq32.true), omega (arith, p.2, length_32 a.t.width a.o32.now a.o64.now c.if-t-eq32.true))

pub put_from-requires-else-t-eq32-clause-allowed : goal.put_from-requires-else-t-eq32-clause-allowed
put_from-requires-else-t-eq32-clause-allowed c =
    let p = c.requires.allowed in
    let wide = width_other c.args.t.width p.0.known c.if-t-eq32.false in
    (p.0, wide, p.1, omega (arith, p.2, wide), p.3)

pub put_from-requires-else-t-eq32-clause-at_bound : goal.put_from-requires-else-t-eq32-clause-at_bound
put_from-requires-else-t-eq32-clause-at_bound c =
    let a = c.args in
    let p = c.requires.at_bound in
    (p.0, omega (arith, p.1, length_other a.t.width a.c32.now a.c64.now c.if-t-eq32.false), omega (arith, p.2, length_other a.t.width a.o32.now a.o64.now c.if-t-eq32.false))

pub returns-then-t-eq32 : goal.returns-then-t-eq32
returns-then-t-eq32 c =
    let a = c.args in
    at_32 a.t.width c.put_from.new.out a.o64.now c.if-t-eq32.true
    ∙ c.put_from.ensures
    ∙ ap (λ (o : List ℕ). landed a.at (patterns_after a.t (last_of 0 (take a.at o)) (group_codes a.n a.s.now)) o) (sym (at_32 a.t.width a.o32.now a.o64.now c.if-t-eq32.true))

pub returns-else-t-eq32 : goal.returns-else-t-eq32
returns-else-t-eq32 c =
    let a = c.args in
    at_other a.t.width a.o32.now c.put_from-else-t-eq32.new.out c.if-t-eq32.false
    ∙ c.put_from-else-t-eq32.ensures
    ∙ ap (λ (o : List ℕ). landed a.at (patterns_after a.t (last_of 0 (take a.at o)) (group_codes a.n a.s.now)) o) (sym (at_other a.t.width a.o32.now a.o64.now c.if-t-eq32.false))
