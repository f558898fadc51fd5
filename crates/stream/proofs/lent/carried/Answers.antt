-- `stream::lent::carried` meets its contract: in mode 2 the last sum of the group, else anything goes.
use mathlib.Core.Path.{sym, ap, ◌∙◌}
use Prim.Native.Nat.{ℕ}
use Rattle.numbers.specs.Difference.{last_of}
use Rattle.stream.specs.Group.{group_codes}
use Rattle.stream.specs.Setting.{patterns_after}
use Rattle.stream.proofs.Law.Setting.Codes.{any_before, patterns_by_sum}
use Rattle.stream.proofs.lent.carried.Goals as goal

pub returns-then-t-ne2 : goal.returns-then-t-ne2
returns-then-t-ne2 c = let f = c.before in (f.requires.1, λ cs. any_before f.args.t _ _ cs c.if-t-ne2.true)

pub returns : goal.returns
returns c =
    let a = c.args in (
      c.group_sum.ensures.0,
      λ ds. ap (λ (b : ℕ). patterns_after a.t b ds)
          (c.group_sum.ensures.1 ∙ ap (last_of a.before) (sym (patterns_by_sum a.t a.before (group_codes a.n a.s.now) c.if-t-ne2.false))),
    )
