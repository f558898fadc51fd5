-- `stream::lent::value` meets its contract: in mode 2 the blocks before the index's are summed up, and in the others nothing asks for them.
use mathlib.Core.Path.{sym, ap, ◌∙◌}
use mathlib.Core.List.{List}
use Prim.Native.Nat.{ℕ, ◌*◌, ◌/◌, ◌≤◌}
use native.Mathlib.Omega.{arith}
use lib.ListN.{length}
use Rattle.numbers.specs.Difference.{last_of}
use Rattle.stream.specs.Group.{given_width, group_length, group_codes}
use Rattle.stream.specs.Setting.{patterns_after}
use Rattle.stream.proofs.Law.Group.Blocks.{bytes_fewer}
use Rattle.stream.proofs.Law.Setting.Codes.{patterns_by_sum, any_before}
use Rattle.stream.proofs.lent.value.Goals as goal

-- the blocks before the index's are there
first_there : (n i : ℕ) (s : List ℕ) → 32 * (i / 32) ≤ n → group_length n s ≤ length s → group_length (32 * (i / 32)) s ≤ length s
unfolding group_length
first_there n i s few all = omega (arith, all, bytes_fewer (given_width s) (32 * (i / 32)) n few)

pub group_sum-last-requires : goal.group_sum-last-requires
group_sum-last-requires c =
    let f = c.before in
    let a = f.args in
    let p = f.requires in
    let few : 32 * (a.i / 32) ≤ a.n = omega (arith, p.2) in
    (p.0, p.1, omega (arith, few, p.3), p.4, first_there a.n a.i a.s.now few p.5)

pub value_behind-requires : goal.value_behind-requires
value_behind-requires c = let p = c.requires in (p.0, c.group_sum-last.ensures.0, p.2, p.3, p.4, p.5)

pub returns-then-t-eq2 : goal.returns-then-t-eq2
returns-then-t-eq2 c =
    let g = c.before in
    let a = g.args in
    let passed = group_codes (32 * (a.i / 32)) a.s.now in
    c.value_behind.ensures a.before
    (λ ds. ap (λ (b : ℕ). patterns_after a.t b ds) (g.group_sum-last.ensures.1 ∙ ap (last_of a.before) (sym (patterns_by_sum a.t a.before passed g.if-t-eq2.true))))

pub returns : goal.returns
returns c =
    let a = c.args in
    c.value_behind-2.ensures a.before (λ ds. any_before a.t _ _ ds c.if-t-eq2.false)
