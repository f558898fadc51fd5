-- `bins::whole::magnitude_code32` meets its contract.
use Rattle.std.proofs.Common.{◌≡◌, ℕ, ◌+◌, ◌*◌, ◌/◌, ◌%◌, ◌^◌, ap, ◌∙◌, ap₂, arith, lit≤}
use Rattle.bins.specs.Tolerance.{last_bin, near, magnitude_code, largest_u}
use Rattle.bins.proofs.Law.Tolerance.{code_largest}
use Rattle.bins.proofs.Law.Straight.{some_is, code_straight}
use Rattle.bins.proofs.whole.magnitude_code32.Goals as goal

sum_is : (c : goal.After-past-2)
    → c.before.rounded32.result + c.past-2.result * 2 ^ 23 ≡ magnitude_code 23 c.before.before.before.args.halves c.before.before.before.args.j c.before.before.before.args.o
sum_is c =
    let f = c.before.before.before in
    let o = f.args.o in
    let some = (o / 2 ^ 23 + 255) / 256 in
    ap₂ (λ (a b : ℕ). a + b * 2 ^ 23) (c.before.rounded32.ensures ∙ ap (λ (s : ℕ). near f.args.halves s (some * 2 ^ 23 + o % 2 ^ 23)) c.before.before.past.ensures) c.past-2.ensures
    ∙ code_straight 23 f.args.j o f.args.halves some (some_is 256 (o / 2 ^ 23) (omega (arith, f.requires.1)))

pub overflow_add-j : goal.overflow_add-j
unfolding last_bin
overflow_add-j c = omega arith

pub overflow_add-j-2 : goal.overflow_add-j-2
unfolding last_bin
overflow_add-j-2 c = omega arith

pub overflow_add-result : goal.overflow_add-result
unfolding largest_u
overflow_add-result c =
    let f = c.before.before.before in
    let a = f.args in
    omega (arith, sum_is c, code_largest 32 23 (lit≤ tt) a.j f.requires.0 a.halves a.o f.requires.1)

pub returns : goal.returns
returns c = sum_is c
