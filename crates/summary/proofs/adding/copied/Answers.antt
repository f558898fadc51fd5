-- `summary::adding::copied` meets its contract. The invariant: the bytes passed, and then what was there.
use mathlib.Core.Path.{◌≡◌, refl, ap, ap₂, ◌∙◌}
use mathlib.Core.List.{List, ◌++◌}
use Prim.Native.Nat.{ℕ}
use native.Mathlib.Omega.{arith}
use lib.ListN.{length, drop, get_or, set}
use lib.Seq.{take_all}
use Rattle.stream.proofs.Law.Plain.Mapped.{one_over, length_over}
use Rattle.summary.proofs.adding.copied.Goals as goal
use Rattle.summary.proofs.adding.copied.Lts as lts
use Rattle.summary.proofs.adding.copied.Reads as reads

abbrev At-loop : Type 0
At-loop = lts.At-loop reads.Pre reads.Post goal.the-invariant-loop-i goal.the-decreases-loop-i

long : (l : At-loop) → length l.loop-i.out ≡ length l.args.out.now
long l = let f = l in length_over f.args.bytes.now f.args.out.now l.loop-i.out l.loop-i.i l.loop-i.invariant.0 (omega (arith, f.requires, l.loop-i.invariant.0)) l.loop-i.invariant.1

pub loop-i-init : goal.loop-i-init
loop-i-init c = (omega arith, refl)

pub bounds-bytes-i : goal.bounds-bytes-i
bounds-bytes-i c = omega (arith, c.loop-i-test.true)

pub bounds-out-i : goal.bounds-out-i
bounds-out-i c = let f = c.before in omega (arith, long c.before.before.before, f.requires, c.loop-i-test.true)

pub loop-i-preserved : goal.loop-i-preserved
loop-i-preserved c =
    let f = c.before in
    let v = f.args in
    let l = c.loop-i in (
      omega (arith, c.loop-i-test.true),
      ap (λ (o : List ℕ). set o l.i (get_or v.bytes.now l.i 0)) l.invariant.1
          ∙ one_over v.bytes.now v.out.now l.i (omega (arith, c.loop-i-test.true)) (omega (arith, f.requires, c.loop-i-test.true)),
    )

pub shape_of-out : goal.shape_of-out
shape_of-out c = long c.before.before

pub returns : goal.returns
returns c =
    let v = c.args in
    let l = c.loop-i in
    let end : l.i ≡ length v.bytes.now = omega (arith, l.invariant.0, c.loop-i-test.false) in
    l.invariant.1 ∙ ap₂ (λ (x : List ℕ) (n : ℕ). x ++ drop n v.out.now) (take_all l.i v.bytes.now (omega (arith, end))) end
