-- `stream::group_checked::four_codes` meets its contract: the four codes are read one by one, or stand at the same bit of four words.
-- Assumes nothing.
use Prim.Native.Nat.{◌*◌, ◌≤◌}
use native.Mathlib.Nat.{le_refl, mul-le-mul}
use native.Mathlib.Omega.{arith}
use Rattle.stream.proofs.Law.Group.Checking.{four_read, four_loaded}
use Rattle.stream.proofs.group_checked.four_codes.Goals as goal
use Rattle.stream.proofs.group_checked.four_codes.Lts as lts
use Rattle.stream.proofs.group_checked.four_codes.Reads as reads
use Rattle.stream.proofs.group_checked.four_codes.Tie as tie

abbrev Start : Type 0
Start = lts.Start tie.the-claims reads.Pre reads.Post

-- the first of the four is one of the first eight
first : (f : Start) → f.args.i * f.args.w ≤ 7 * f.args.w
first f = mul-le-mul (let most : f.args.i ≤ 7 = omega (arith, f.requires.0) in most) (le_refl f.args.w)

pub overflow_mul-bit : goal.overflow_mul-bit
overflow_mul-bit c = omega (arith, first c.before.before)

pub overflow_add-bit : goal.overflow_add-bit
overflow_add-bit c = omega (arith, first c.before.before)

pub code_at-requires : goal.code_at-requires
code_at-requires c = let f = c.before.before.before in (f.requires.1, f.requires.2, omega (arith, first f))

pub overflow_add-bit-then-w-gt57 : goal.overflow_add-bit-then-w-gt57
overflow_add-bit-then-w-gt57 c = omega (arith, first c.before.before.before.before)

pub code_at-requires-then-w-gt57 : goal.code_at-requires-then-w-gt57
code_at-requires-then-w-gt57 c = let f = c.before.before.before.before in (f.requires.1, f.requires.2, omega (arith, first f))

pub overflow_add-bit-then-w-gt57-2 : goal.overflow_add-bit-then-w-gt57-2
overflow_add-bit-then-w-gt57-2 c = omega (arith, first c.before.before.before.before.before)

pub code_at-requires-then-w-gt57-2 : goal.code_at-requires-then-w-gt57-2
code_at-requires-then-w-gt57-2 c = let f = c.before.before.before.before.before in (f.requires.1, f.requires.2, omega (arith, first f))

pub overflow_add-bit-then-w-gt57-3 : goal.overflow_add-bit-then-w-gt57-3
overflow_add-bit-then-w-gt57-3 c = omega (arith, first c.before.before.before.before.before.before)

pub code_at-requires-then-w-gt57-3 : goal.code_at-requires-then-w-gt57-3
code_at-requires-then-w-gt57-3 c = let f = c.before.before.before.before.before.before in (f.requires.1, f.requires.2, omega (arith, first f))

pub returns-then-w-gt57 : goal.returns-then-w-gt57
returns-then-w-gt57 c =
    let k = c.before.before.before.before.before.before in
    let f = k in
    four_read f.args.s.now f.args.i f.args.w _ _ _ _ (λ i. (k.shared_slice_known-1.given i).fits) f.requires.2 f.requires.0
    c.code_at.ensures c.code_at-then-w-gt57.ensures c.code_at-then-w-gt57-2.ensures c.code_at-then-w-gt57-3.ensures

pub load-requires : goal.load-requires
load-requires c = omega (arith, first c.before.before.before)

pub overflow_add-at : goal.overflow_add-at
overflow_add-at c = omega (arith, first c.before.before.before.before)

pub load-requires-2 : goal.load-requires-2
load-requires-2 c = omega (arith, first c.before.before.before.before)

pub overflow_add-at-2 : goal.overflow_add-at-2
overflow_add-at-2 c = omega (arith, first c.before.before.before.before.before)

pub load-requires-3 : goal.load-requires-3
load-requires-3 c = omega (arith, first c.before.before.before.before.before)

pub overflow_add-at-3 : goal.overflow_add-at-3
overflow_add-at-3 c = omega (arith, first c.before.before.before.before.before.before)

pub load-requires-4 : goal.load-requires-4
load-requires-4 c = omega (arith, first c.before.before.before.before.before.before)

pub returns : goal.returns
returns c =
    let k = c.before.before.before.before.before.before in
    let f = k in
    four_loaded f.args.s.now f.args.i f.args.w _ _ _ _ (λ i. (k.shared_slice_known-1.given i).fits) f.requires.2 f.requires.0
    (omega (arith, c.if-w-gt57.false))
    c.load.ensures c.load-2.ensures c.load-3.ensures c.load-4.ensures
