-- `bins::float::code32` meets its contract, by the laws of both sides of T.
use Rattle.std.proofs.Common.{◌+◌, ◌*◌, ◌%◌, ◌^◌, ◌≤◌, refl, arith, lit≤}
use Rattle.bins.specs.Tolerance.{last_bin, ordinal, sign, threshold_ordinal}
use Rattle.bins.proofs.Law.Far.{Sides, sides_by_test, near_asks, far_code, far_code_fits, far_sum_fits}
use Rattle.bins.proofs.float.code32.Goals as goal
use Rattle.bins.proofs.float.code32.Goals.{Start}

abbrev entry : goal.After-below32 → Start
entry c = c.before.before.before

last : (c : Start) → c.args.j ≤ 253
unfolding last_bin
last c = c.requires.1

sides : (c : goal.After-below32) → Sides (ordinal 32 (entry c).args.p) (threshold_ordinal 23 (entry c).args.j) ((entry c).args.j * 2 ^ 23) c.below32.result c.before.from32-rest.result
unfolding ordinal
sides c =
    let f = entry c in
    let w = c.before.before.wrapping_sub_u32 in
    sides_by_test 32 23 f.args.j (f.args.p % 2 ^ 31) (omega (arith, last f)) (omega arith) w.result w.ensures.value w.type_inv
    ((f.args.j + 1) * 2 ^ 23) c.below32.result c.before.from32-rest.result refl c.below32.ensures c.before.from32-rest.ensures

pub overflow_add-t : goal.overflow_add-t
overflow_add-t c = omega (arith, last c)

pub overflow_mul-t : goal.overflow_mul-t
overflow_mul-t c = record { fits = omega (arith, last c) }

pub overflow_mul-j : goal.overflow_mul-j
overflow_mul-j c = record { fits = omega (arith, last c) }

pub near32-requires : goal.near32-requires
near32-requires c = let f = entry c in (near_asks 32 23 (lit≤ tt) f.args.j f.requires.1 f.args.p _ _ (sides c), f.requires.0, f.requires.1)

pub overflow_add-result : goal.overflow_add-result
overflow_add-result c =
    let f = entry c.before in
    record { fits = far_sum_fits 32 23 (lit≤ tt) f.args.j f.requires.1 f.args.p _ _ (sides c.before) f.args.halves c.near32.result c.near32.ensures f.ranges.p.fits }

pub overflow_mul-result : goal.overflow_mul-result
unfolding sign
overflow_mul-result c =
    let f = entry c.before in
    omega (arith, far_code_fits 32 23 (lit≤ tt) f.args.j f.requires.1 f.args.p _ _ (sides c.before) f.args.halves c.near32.result c.near32.ensures f.ranges.p.fits)

pub overflow_add-result-2 : goal.overflow_add-result-2
unfolding sign
overflow_add-result-2 c =
    let f = entry c.before in
    record { fits = far_code_fits 32 23 (lit≤ tt) f.args.j f.requires.1 f.args.p _ _ (sides c.before) f.args.halves c.near32.result c.near32.ensures f.ranges.p.fits }

pub returns : goal.returns
unfolding sign
returns c = let f = entry c.before in far_code 32 23 (lit≤ tt) f.args.j f.requires.1 f.args.p _ _ (sides c.before) f.args.halves c.near32.result c.near32.ensures
