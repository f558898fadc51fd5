-- `bins::float::code64` meets its contract, by the laws of both sides of T.
use Rattle.std.proofs.Common.{ℕ, ◌+◌, ◌-◌, ◌*◌, ◌/◌, ◌%◌, ◌^◌, ◌<◌, ◌≤◌, mod-lt, arith, lit<, lit≤}
use lib.Bits.{bit_and, and_le_l}
use Rattle.bins.specs.Tolerance.{last_bin, ordinal, sign, threshold_ordinal}
use Rattle.bins.proofs.Law.Far.{Sides, mask_fits, sides_by_mask, near_asks, far_code, far_code_fits, far_sum_fits}
use Rattle.bins.proofs.float.code64.Goals as goal
use Rattle.bins.proofs.float.code64.Goals.{Start}

abbrev all : Start → ℕ
all c = (c.args.p % 2 ^ 63 + (2 ^ 63 - (c.args.j + 1) * 2 ^ 52)) / 2 ^ 63 * (2 ^ 64 - 1)

abbrev low : Start → ℕ
low c = c.args.p % 2 ^ 63 - bit_and (c.args.p % 2 ^ 63) (all c)

last : (c : Start) → c.args.j ≤ 2045
unfolding last_bin
last c = c.requires.1

small : (c : Start) → c.args.p % 2 ^ 63 < 2 ^ 63
small c = mod-lt c.args.p (lit< tt)

sides : (c : goal.After-wrapping_sub_u64) → let f = c.before in
    Sides (ordinal 64 f.args.p) (threshold_ordinal 52 f.args.j) (f.args.j * 2 ^ 52) (low f) (bit_and c.wrapping_sub_u64.result (all f))
unfolding ordinal
sides c =
    let f = c.before in
    let w = c.wrapping_sub_u64 in
    sides_by_mask 64 52 f.args.j (f.args.p % 2 ^ 63) (omega (arith, last f)) (omega (arith, small f)) w.result w.ensures.value w.type_inv (small f) (lit< tt)

pub overflow_add-room : goal.overflow_add-room
overflow_add-room c = omega (arith, last c)

pub overflow_mul-room : goal.overflow_mul-room
overflow_mul-room c = record { fits = omega (arith, last c) }

pub overflow_sub-room : goal.overflow_sub-room
overflow_sub-room c = omega (arith, last c)

pub overflow_mul-all : goal.overflow_mul-all
overflow_mul-all c = record { fits = mask_fits 64 52 c.args.j (c.args.p % 2 ^ 63) (small c) }

pub overflow_mul-j : goal.overflow_mul-j
overflow_mul-j c = record { fits = omega (arith, last c) }

pub overflow_sub-o : goal.overflow_sub-o
overflow_sub-o c = and_le_l _ _

pub near64-requires : goal.near64-requires
near64-requires c = let f = c.before in (near_asks 64 52 (lit≤ tt) f.args.j f.requires.1 f.args.p _ _ (sides c), f.requires.0, f.requires.1)

pub overflow_add-result : goal.overflow_add-result
overflow_add-result c =
    let f = c.before.before in
    record { fits = far_sum_fits 64 52 (lit≤ tt) f.args.j f.requires.1 f.args.p _ _ (sides c.before) f.args.halves c.near64.result c.near64.ensures f.ranges.p.fits }

pub overflow_mul-result : goal.overflow_mul-result
unfolding sign
overflow_mul-result c =
    let f = c.before.before in
    omega (arith, far_code_fits 64 52 (lit≤ tt) f.args.j f.requires.1 f.args.p _ _ (sides c.before) f.args.halves c.near64.result c.near64.ensures f.ranges.p.fits)

pub overflow_add-result-2 : goal.overflow_add-result-2
unfolding sign
overflow_add-result-2 c =
    let f = c.before.before in
    record { fits = far_code_fits 64 52 (lit≤ tt) f.args.j f.requires.1 f.args.p _ _ (sides c.before) f.args.halves c.near64.result c.near64.ensures f.ranges.p.fits }

pub returns : goal.returns
unfolding sign
returns c = let f = c.before.before in far_code 64 52 (lit≤ tt) f.args.j f.requires.1 f.args.p _ _ (sides c.before) f.args.halves c.near64.result c.near64.ensures
