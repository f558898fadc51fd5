-- `bins::float::ordinal64` meets its contract, by the laws of both sides of T.
use Rattle.std.proofs.Common.{ℕ, ◌+◌, ◌-◌, ◌*◌, ◌/◌, ◌^◌, ◌≤◌, arith, lit≤}
use lib.Bits.{bit_and, and_le_l}
use Rattle.bins.specs.Tolerance.{last_bin, threshold_ordinal}
use Rattle.bins.proofs.Law.Far.{Split, split, product_asks, far_restored, far_restored_fits}
use Rattle.bins.proofs.float.ordinal64.Goals as goal
use Rattle.bins.proofs.float.ordinal64.Goals.{Start}

abbrev all : Start → ℕ
all c = (c.args.u / 2 ^ 52 + 2047) / 2048 * (2 ^ 64 - 1)

last : (c : Start) → c.args.j ≤ 2045
unfolding last_bin
last c = c.requires.2

sides : (c : Start) → Split c.args.u (threshold_ordinal 52 0) (bit_and c.args.u (all c)) (bit_and (c.args.j * 2 ^ 52) (all c)) (c.args.j * 2 ^ 52)
sides c = split 64 52 2047 0 c.args.u c.requires.0 (lit≤ tt) (c.args.j * 2 ^ 52) (omega (arith, c.requires.0)) (omega (arith, last c))

pub overflow_mul-place : goal.overflow_mul-place
overflow_mul-place c = record { fits = omega (arith, last c) }

pub overflow_sub-u : goal.overflow_sub-u
overflow_sub-u c = and_le_l c.args.u _

pub product64-requires : goal.product64-requires
product64-requires c = (product_asks 64 52 (lit≤ tt) c.args.j c.requires.2 c.args.u _ _ (sides c), c.requires.1, c.requires.2)

pub overflow_add-result : goal.overflow_add-result
overflow_add-result c =
    let f = c.before in
    record { fits = omega (arith, far_restored_fits 64 52 (lit≤ tt) f.args.j f.requires.2 f.args.u _ _ (sides f) c.product64.result c.product64.ensures f.requires.0) }

pub overflow_add-result-2 : goal.overflow_add-result-2
overflow_add-result-2 c =
    let f = c.before in
    record { fits = far_restored_fits 64 52 (lit≤ tt) f.args.j f.requires.2 f.args.u _ _ (sides f) c.product64.result c.product64.ensures f.requires.0 }

pub returns : goal.returns
returns c = let f = c.before in far_restored 64 52 (lit≤ tt) f.args.j f.requires.2 f.args.u _ _ (sides f) c.product64.result c.product64.ensures
