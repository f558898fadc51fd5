-- `summary::testing::summary_true` meets its contract: the part with the id 1, or none.
use mathlib.Core.Path.{sym}
use native.Mathlib.Omega.{arith}
use Rattle.summary.proofs.Law.Testing.{found_part, found_true, no_part_false}
use Rattle.summary.proofs.testing.summary_true.Goals as goal

pub overflow_add-part : goal.overflow_add-part
overflow_add-part c = omega (arith, (found_part c.args.h c.args.bytes.now c.requires 1 c.in-Some.part (sym c.in-Some.ensures)).inside, c.well_formed)

pub slice_bounds-part_right-end : goal.slice_bounds-part_right-end
slice_bounds-part_right-end c = (found_part c.args.h c.args.bytes.now c.requires 1 c.in-Some.part (sym c.in-Some.ensures)).inside

pub returns-in-Some : goal.returns-in-Some
returns-in-Some c = found_true c.args.h c.args.bytes.now c.requires c.in-Some.part (sym c.in-Some.ensures) c.part_right.result c.part_right.ensures

pub returns-in-None : goal.returns-in-None
returns-in-None c = no_part_false c.args.h c.args.bytes.now c.requires (sym c.in-None.ensures)
