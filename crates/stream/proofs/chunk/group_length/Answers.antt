-- `stream::chunk::group_length` meets its contract.
use native.Mathlib.Nat.{mul-le-mul, le_of_lt}
use native.Mathlib.Numerals.{one-add}
use native.Mathlib.Omega.{arith}
use Prim.Native.Nat.{◌*◌, ◌≤◌}
use lib.ListN.{get_or}
use Rattle.stream.specs.Group.{bytes_for, given_width, group_length}
use Rattle.stream.proofs.chunk.group_length.Goals as goal
use Rattle.stream.proofs.chunk.group_length.Lts as lts
use Rattle.stream.proofs.chunk.group_length.Reads as reads

abbrev After-shared_slice_known : Type 0
After-shared_slice_known = lts.After-shared_slice_known reads.Pre reads.Post

small : (c : After-shared_slice_known) → get_or c.args.s.now 0 0 * c.args.n ≤ 256 * 128
small c = mul-le-mul (le_of_lt (c.shared_slice_known-1.given 0).fits) c.requires.0

pub bounds-s-0 : goal.bounds-s-0
unfolding group_length
bounds-s-0 c = omega (arith, c.requires.1)

pub overflow_cast-w : goal.overflow_cast-w
overflow_cast-w c = omega (arith, c.shared_slice_known-1.given 0)

pub overflow_mul-result : goal.overflow_mul-result
overflow_mul-result c = omega (arith, small c.before)

pub overflow_add-result : goal.overflow_add-result
overflow_add-result c = omega (arith, small c.before)

pub overflow_add-result-2 : goal.overflow_add-result-2
overflow_add-result-2 c = omega (arith, small c.before)

pub returns : goal.returns
unfolding bytes_for given_width group_length
returns c = one-add _
