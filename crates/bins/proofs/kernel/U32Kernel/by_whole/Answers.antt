-- `bins::kernel::U32Kernel::by_whole` meets its contract.
use Rattle.std.proofs.Common.{arith}
use Rattle.bins.specs.Tolerance.{last_bin}
use Rattle.bins.proofs.kernel.U32Kernel.by_whole.Goals as goal

pub to_nearest-requires : goal.to_nearest-requires
unfolding last_bin
to_nearest-requires c = omega (arith, c.min.ensures)
