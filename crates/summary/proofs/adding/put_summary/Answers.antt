-- `summary::adding::put_summary` meets its contract.
use native.Mathlib.Nat.{le_refl}
use Rattle.summary.proofs.Law.Stream.{scratch_32, scratch_other}
use Rattle.summary.proofs.adding.put_summary.Goals as goal

pub put_entries-requires : goal.put_entries-requires
put_entries-requires c = let s = c.before in (s.requires.0, scratch_32 _ _ _ 1024 c.if-h-eq32.true (le_refl 1024), s.requires.1)

pub put_entries-requires-else-h-eq32 : goal.put_entries-requires-else-h-eq32
put_entries-requires-else-h-eq32 c = let s = c.before in (s.requires.0, scratch_other _ _ _ 1024 c.if-h-eq32.false (le_refl 1024), s.requires.1)
