use Rattle.std.proofs.Common.{◌≡◌, ◌-◌, ◌*◌, ◌^◌, ◌<◌, drop, get_or}
use Rattle.stream.proofs.Law.Chunk.Restoring.{Onward}
use Rattle.stream.proofs.Law.Setting.Allowed.{size_some}
use Rattle.stream.specs.Chunk.{chunk_codes}
use Rattle.stream.specs.Setting.{group_size, patterns_after, patterns_of}
use Rattle.stream.proofs.chunk.value.Given as goal

abbrev pub invariant-loop : goal.invariant-loop
invariant-loop l =
    Onward (group_size l.t) (size_some l.t) l.t.width l.s (l.n - l.size * l.counter) l.at
    × (get_or (patterns_after l.t l.before (chunk_codes (group_size l.t) (l.n - l.size * l.counter) (drop l.at l.s))) (l.i - l.size * l.counter) 0 ≡ get_or (patterns_of l.t (chunk_codes (group_size l.t) l.n l.s)) l.i 0)
    × (l.before < 2 ^ l.t.width)
