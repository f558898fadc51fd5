use Rattle.std.proofs.Common.{ℕ, ◌/◌, ◌≤◌, ◌<◌, get_or}
use Rattle.stream.proofs.group_checked.limited.Given as goal

-- no code passed is above the limit
abbrev pub invariant-loop-code : goal.invariant-loop-code
invariant-loop-code g l = (k : ℕ) → k < l.code-index → get_or (g.T.Word.values l.codes) k 0 / 2 ≤ l.limit
