-- `summary::testing::part_right` meets its contract: a part of another length is none, and else its entries decide.
use mathlib.Core.Path.{◌≡◌, sym, ap, ◌∙◌}
use Prim.Native.Nat.{ℕ, ◌*◌}
use native.Mathlib.Nat.{le_refl}
use native.Mathlib.Omega.{arith}
use borrow.Author.Tests.{eq-eqb, ne_eqb}
use Rattle.stream.specs.Lent.{chosen}
use Rattle.summary.specs.Entry.{entry_length}
use Rattle.summary.proofs.Law.Testing.{summary_small, other_length}
use Rattle.summary.proofs.testing.part_right.Goals as goal
use Rattle.summary.proofs.testing.part_right.Lts as lts
use Rattle.summary.proofs.testing.part_right.Reads as reads
use Rattle.summary.proofs.testing.part_right.Tie as tie

abbrev Start : Type 0
Start = lts.Start tie.the-claims reads.Pre reads.Post

abbrev After-entry_length : Type 0
After-entry_length = lts.After-entry_length tie.the-claims reads.Pre reads.Post

abbrev start : After-entry_length → Start
start c = c.before.before.before

-- the length that is asked
asked : (c : After-entry_length) → let h = (start c).args.h in h.chunks * c.entry_length.result ≡ h.chunks * entry_length h.width
asked c = ap (λ (n : ℕ). (start c).args.h.chunks * n) c.entry_length.ensures

pub overflow_mul-h : goal.overflow_mul-h
overflow_mul-h c = let s = start c.before.before in omega (arith, asked c.before.before, summary_small s.args.h s.args.bytes.now s.requires)

pub returns-then-part-h : goal.returns-then-part-h
returns-then-part-h c =
    let e = c.before.before.before in
    let s = start e in
    other_length s.args.h s.args.bytes.now s.args.part.now (λ is. c.if-part-h.true (is ∙ sym (asked e)))

pub entries_right-requires : goal.entries_right-requires
unfolding chosen
entries_right-requires c =
    let l = c.before.before.before.before.before in
    let e = l.before.before in
    ((start e).requires, rw (eq-eqb (start e).args.h.width 32 c.if-h-eq32.true) (le_refl 1024), l.if-part-h.false ∙ asked e)

pub entries_right-requires-2 : goal.entries_right-requires-2
unfolding chosen
entries_right-requires-2 c =
    let l = c.before.before.before.before.before in
    let e = l.before.before in
    ((start e).requires, rw (ne_eqb (start e).args.h.width 32 c.if-h-eq32.false) (le_refl 1024), l.if-part-h.false ∙ asked e)
