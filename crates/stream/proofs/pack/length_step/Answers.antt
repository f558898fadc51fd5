-- `stream::pack::length_step` meets its contract.
use Rattle.stream.specs.Header.{too_many}
use Rattle.stream.specs.Operations.{length_rows}
use Rattle.stream.specs.Rows.{first}
use Rattle.stream.specs.Setting.{known_level, allowed_setting, setting_of, need}
use borrow.Author.Tests.{lt-ltb, le-ltb}
use mathlib.Core.Bool.{true}
use mathlib.Core.Path.{◌≡◌, sym, ap, ◌∙◌}
use lib.IntN.{ℤ}
use mir.Facts.{to_z-of_z}
use Rattle.stream.proofs.pack.length_step.Goals as goal
use Rattle.stream.proofs.pack.length_step.Lts as lts
use Rattle.stream.proofs.pack.length_step.Reads as reads
use Rattle.stream.proofs.pack.length_step.Tie as tie

abbrev Else1 : Type 0
Else1 = lts.Else1 tie.the-claims reads.Pre reads.Post

abbrev After-allowed : Type 0
After-allowed = lts.After-allowed tie.the-claims reads.Pre reads.Post

abbrev Else2 : Type 0
Else2 = lts.Else2 tie.the-claims reads.Pre reads.Post

abbrev After-need_of : Type 0
After-need_of = lts.After-need_of tie.the-claims reads.Pre reads.Post

known : (c : Else1) → known_level c.args.level ≡ true
known c = sym c.known_level.ensures ∙ c.if-not-known_level.false

allowed_is : (c : After-allowed) → let a = c.args in allowed_setting a.width a.mode a.k a.size ≡ c.allowed.result
allowed_is c = let s = c in let a = s.args in ap (λ (z : ℤ). allowed_setting a.width a.mode z a.size) (sym (to_z-of_z s.ranges.k)) ∙ sym c.allowed.ensures

allowed : (c : Else2) → let a = c.args in allowed_setting a.width a.mode a.k a.size ≡ true
allowed c = allowed_is c.before ∙ c.if-not-allowed.false

need_is : (c : After-need_of) → let a = c.args in need (setting_of a.width a.mode a.k a.size) ≡ c.need_of.result
need_is c = let s = c in let a = s.args in sym (c.need_of.ensures ∙ ap need (c.setting_of.ensures.0 ∙ ap (λ (z : ℤ). setting_of a.width a.mode z a.size) (to_z-of_z s.ranges.k)))

pub returns-then-not-known_level : goal.returns-then-not-known_level
unfolding first length_rows
returns-then-not-known_level c = rw (sym c.known_level.ensures ∙ c.if-not-known_level.true)

pub returns-then-not-allowed : goal.returns-then-not-allowed
unfolding first length_rows
returns-then-not-allowed c = rw (known c.before.before, allowed_is c.before ∙ c.if-not-allowed.true)

pub setting_of-requires : goal.setting_of-requires
setting_of-requires c = let s = c in let a = s.args in (s.requires, ap (λ (z : ℤ). allowed_setting a.width a.mode z a.size) (to_z-of_z s.ranges.k) ∙ allowed c)

pub returns-then-level-need_of : goal.returns-then-level-need_of
unfolding first length_rows
returns-then-level-need_of c = let n = c.before in rw (known c.before.before.before.before.before, allowed c.before.before.before, need_is n, lt-ltb c.args.level n.need_of.result c.if-level-need_of.true)

pub returns-then-n-gt1048576 : goal.returns-then-n-gt1048576
unfolding first length_rows too_many
returns-then-n-gt1048576 c =
    let start = c in
    let n = c.before.before in rw (known c.before.before.before.before.before.before, allowed c.before.before.before.before, need_is n, le-ltb start.args.level n.need_of.result c.if-level-need_of.false, lt-ltb 1048576 start.args.n c.if-n-gt1048576.true)

pub returns : goal.returns
unfolding first length_rows too_many
returns c =
    let start = c in
    let n = c.before.before in rw (known c.before.before.before.before.before.before, allowed c.before.before.before.before, need_is n, le-ltb start.args.level n.need_of.result c.if-level-need_of.false, le-ltb 1048576 start.args.n c.if-n-gt1048576.false)
