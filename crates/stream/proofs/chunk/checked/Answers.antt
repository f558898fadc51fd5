-- `stream::chunk::checked` meets its contract. The invariant: what is left of the bytes decides what the whole chunk answers.
use Rattle.std.specs.Prelude.{Err}
use Prim.Native.Nat.{ℕ, ◌+◌, ◌≤◌, ◌<◌}
use Rattle.stream.proofs.Law.Setting.Allowed.{width_most}
use Rattle.stream.proofs.Law.Chunk.Checking.{bad_means, good_means, part_is, found, found_bad, found_good, found_over, found_end, within_bytes}
use Rattle.stream.specs.Chunk.{Verdict, chunk_answer}
use Rattle.stream.specs.Group.{group_length, good_group, group_answer}
use Rattle.stream.specs.Setting.{limit_of, group_size}
use lib.ListN.{length, drop}
use mathlib.Core.Bool.{true}
use mathlib.Core.List.{List}
use mathlib.Core.Path.{◌≡◌, refl, sym, ap, ap₂, ◌∙◌}
use native.Mathlib.Omega.{arith}
use Rattle.stream.proofs.chunk.checked.Goals as goal
use Rattle.stream.proofs.chunk.checked.Lts as lts
use Rattle.stream.proofs.chunk.checked.Reads as reads
use Rattle.stream.proofs.chunk.checked.Tie as tie

abbrev Past-After-known_told : Type 0
Past-After-known_told = lts.Past-After-known_told tie.the-claims reads.Pre reads.Post goal.the-invariant-loop-left goal.the-decreases-loop-left

abbrev Start : Type 0
Start = lts.Start tie.the-claims reads.Pre reads.Post goal.the-invariant-loop-left goal.the-decreases-loop-left

abbrev At-loop : Type 0
At-loop = lts.At-loop tie.the-claims reads.Pre reads.Post goal.the-invariant-loop-left goal.the-decreases-loop-left

abbrev start : At-loop → Start
start l = l.before.before.before.before

abbrev limit : At-loop → ℕ
limit l = l.limit_of-limit.result

abbrev size : At-loop → ℕ
size l = l.group_size-size.result

some : (l : At-loop) → 0 < size l
some l = l.group_size-size.ensures.1

abbrev bytes : At-loop → List ℕ
bytes l = (start l).args.s.now

-- what the walk finds, from here on
abbrev finds : At-loop → ℕ → ℕ → ℕ → Verdict
finds l = found (size l) (some l) (start l).args.t.width (limit l) (bytes l)

-- the whole, in the words of the contract
told : (l : At-loop) → finds l l.loop-left.left l.loop-left.at l.loop-left.i
    ≡ chunk_answer (start l).args.t.width (limit_of (start l).args.t) (group_size (start l).args.t) (start l).args.n (bytes l)
told l =
    let a = (start l).args in
    l.loop-left.invariant.2 (some l) ∙ ap₂ (λ (u z : ℕ). chunk_answer a.t.width u z a.n (bytes l)) l.limit_of-limit.ensures l.group_size-size.ensures.0

-- what is known behind a good group
record Passed (W U : ℕ) (s : List ℕ) (count at k : ℕ) : Type 0 where
  good : good_group W U count (drop at s) ≡ true
  long : k ≡ group_length count (drop at s)

passed : (c : Past-After-known_told) → let l = c.before.before.before.before.before in
    Passed (start l).args.t.width (limit l) (bytes l) c.min-count.result l.loop-left.at c.in-Some.bytes
passed c =
    let l = c.before.before.before.before.before in
    let W = (start l).args.t.width in
    let count = c.min-count.result in
    let said = sym (ap (group_answer W (limit l) count) (part_is (bytes l) l.loop-left.at)) ∙ sym c.in-Some.ensures in
    let found = good_means W (limit l) count (drop l.loop-left.at (bytes l)) _ said in
    record { good = found.0; long = found.1 }

-- the group lies within the bytes
inside : (c : Past-After-known_told) → let l = c.before.before.before.before.before in l.loop-left.at + c.in-Some.bytes ≤ length (bytes l)
inside c = let l = c.before.before.before.before.before in within_bytes (start l).args.t.width (limit l) c.min-count.result (bytes l) l.loop-left.at _ l.loop-left.invariant.0 (passed c).good (passed c).long

pub limit_of-limit-requires : goal.limit_of-limit-requires
limit_of-limit-requires c = c.requires.0

pub loop-left-init : goal.loop-left-init
unfolding chunk_answer
loop-left-init c = (omega arith, omega (arith, c.requires.1), λ some. refl)

pub checked-requires : goal.checked-requires
checked-requires c = let s = c.before in (omega (arith, c.min-count.ensures, c.group_size-size.ensures.2), width_most s.args.t.width s.requires.0.known)

pub returns-in_default : goal.returns-in_default
returns-in_default c =
    let l = c.before.before.before.before.before.before in
    let a = (start l).args in
    let count = c.min-count in
    let said = sym (ap (group_answer a.t.width (limit l) count.result) (part_is (bytes l) l.loop-left.at)) ∙ sym c.in_default.ensures in
    sym (found_bad (size l) (some l) a.t.width (limit l) (bytes l) l.loop-left.left l.loop-left.at l.loop-left.i count.result c.loop-left-test.true count.ensures
    (bad_means a.t.width (limit l) count.result (drop l.loop-left.at (bytes l)) said))
    ∙ told l

pub overflow_add-at : goal.overflow_add-at
overflow_add-at c = omega (arith, inside c.before, (start c.before.before.before.before.before.before).well_formed)

pub overflow_sub-left : goal.overflow_sub-left
overflow_sub-left c = omega (arith, c.min-count.ensures)

pub loop-left-smaller : goal.loop-left-smaller
loop-left-smaller c = omega (arith, c.min-count.ensures, c.loop-left-test.true, some c.before.before.before.before.before.before)

pub loop-left-preserved : goal.loop-left-preserved
loop-left-preserved c =
    let l = c.before.before.before.before.before.before in
    let count = c.min-count in
    let taken = c.loop-left-test.true in (
      inside c.before,
      omega (arith, l.loop-left.invariant.1, count.ensures, taken, some l),
      λ some.
          sym (found_good (size l) some (start l).args.t.width (limit l) (bytes l) l.loop-left.left l.loop-left.at l.loop-left.i count.result c.in-Some.bytes taken count.ensures (passed c.before).good (passed c.before).long)
          ∙ l.loop-left.invariant.2 some,
    )

pub returns-then-at-s : goal.returns-then-at-s
returns-then-at-s c =
    let l = c.before.before.before.before in
    let none : l.loop-left.left ≡ 0 = omega (arith, c.loop-left-test.false) in
    ap Err c.saturating_sub.ensures
    ∙ sym (found_over (size l) (some l) (start l).args.t.width (limit l) (bytes l) l.loop-left.at l.loop-left.i c.if-at-s.true)
    ∙ ap (λ (n : ℕ). finds l n l.loop-left.at l.loop-left.i) (sym none)
    ∙ told l

pub returns : goal.returns
returns c =
    let l = c.before.before.before in
    let none : l.loop-left.left ≡ 0 = omega (arith, c.loop-left-test.false) in
    sym (found_end (size l) (some l) (start l).args.t.width (limit l) (bytes l) l.loop-left.at l.loop-left.i c.if-at-s.false)
    ∙ ap (λ (n : ℕ). finds l n l.loop-left.at l.loop-left.i) (sym none)
    ∙ told l
