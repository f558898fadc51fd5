-- `summary::testing::entries_right` meets its contract. The loop's invariant: the first j entries of the part are those of the summary.
use mathlib.Core.List.{List}
use mathlib.Core.Path.{◌≡◌, refl, ap, ◌∙◌}
use Prim.Native.Nat.{ℕ, ◌+◌, ◌*◌, ◌≤◌, ◌<◌}
use native.Mathlib.Omega.{arith}
use lib.ListN.{length}
use Rattle.stream.specs.declared.header.Header.{Header}
use Rattle.stream.proofs.Law.Lent.Chosen.{chosen_long}
use Rattle.summary.specs.Entry.{entry_length}
use Rattle.summary.proofs.Law.Stream.{known}
use Rattle.summary.proofs.Law.Part.{entry_inside}
use Rattle.summary.proofs.Law.Testing.{right_none, right_all, turn_right, turn_wrong}
use Rattle.summary.proofs.testing.entries_right.Goals as goal

-- the entry lies within the part
inside : (h : Header) (part : List ℕ) (j size : ℕ) → length part ≡ h.chunks * entry_length h.width → size ≡ entry_length h.width → j < h.chunks
    → j * size + entry_length h.width ≤ length part
inside h part j size long is below = omega (arith, long, ap (λ (n : ℕ). j * n) is, entry_inside (entry_length h.width) j h.chunks below)

pub loop-j-init : goal.loop-j-init
loop-j-init c = (right_none c.args.h c.args.bytes.now c.args.part.now, refl, refl)

pub entry_of-e-requires : goal.entry_of-e-requires
entry_of-e-requires c =
    let a = c.args in (
      c.requires.0,
      c.loop-j-test.true,
      omega (arith, c.requires.1, chosen_long a.h.width a.v32.now a.v64.now c.loop-j.v32 c.loop-j.v64 c.loop-j.invariant.1 c.loop-j.invariant.2),
    )

pub overflow_mul-j : goal.overflow_mul-j
overflow_mul-j c = omega (arith, inside c.args.h c.args.part.now c.loop-j.j c.entry_length-size.result c.requires.2 c.entry_length-size.ensures c.loop-j-test.true, c.well_formed)

pub entry_at-stated-requires : goal.entry_at-stated-requires
entry_at-stated-requires c =
    let a = c.args in
    (known a.h a.bytes.now c.requires.0, inside a.h a.part.now c.loop-j.j c.entry_length-size.result c.requires.2 c.entry_length-size.ensures c.loop-j-test.true)

pub returns-then-ne : goal.returns-then-ne
returns-then-ne c =
    let a = c.args in
    turn_wrong a.h a.bytes.now a.part.now c.requires.2 c.requires.0 (λ i. (c.type_inv.part i).fits) c.loop-j.j c.loop-j-test.true c.entry_length-size.result c.entry_length-size.ensures
    c.entry_of-e.result c.entry_at-stated.result c.entry_of-e.ensures c.entry_at-stated.ensures c.ne.result c.ne.ensures c.if-ne.true

pub loop-j-preserved : goal.loop-j-preserved
loop-j-preserved c =
    let a = c.args in
    let right =
    turn_right a.h a.bytes.now a.part.now c.requires.2 c.requires.0 (λ i. (c.type_inv.part i).fits) c.loop-j.j c.loop-j-test.true c.entry_length-size.result c.entry_length-size.ensures
    c.entry_of-e.result c.entry_at-stated.result c.entry_of-e.ensures c.entry_at-stated.ensures c.ne.result c.ne.ensures c.loop-j.invariant.0 c.if-ne.false in
    (right, c.entry_of-e.auto.v32 ∙ c.loop-j.invariant.1, c.entry_of-e.auto.v64 ∙ c.loop-j.invariant.2)

pub returns : goal.returns
returns c = right_all c.args.h c.args.bytes.now c.args.part.now c.requires.2 c.loop-j.j c.loop-j.invariant.0 c.loop-j-test.false
