-- `summary::listed::put_listed` meets its contract. The invariant: those found stand at the front, and what is left is still to be written.
use Prim.Native.Nat.{ℕ, ◌+◌, ◌≤◌}
use mathlib.Core.Path.{sym, ap, subst, subst₂, ◌∙◌}
use mathlib.Core.List.{List, ◌++◌}
use native.Mathlib.Omega.{arith}
use lib.ListN.{length, drop}
use Rattle.summary.specs.Summary.{holds_in}
use Rattle.summary.proofs.Law.Stream.{chunks_few}
use Rattle.summary.proofs.Law.Numbers.{Listed, listed_none, listed_room, listed_here, listed_past, listed_length, listed_all}
use Rattle.summary.proofs.Law.True.{numbers_listed}
use Rattle.summary.proofs.listed.put_listed.Goals as goal
use Rattle.summary.proofs.listed.put_listed.Goals.{then-holds_at, else-holds_at}

pub loop-j-init : goal.loop-j-init
loop-j-init g c =
    let a = c.args in
    listed_none (holds_in (g.T.Word.value a.x) a.h a.bytes.now) a.h.chunks a.out.now
    (subst (λ (l : List ℕ). length l ≤ length a.out.now) (sym (numbers_listed a.h a.bytes.now c.requires.0.accepted.header (g.T.Word.value a.x))) c.requires.3)

pub holds_at-requires : goal.holds_at-requires
holds_at-requires g c = (c.requires.0, c.requires.1, c.requires.2, c.loop-j-test.true)

pub overflow_cast-out : goal.overflow_cast-out
overflow_cast-out g c =
    omega (arith, chunks_few c.args.h c.args.bytes.now c.requires.0.accepted, c.loop-j-test.true)

pub offset_bounds-out-n : goal.offset_bounds-out-n
offset_bounds-out-n g c =
    omega (arith, c.well_formed, listed_length c.loop-j.invariant, listed_room c.loop-j.invariant c.loop-j-test.true (sym c.holds_at.ensures ∙ c.if-holds_at.true))

pub bounds-out-n : goal.bounds-out-n
bounds-out-n g c = listed_room c.loop-j.invariant c.loop-j-test.true (sym c.holds_at.ensures ∙ c.if-holds_at.true)

pub overflow_add-n : goal.overflow_add-n
overflow_add-n g c = omega (arith, listed_room c.loop-j.invariant c.loop-j-test.true (sym c.holds_at.ensures ∙ c.if-holds_at.true))

pub loop-j-preserved : goal.loop-j-preserved
loop-j-preserved g c =
    let l = c.loop-j in
    let a = c.args in
    let inside = c.loop-j-test.true in
    let Next : List ℕ → ℕ → Type 0 = λ (out : List ℕ) (n : ℕ). Listed (holds_in (g.T.Word.value a.x) a.h a.bytes.now) a.h.chunks a.out.now out n (l.j + 1) in
    elim c.if-holds_at.branch [
      | then-holds_at w ↦ subst₂ Next (sym w.out-is) (sym w.n-is) (listed_here l.invariant inside (sym c.holds_at.ensures ∙ w.if-holds_at.true))
      | else-holds_at w ↦ subst₂ Next (sym w.out-is) (sym w.n-is) (listed_past l.invariant inside (sym c.holds_at.ensures ∙ w.if-holds_at.false))
    ]

pub shape_of-out : goal.shape_of-out
shape_of-out g c = listed_length c.loop-j.invariant

pub returns : goal.returns
returns g c =
    listed_all c.loop-j.invariant c.loop-j-test.false
    ∙ ap (λ (l : List ℕ). l ++ drop (length l) c.args.out.now) (numbers_listed c.args.h c.args.bytes.now c.requires.0.accepted.header (g.T.Word.value c.args.x))
