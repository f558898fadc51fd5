-- `summary::listed::count_listed` meets its contract. The invariant: those counted and those left are all.
use Prim.Native.Nat.{ℕ, ◌+◌}
use mathlib.Core.Path.{sym, ap, subst, ◌∙◌}
use native.Mathlib.Omega.{arith}
use lib.ListN.{length}
use Rattle.summary.specs.Summary.{holds_in}
use Rattle.summary.proofs.Law.Stream.{chunks_few}
use Rattle.summary.proofs.Law.Numbers.{Counted, counted_none, counted_here, counted_past, counted_all}
use Rattle.summary.proofs.Law.True.{numbers_listed}
use Rattle.summary.proofs.listed.count_listed.Goals as goal
use Rattle.summary.proofs.listed.count_listed.Goals.{then-holds_at, else-holds_at}

pub loop-j-init : goal.loop-j-init
loop-j-init g c = let a = c.args in counted_none (holds_in (g.T.Word.value a.x) a.h a.bytes.now) a.h.chunks

pub holds_at-requires : goal.holds_at-requires
holds_at-requires g c = (c.requires.0, c.requires.1, c.requires.2, c.loop-j-test.true)

pub overflow_add-n : goal.overflow_add-n
overflow_add-n g c =
    omega (arith, chunks_few c.args.h c.args.bytes.now c.requires.0.accepted)

pub loop-j-preserved : goal.loop-j-preserved
loop-j-preserved g c =
    let l = c.loop-j in
    let a = c.args in
    let inside = c.loop-j-test.true in
    let Next : ℕ → Type 0 = λ (n : ℕ). Counted (holds_in (g.T.Word.value a.x) a.h a.bytes.now) a.h.chunks n (l.j + 1) in
    elim c.if-holds_at.branch [
      | then-holds_at w ↦ subst Next (sym w.n-is) (counted_here l.invariant inside (sym c.holds_at.ensures ∙ w.if-holds_at.true))
      | else-holds_at w ↦ subst Next (sym w.n-is) (counted_past l.invariant inside (sym c.holds_at.ensures ∙ w.if-holds_at.false))
    ]

pub returns : goal.returns
returns g c =
    counted_all c.loop-j.invariant c.loop-j-test.false
    ∙ ap length (numbers_listed c.args.h c.args.bytes.now c.requires.0.accepted.header (g.T.Word.value c.args.x))
