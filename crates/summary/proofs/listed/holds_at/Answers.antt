-- `summary::listed::holds_at` meets its contract: the entry is that of the chunk's values, and its largest decides.
use Rattle.std.proofs.Common.{ℕ, ◌^◌, ◌<◌, ◌&&◌, Bool, ltb, sym, ap, ap₂, subst, ◌∙◌, arith}
use Rattle.summary.specs.Order.{rank}
use Rattle.summary.specs.Private.{floor_rank}
use Rattle.summary.proofs.Law.Stream.{known, chunks_few}
use Rattle.summary.proofs.Law.True.{entry_room, entry_read, largest_fits, entry_holds}
use Rattle.summary.proofs.listed.holds_at.Goals as goal

pub overflow_mul-j : goal.overflow_mul-j
overflow_mul-j g c =
    let a = c.args in
    record { fits = omega (arith, entry_room a.h a.bytes.now a.place c.requires.0 a.j c.requires.3 c.entry_length.result c.entry_length.ensures, c.well_formed) }

pub overflow_add-place : goal.overflow_add-place
overflow_add-place g c =
    let a = c.args in
    record { fits = omega (arith, entry_room a.h a.bytes.now a.place c.requires.0 a.j c.requires.3 c.entry_length.result c.entry_length.ensures, c.well_formed) }

pub entry_at-e-requires : goal.entry_at-e-requires
entry_at-e-requires g c =
    let a = c.args in
    (known a.h a.bytes.now c.requires.0.accepted, entry_room a.h a.bytes.now a.place c.requires.0 a.j c.requires.3 c.entry_length.result c.entry_length.ensures)

pub count_of-requires : goal.count_of-requires
count_of-requires g c = omega (arith, c.requires.3, chunks_few c.args.h c.args.bytes.now c.requires.0.accepted)

pub narrow-requires : goal.narrow-requires
narrow-requires g c =
    let a = c.args in
    let e = c.entry_at-e in
    let says = entry_read a.h a.bytes.now a.place c.requires.0 a.j c.requires.3 c.entry_length.result c.entry_length.ensures in
    subst (λ (k : ℕ). e.result.largest < 2 ^ k) c.requires.2
    (largest_fits a.h a.bytes.now c.requires.0.accepted a.j c.requires.3 e.result.largest (e.ensures.2 ∙ says.2))

pub returns : goal.returns
returns g c =
    let w = g.T.Word in
    let a = c.args in
    let e = c.entry_at-e in
    let says = entry_read a.h a.bytes.now a.place c.requires.0 a.j c.requires.3 c.entry_length.result c.entry_length.ensures in
    ap (λ (b : Bool). ltb e.result.nans c.count_of.result && b) (c.le.ensures ∙ g.met.T.Word.le_law _ _)
    ∙ entry_holds a.h a.bytes.now c.requires.0.accepted a.j c.requires.3 (w.value a.x) c.requires.1
    e.result.nans c.count_of.result (w.value c.floor_rank.result) (w.value c.rank.result) e.result.largest
    (e.ensures.0 ∙ says.0) (e.ensures.2 ∙ says.2) c.count_of.ensures
    (c.floor_rank.ensures ∙ ap (λ (k : ℕ). floor_rank k (w.value a.x)) (sym c.requires.2))
    (c.rank.ensures ∙ ap₂ rank (sym c.requires.2) c.narrow.ensures)
