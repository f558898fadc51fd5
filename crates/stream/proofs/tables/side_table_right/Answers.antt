use Rattle.std.proofs.Common.{◌≡◌, ℕ, ◌+◌, Bool, ◌&&◌, eqb, length, refl, sym, ap, ◌∙◌, arith}
use Rattle.stream.specs.Tables.{every, id_floor, part_at, entry_right}
use Rattle.stream.proofs.Law.Tables.Sides.{side_short, side_scan, entry_low, entry_elsewhere, entry_good, next_floor, next_place}
use Rattle.stream.proofs.Law.Plain.Scan.{all_left, every_on, every_broken, every_done}
use Rattle.stream.proofs.tables.side_table_right.Goals as goal

pub returns-then-bytes-place : goal.returns-then-bytes-place
returns-then-bytes-place c = side_short c.args.h c.args.bytes.now c.if-bytes-place.true

pub loop-i-init : goal.loop-i-init
unfolding id_floor part_at
loop-i-init c =
    let h = c.args.h in
    let s = c.args.bytes.now in (
      refl,
      refl,
      omega arith,
      side_scan h s c.if-bytes-place.false ∙ ap (λ (b : Bool). b && eqb (part_at h s h.sides) (length s)) (all_left (every (entry_right h s)) h.sides),
    )

pub returns-then-id-floor : goal.returns-then-id-floor
returns-then-id-floor c =
    let h = c.args.h in
    let s = c.args.bytes.now in
    let l = c.loop-i in
    let broken = entry_low h s l.i c.word_at-id.result l.place l.floor c.word_at-id.ensures.0 l.invariant.0 l.invariant.1 c.if-id-floor.true in
    sym (l.invariant.3 ∙ ap (λ (b : Bool). b && eqb (part_at h s h.sides) (length s)) (every_broken (entry_right h s) h.sides l.i c.loop-i-test.true broken))

pub returns-then-word_at-place : goal.returns-then-word_at-place
returns-then-word_at-place c =
    let h = c.args.h in
    let s = c.args.bytes.now in
    let l = c.loop-i in
    let broken =
    entry_elsewhere h s l.i c.word_at-id.result l.place l.floor c.word_at-id.ensures.0 l.invariant.0 l.invariant.1 (λ e. c.if-word_at-place.true (c.word_at.ensures.0 ∙ e)) in
    sym (l.invariant.3 ∙ ap (λ (b : Bool). b && eqb (part_at h s h.sides) (length s)) (every_broken (entry_right h s) h.sides l.i c.loop-i-test.true broken))

pub loop-i-preserved : goal.loop-i-preserved
loop-i-preserved c =
    let h = c.args.h in
    let s = c.args.bytes.now in
    let l = c.loop-i in
    let id = c.word_at-id in
    let good =
    entry_good h s l.i id.result l.place l.floor id.ensures.0 l.invariant.0 l.invariant.1 c.if-id-floor.false (sym c.word_at.ensures.0 ∙ c.if-word_at-place.false) in (
      next_floor h s l.i id.result l.place l.floor id.ensures.0 l.invariant.0 l.invariant.1,
      ap (λ (w : ℕ). l.place + w) c.word_at-place.ensures.0 ∙ next_place h s l.i id.result l.place l.floor id.ensures.0 l.invariant.0 l.invariant.1,
      omega (arith, c.word_at-place.ensures.1),
      l.invariant.3 ∙ ap (λ (b : Bool). b && eqb (part_at h s h.sides) (length s)) (every_on (entry_right h s) h.sides l.i c.loop-i-test.true good),
    )

pub returns : goal.returns
returns c =
    let h = c.args.h in
    let s = c.args.bytes.now in
    let l = c.loop-i in
    let e : h.sides ≡ l.i = omega arith in
    sym
    (l.invariant.3
    ∙ ap (λ (b : Bool). b && eqb (part_at h s h.sides) (length s)) (every_done (entry_right h s) h.sides l.i c.loop-i-test.false)
    ∙ ap (λ (p : ℕ). eqb p (length s)) (ap (part_at h s) e ∙ sym l.invariant.1))
