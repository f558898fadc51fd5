use Rattle.std.proofs.Common.{◌≡◌, ℕ, List, ◌+◌, ◌*◌, ◌<◌, ◌^◌, length, refl, sym, ap, ◌∙◌, arith}
use mathlib.Core.Path.{ap₂}
use Rattle.stream.specs.Header.{chunks_in}
use Rattle.stream.specs.Lent.{chosen}
use Rattle.stream.specs.Writing.{end_of}
use Rattle.stream.proofs.Law.Lent.Chosen.{chosen_below}
use Rattle.stream.proofs.Law.Lent.Codes.{chosen_parts, lent_piece}
use Rattle.stream.proofs.Law.Written.Pieces.{length_piece, end_start, end_next, end_small}
use Rattle.stream.proofs.pack.measured.Goals as goal

pub loop-j-init : goal.loop-j-init
loop-j-init c =
    let a = c.args in
    let values : List ℕ = chosen a.t.width a.v32.now a.v64.now in
    (ap (λ (n : ℕ). 48 + 4 * n) (c.chunks_of-chunks.ensures.0 ∙ ap chunks_in c.requires.1) ∙ end_start a.t values, refl)

pub measured-end-requires : goal.measured-end-requires
measured-end-requires c =
    let a = c.args in
    let l = c.loop-j in (
      c.requires.0,
      rw (chosen_parts a.t.width a.v32.now a.v64.now _ _ l.j c.part32.ensures c.part64.ensures, length_piece) (omega arith),
      rw (c.part32.ensures, length_piece) (omega (arith, c.requires.3, l.invariant.1)),
    )

pub overflow_add-end-in-loop-j : goal.overflow_add-end-in-loop-j
overflow_add-end-in-loop-j c =
    let a = c.args in
    let values : List ℕ = chosen a.t.width a.v32.now a.v64.now in
    let l = c.loop-j in
    let next : l.end + c.measured-end.result ≡ end_of a.t values (l.j + 1) =
    ap₂ ◌+◌ l.invariant.0 (c.measured-end.ensures ∙ ap length (lent_piece a.t a.v32.now a.v64.now _ _ l.j c.part32.ensures c.part64.ensures)) ∙ sym (end_next a.t values l.j) in
    let known = c.requires.0.known in
    let small =
    end_small a.t values known (chosen_below a.t.width a.v32.now a.v64.now known (λ i. (c.type_inv.v32 i).fits) (λ i. (c.type_inv.v64 i).fits))
    (omega (arith, c.requires.1, c.requires.2)) (l.j + 1) (omega (arith, c.chunks_of-chunks.ensures.0 ∙ ap chunks_in c.requires.1, c.loop-j-test.true)) in
    omega (arith, next, small)

pub loop-j-preserved : goal.loop-j-preserved
loop-j-preserved c =
    let a = c.args in
    let values : List ℕ = chosen a.t.width a.v32.now a.v64.now in
    let l = c.loop-j in (
      ap₂ ◌+◌ l.invariant.0 (c.measured-end.ensures ∙ ap length (lent_piece a.t a.v32.now a.v64.now _ _ l.j c.part32.ensures c.part64.ensures))
          ∙ sym (end_next a.t values l.j),
      c.measured-end.auto.c32 ∙ l.invariant.1,
    )

pub returns : goal.returns
returns c =
    let a = c.args in
    let chunks : c.loop-j.j ≡ chunks_in (length (chosen a.t.width a.v32.now a.v64.now)) = omega (arith, c.chunks_of-chunks.ensures.0 ∙ ap chunks_in c.requires.1) in
    c.loop-j.invariant.0 ∙ ap (end_of a.t (chosen a.t.width a.v32.now a.v64.now)) chunks
