-- What the loop has still to find is what is asked for.
use Rattle.std.proofs.Common.{◌≡◌, ℕ, suc, ◌+◌, ◌-◌, sym, ap, ◌∙◌, add-one, arith}
use Rattle.stream.specs.Tables.{side_id}
use Rattle.stream.proofs.Law.Access.{seek, seek_all, seek_here, seek_on, seek_none}
use Rattle.stream.proofs.sides.entry_with.Goals as goal

pub returns-then-word_at-id : goal.returns-then-word_at-id
unfolding side_id
returns-then-word_at-id c =
    let a = c.args in
    let i = c.loop-i.i in
    let left : suc (a.h.sides - (i + 1)) ≡ a.h.sides - i = omega arith in
    sym (seek_here a.h a.bytes.now a.id (a.h.sides - (i + 1)) i (sym c.word_at.ensures.0 ∙ c.if-word_at-id.true))
    ∙ ap (λ (k : ℕ). seek a.h a.bytes.now a.id k i) left ∙ c.loop-i.invariant ∙ seek_all a.h a.bytes.now a.id

pub loop-i-preserved : goal.loop-i-preserved
unfolding side_id
loop-i-preserved c =
    let a = c.args in
    let i = c.loop-i.i in
    let left : suc (a.h.sides - (i + 1)) ≡ a.h.sides - i = omega arith in
    ap (seek a.h a.bytes.now a.id (a.h.sides - (i + 1))) (add-one i)
    ∙ sym (seek_on a.h a.bytes.now a.id (a.h.sides - (i + 1)) i (λ e. c.if-word_at-id.false (c.word_at.ensures.0 ∙ e)))
    ∙ ap (λ (k : ℕ). seek a.h a.bytes.now a.id k i) left ∙ c.loop-i.invariant

pub returns : goal.returns
returns c =
    let a = c.args in
    let i = c.loop-i.i in
    let none : a.h.sides - i ≡ 0 = omega arith in
    sym (ap (λ (k : ℕ). seek a.h a.bytes.now a.id k i) none ∙ seek_none a.h a.bytes.now a.id i) ∙ c.loop-i.invariant ∙ seek_all a.h a.bytes.now a.id
