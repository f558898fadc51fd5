-- Groups of 128 have a walk of their own; of 32, full groups and the last one: how far measuring has come.
use Rattle.std.proofs.Common.{◌≡◌, ℕ, List, ◌+◌, ◌-◌, ◌*◌, ◌%◌, length, refl, ap, ◌∙◌, subst, arith}
use Rattle.stream.specs.Group.{group_bytes}
use Rattle.stream.specs.Lent.{lent_codes}
use Rattle.stream.proofs.Law.Chunk.Walks.{Walk, Measured, one_measured, all_measured, measured_small}
use Rattle.stream.proofs.Law.Setting.Allowed.{one_block}
use Rattle.stream.proofs.chunk.measured.Goals as goal

pub overflow_add-total : goal.overflow_add-total
overflow_add-total c =
    let a = c.args in
    let n = c.count-n.result in
    let l = c.loop-i in
    let at = 32 * l.i in
    let walk : Walk a.t a.v32.now a.v64.now 32 n = record { size_is = one_block a.t c.if-t-eq128.false; count_is = c.count-n.ensures; few = omega (arith, c.count-n.ensures) } in
    let more = one_measured walk l.invariant (at + 32) 32 c.measured_group-total.result (omega arith) (omega arith) (omega arith) c.measured_group-total.ensures in
    omega (arith, measured_small walk more c.requires.0.known (λ i. (c.type_inv.v32 i).fits) (λ i. (c.type_inv.v64 i).fits))

pub loop-i-preserved : goal.loop-i-preserved
loop-i-preserved c =
    let a = c.args in
    let n = c.count-n.result in
    let l = c.loop-i in
    let at = 32 * l.i in
    let walk : Walk a.t a.v32.now a.v64.now 32 n = record { size_is = one_block a.t c.if-t-eq128.false; count_is = c.count-n.ensures; few = omega (arith, c.count-n.ensures) } in
    let more = one_measured walk l.invariant (at + 32) 32 c.measured_group-total.result (omega arith) (omega arith) (omega arith) c.measured_group-total.ensures in
    let next : at + 32 ≡ 32 * (l.i + 1) = omega arith in
    subst (λ (k : ℕ). Measured 32 (lent_codes a.t a.v32.now a.v64.now) n k (l.total + c.measured_group-total.result)) next more

pub returns-then-at-n : goal.returns-then-at-n
returns-then-at-n c =
    let a = c.args in
    let n = c.count-n.result in
    let walk : Walk a.t a.v32.now a.v64.now 32 n = record { size_is = one_block a.t c.if-t-eq128.false; count_is = c.count-n.ensures; few = omega (arith, c.count-n.ensures) } in
    all_measured walk c.loop-i.invariant (omega arith)

pub overflow_add-result : goal.overflow_add-result
overflow_add-result c =
    let a = c.args in
    let n = c.count-n.result in
    let l = c.loop-i in
    let at = n - n % 32 in
    let walk : Walk a.t a.v32.now a.v64.now 32 n = record { size_is = one_block a.t c.if-t-eq128.false; count_is = c.count-n.ensures; few = omega (arith, c.count-n.ensures) } in
    let here : 32 * l.i ≡ at = omega arith in
    let m = subst (λ (k : ℕ). Measured 32 (lent_codes a.t a.v32.now a.v64.now) n k l.total) here l.invariant in
    let last = one_measured walk m n (n - at) c.measured.result (omega arith) (omega arith) refl (c.measured.ensures ∙ ap (λ (cs : List ℕ). length (group_bytes cs)) c.coded.ensures.1) in
    omega (arith, measured_small walk last c.requires.0.known (λ i. (c.type_inv.v32 i).fits) (λ i. (c.type_inv.v64 i).fits))

pub returns : goal.returns
returns c =
    let a = c.args in
    let n = c.count-n.result in
    let l = c.loop-i in
    let at = n - n % 32 in
    let walk : Walk a.t a.v32.now a.v64.now 32 n = record { size_is = one_block a.t c.if-t-eq128.false; count_is = c.count-n.ensures; few = omega (arith, c.count-n.ensures) } in
    let here : 32 * l.i ≡ at = omega arith in
    let m = subst (λ (k : ℕ). Measured 32 (lent_codes a.t a.v32.now a.v64.now) n k l.total) here l.invariant in
    let last = one_measured walk m n (n - at) c.measured.result (omega arith) (omega arith) refl (c.measured.ensures ∙ ap (λ (cs : List ℕ). length (group_bytes cs)) c.coded.ensures.1) in
    all_measured walk last (omega arith)
