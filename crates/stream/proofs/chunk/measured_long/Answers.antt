-- Full groups of 128, and the last one: how far measuring has come.
use Rattle.std.proofs.Common.{◌≡◌, ◌+◌, ◌-◌, ◌*◌, ◌%◌, refl, subst, arith}
use Prim.Native.Nat.{ℕ}
use Rattle.stream.specs.Lent.{lent_codes}
use Rattle.stream.proofs.Law.Chunk.Walks.{Walk, Measured, one_measured, all_measured, measured_small}
use Rattle.stream.proofs.Law.Setting.Allowed.{four_blocks}
use Rattle.stream.proofs.chunk.measured_long.Goals as goal

pub overflow_add-total : goal.overflow_add-total
overflow_add-total c =
    let a = c.args in
    let l = c.loop-i in
    let at = 128 * l.i in
    let p = c.requires.allowed in
    let walk : Walk a.t a.v32.now a.v64.now 128 a.n = record { size_is = four_blocks a.t p.1; count_is = p.2; few = p.3 } in
    let more = one_measured walk l.invariant (at + 128) (at + 128 - at) c.measured_long-total.result (omega arith) (omega arith) refl c.measured_long-total.ensures in
    omega (arith, measured_small walk more p.0.known (λ i. (c.type_inv.v32 i).fits) (λ i. (c.type_inv.v64 i).fits))

pub loop-i-preserved : goal.loop-i-preserved
loop-i-preserved c =
    let a = c.args in
    let l = c.loop-i in
    let at = 128 * l.i in
    let p = c.requires.allowed in
    let walk : Walk a.t a.v32.now a.v64.now 128 a.n = record { size_is = four_blocks a.t p.1; count_is = p.2; few = p.3 } in
    let more = one_measured walk l.invariant (at + 128) (at + 128 - at) c.measured_long-total.result (omega arith) (omega arith) refl c.measured_long-total.ensures in
    let next : at + 128 ≡ 128 * (l.i + 1) = omega arith in
    subst (λ (k : ℕ). Measured 128 (lent_codes a.t a.v32.now a.v64.now) a.n k (l.total + c.measured_long-total.result)) next more

pub returns-then-at-n : goal.returns-then-at-n
returns-then-at-n c =
    let a = c.args in
    let p = c.requires.allowed in
    let walk : Walk a.t a.v32.now a.v64.now 128 a.n = record { size_is = four_blocks a.t p.1; count_is = p.2; few = p.3 } in
    all_measured walk c.loop-i.invariant (omega arith)

pub overflow_add-result : goal.overflow_add-result
overflow_add-result c =
    let a = c.args in
    let l = c.loop-i in
    let at = a.n - a.n % 128 in
    let here : 128 * l.i ≡ at = omega arith in
    let p = c.requires.allowed in
    let walk : Walk a.t a.v32.now a.v64.now 128 a.n = record { size_is = four_blocks a.t p.1; count_is = p.2; few = p.3 } in
    let m = subst (λ (k : ℕ). Measured 128 (lent_codes a.t a.v32.now a.v64.now) a.n k l.total) here l.invariant in
    let last = one_measured walk m a.n (a.n - at) c.measured_long.result (omega arith) (omega arith) refl c.measured_long.ensures in
    omega (arith, measured_small walk last p.0.known (λ i. (c.type_inv.v32 i).fits) (λ i. (c.type_inv.v64 i).fits))

pub returns : goal.returns
returns c =
    let a = c.args in
    let l = c.loop-i in
    let at = a.n - a.n % 128 in
    let here : 128 * l.i ≡ at = omega arith in
    let p = c.requires.allowed in
    let walk : Walk a.t a.v32.now a.v64.now 128 a.n = record { size_is = four_blocks a.t p.1; count_is = p.2; few = p.3 } in
    let m = subst (λ (k : ℕ). Measured 128 (lent_codes a.t a.v32.now a.v64.now) a.n k l.total) here l.invariant in
    let last = one_measured walk m a.n (a.n - at) c.measured_long.result (omega arith) (omega arith) refl c.measured_long.ensures in
    all_measured walk last (omega arith)
