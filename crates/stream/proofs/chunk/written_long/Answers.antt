-- Full groups of 128, and the last one: how far writing has come.
use Rattle.std.proofs.Common.{◌≡◌, ℕ, ◌+◌, ◌-◌, ◌*◌, ◌%◌, length, refl, subst, arith}
use borrow.Rule.Slice.PartMut.{put_mid}
use Rattle.stream.specs.Lent.{lent_codes}
use Rattle.stream.proofs.Law.Chunk.Walks.{Walk, Put, none_put, group_fits, one_put, walk_done}
use Rattle.stream.proofs.Law.Setting.Allowed.{four_blocks}
use Rattle.stream.proofs.chunk.written_long.Goals as goal

pub loop-i-init : goal.loop-i-init
loop-i-init c =
    let a = c.args in
    let p = c.requires.allowed in
    let walk : Walk a.t a.v32.now a.v64.now 128 a.n = record { size_is = four_blocks a.t p.1; count_is = p.2; few = p.3 } in
    none_put walk a.out.now c.requires.v64_in_bounds

pub put_long-put-requires-clause-v64_in_bounds : goal.put_long-put-requires-clause-v64_in_bounds
put_long-put-requires-clause-v64_in_bounds c =
    let a = c.args in
    let p = c.requires.allowed in
    let l = c.loop-i in
    let at = 128 * l.i in
    let walk : Walk a.t a.v32.now a.v64.now 128 a.n = record { size_is = four_blocks a.t p.1; count_is = p.2; few = p.3 } in
    group_fits walk l.invariant (at + 128) (at + 128 - at) (omega arith) (omega arith) refl

pub loop-i-preserved : goal.loop-i-preserved
loop-i-preserved c =
    let a = c.args in
    let p = c.requires.allowed in
    let l = c.loop-i in
    let r = c.put_long-put in
    let at = 128 * l.i in
    let walk : Walk a.t a.v32.now a.v64.now 128 a.n = record { size_is = four_blocks a.t p.1; count_is = p.2; few = p.3 } in
    let more = one_put walk l.invariant (at + 128) (at + 128 - at) r.result r.new.out (omega arith) (omega arith) refl r.ensures.value r.ensures.out_after in
    let next : at + 128 ≡ 128 * (l.i + 1) = omega arith in
    subst
    (λ (k : ℕ). Put 128 (lent_codes a.t a.v32.now a.v64.now) a.n k a.out.now (put_mid l.put (length l.out - l.put) l.out r.new.out) (l.put + r.result))
    next more

pub returns-then-at-n : goal.returns-then-at-n
returns-then-at-n c =
    let a = c.args in
    let p = c.requires.allowed in
    let l = c.loop-i in
    let walk : Walk a.t a.v32.now a.v64.now 128 a.n = record { size_is = four_blocks a.t p.1; count_is = p.2; few = p.3 } in
    let done = walk_done walk l.invariant (omega arith) in
    record { value = done.0; out_after = done.1 }

pub put_long-requires-clause-v64_in_bounds : goal.put_long-requires-clause-v64_in_bounds
put_long-requires-clause-v64_in_bounds c =
    let a = c.args in
    let p = c.requires.allowed in
    let l = c.loop-i in
    let walk : Walk a.t a.v32.now a.v64.now 128 a.n = record { size_is = four_blocks a.t p.1; count_is = p.2; few = p.3 } in
    let at = a.n - a.n % 128 in
    let here : 128 * l.i ≡ at = omega arith in
    let so_far = subst (λ (k : ℕ). Put 128 (lent_codes a.t a.v32.now a.v64.now) a.n k a.out.now l.out l.put) here l.invariant in
    group_fits walk so_far a.n (a.n - at) (omega arith) (omega arith) refl

pub returns : goal.returns
returns c =
    let a = c.args in
    let p = c.requires.allowed in
    let l = c.loop-i in
    let r = c.put_long in
    let walk : Walk a.t a.v32.now a.v64.now 128 a.n = record { size_is = four_blocks a.t p.1; count_is = p.2; few = p.3 } in
    let at = a.n - a.n % 128 in
    let here : 128 * l.i ≡ at = omega arith in
    let so_far = subst (λ (k : ℕ). Put 128 (lent_codes a.t a.v32.now a.v64.now) a.n k a.out.now l.out l.put) here l.invariant in
    let last = one_put walk so_far a.n (a.n - at) r.result r.new.out (omega arith) (omega arith) refl r.ensures.value r.ensures.out_after in
    let done = walk_done walk last (omega arith) in
    record { value = done.0; out_after = done.1 }
