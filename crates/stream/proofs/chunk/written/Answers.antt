-- Groups of 128 have a walk of their own; of 32, full groups and the last one: how far writing has come.
use Rattle.std.proofs.Common.{◌≡◌, ℕ, List, ◌+◌, ◌-◌, ◌*◌, ◌%◌, ◌++◌, length, take, drop, refl, ap, ◌∙◌, subst, arith}
use borrow.Rule.Slice.PartMut.{put_mid}
use Rattle.stream.specs.Group.{group_bytes}
use Rattle.stream.specs.Lent.{lent_codes}
use Rattle.stream.proofs.Law.Chunk.Walks.{Walk, Put, none_put, group_fits, one_put, walk_done}
use Rattle.stream.proofs.Law.Setting.Allowed.{one_block}
use Rattle.stream.proofs.chunk.written.Goals as goal

pub loop-i-init : goal.loop-i-init
loop-i-init c =
    let a = c.args in
    let n = c.count-n.result in
    let walk : Walk a.t a.v32.now a.v64.now 32 n = record { size_is = one_block a.t c.if-t-eq128.false; count_is = c.count-n.ensures; few = omega (arith, c.count-n.ensures) } in
    none_put walk a.out.now c.requires.v64_in_bounds

pub put_group-put-requires-clause-v64_in_bounds : goal.put_group-put-requires-clause-v64_in_bounds
put_group-put-requires-clause-v64_in_bounds c =
    let a = c.args in
    let n = c.count-n.result in
    let l = c.loop-i in
    let at = 32 * l.i in
    let walk : Walk a.t a.v32.now a.v64.now 32 n = record { size_is = one_block a.t c.if-t-eq128.false; count_is = c.count-n.ensures; few = omega (arith, c.count-n.ensures) } in
    group_fits walk l.invariant (at + 32) 32 (omega arith) (omega arith) (omega arith)

pub loop-i-preserved : goal.loop-i-preserved
loop-i-preserved c =
    let a = c.args in
    let n = c.count-n.result in
    let l = c.loop-i in
    let r = c.put_group-put in
    let at = 32 * l.i in
    let walk : Walk a.t a.v32.now a.v64.now 32 n = record { size_is = one_block a.t c.if-t-eq128.false; count_is = c.count-n.ensures; few = omega (arith, c.count-n.ensures) } in
    let more = one_put walk l.invariant (at + 32) 32 r.result r.new.out (omega arith) (omega arith) (omega arith) r.ensures.value r.ensures.out_after in
    let next : at + 32 ≡ 32 * (l.i + 1) = omega arith in
    subst
    (λ (k : ℕ). Put 32 (lent_codes a.t a.v32.now a.v64.now) n k a.out.now (put_mid l.put (length l.out - l.put) l.out r.new.out) (l.put + r.result))
    next more

pub returns-then-at-n : goal.returns-then-at-n
returns-then-at-n c =
    let a = c.args in
    let n = c.count-n.result in
    let l = c.loop-i in
    let walk : Walk a.t a.v32.now a.v64.now 32 n = record { size_is = one_block a.t c.if-t-eq128.false; count_is = c.count-n.ensures; few = omega (arith, c.count-n.ensures) } in
    let done = walk_done walk l.invariant (omega arith) in
    record { value = done.0; out_after = done.1 }

pub written-requires : goal.written-requires
written-requires c =
    let a = c.args in
    let n = c.count-n.result in
    let l = c.loop-i in
    let walk : Walk a.t a.v32.now a.v64.now 32 n = record { size_is = one_block a.t c.if-t-eq128.false; count_is = c.count-n.ensures; few = omega (arith, c.count-n.ensures) } in
    let at = n - n % 32 in
    let here : 32 * l.i ≡ at = omega arith in
    let so_far = subst (λ (k : ℕ). Put 32 (lent_codes a.t a.v32.now a.v64.now) n k a.out.now l.out l.put) here l.invariant in
    let same = c.coded.ensures.1 in
    (omega (arith, c.coded.ensures.0), rw same (group_fits walk so_far n (n - at) (omega arith) (omega arith) refl))

pub returns : goal.returns
returns c =
    let a = c.args in
    let n = c.count-n.result in
    let l = c.loop-i in
    let r = c.written in
    let walk : Walk a.t a.v32.now a.v64.now 32 n = record { size_is = one_block a.t c.if-t-eq128.false; count_is = c.count-n.ensures; few = omega (arith, c.count-n.ensures) } in
    let at = n - n % 32 in
    let here : 32 * l.i ≡ at = omega arith in
    let so_far = subst (λ (k : ℕ). Put 32 (lent_codes a.t a.v32.now a.v64.now) n k a.out.now l.out l.put) here l.invariant in
    let same = c.coded.ensures.1 in
    let last =
    one_put walk so_far n (n - at) r.result r.new.out (omega arith) (omega arith) refl
    (r.ensures.value ∙ ap (λ (cs : List ℕ). length (group_bytes cs)) same)
    (r.ensures.out_after ∙ ap (λ (cs : List ℕ). group_bytes cs ++ drop r.result (take (length l.out - l.put) (drop l.put l.out))) same) in
    let done = walk_done walk last (omega arith) in
    record { value = done.0; out_after = done.1 }
