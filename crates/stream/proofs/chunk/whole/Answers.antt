-- What is left of the bytes decides for the whole chunk.
use Rattle.std.proofs.Common.{◌≡◌, ℕ, List, ◌+◌, ◌-◌, ◌≤◌, length, drop, refl, sym, ap, ◌∙◌, arith, length-drop}
use Rattle.std.proofs.Math.Nat.{sub-zero}
use Rattle.stream.specs.Chunk.{whole_chunk}
use Rattle.stream.proofs.Law.Chunk.Checking.{part_is}
use Rattle.stream.proofs.Law.Chunk.Whole.{whole_facts, whole_left, whole_none, there, torn_here, whole_here}
use Rattle.stream.proofs.Law.Plain.Truth.{given_some, given_none}
use Rattle.stream.proofs.chunk.whole.Goals as goal

pub loop-done-init : goal.loop-done-init
unfolding whole_chunk
loop-done-init c = rw (sub-zero c.args.n) (omega arith, λ some. refl)

pub returns-in_default : goal.returns-in_default
returns-in_default c =
    let a = c.args in
    let s : List ℕ = a.s.now in
    let W = a.t.width in
    let size = c.group_size-size.result in
    let z = c.group_size-size.ensures in
    let l = c.loop-done in
    let rest : List ℕ = drop l.at s in
    let left = a.n - l.done in
    let count = c.min-count.result in
    let found = c.in_default.ensures ∙ ap (there W count) (part_is s l.at) in
    let told = l.invariant.1 z.1 ∙ ap (λ (k : ℕ). whole_chunk W k a.n s) z.0 in
    sym (torn_here size z.1 W s left l.at count (omega arith) c.min-count.ensures (given_none _ _ (sym found))) ∙ told

pub loop-done-preserved : goal.loop-done-preserved
loop-done-preserved c =
    let a = c.args in
    let s : List ℕ = a.s.now in
    let W = a.t.width in
    let size = c.group_size-size.result in
    let z = c.group_size-size.ensures in
    let l = c.loop-done in
    let rest : List ℕ = drop l.at s in
    let left = a.n - l.done in
    let count = c.min-count.result in
    let found = c.in-Some.ensures ∙ ap (there W count) (part_is s l.at) in
    let passed = given_some _ _ _ (sym found) in
    let inside : l.at + c.in-Some.bytes ≤ length s = omega (arith, passed.1, (whole_facts W count rest passed.0).1, length-drop l.at s) in
    let on = whole_here size z.1 W s left l.at count c.in-Some.bytes (omega arith) c.min-count.ensures passed.0 (sym passed.1) in
    let next : left - count ≡ a.n - (l.done + size) = omega (arith, c.min-count.ensures) in
    rw (← next) (inside, λ some. sym on ∙ l.invariant.1 some)

pub returns : goal.returns
returns c =
    let a = c.args in
    let s : List ℕ = a.s.now in
    let W = a.t.width in
    let size = c.group_size-size.result in
    let z = c.group_size-size.ensures in
    let l = c.loop-done in
    let rest : List ℕ = drop l.at s in
    let left = a.n - l.done in
    let told = l.invariant.1 z.1 ∙ ap (λ (k : ℕ). whole_chunk W k a.n s) z.0 in
    let none : left ≡ 0 = omega (arith, c.loop-done-test.false) in
    sym (ap (λ (k : ℕ). whole_left size z.1 W k rest) none ∙ whole_none size z.1 W rest) ∙ told

pub returns-in-Some : goal.returns-in-Some
returns-in-Some c =
    let a = c.args in
    let s : List ℕ = a.s.now in
    let W = a.t.width in
    let size = c.group_size-size.result in
    let z = c.group_size-size.ensures in
    let l = c.loop-done in
    let rest : List ℕ = drop l.at s in
    let left = a.n - l.done in
    let count = c.min-count.result in
    let found = c.in-Some.ensures ∙ ap (there W count) (part_is s l.at) in
    let passed = given_some _ _ _ (sym found) in
    let inside : l.at + c.in-Some.bytes ≤ length s = omega (arith, passed.1, (whole_facts W count rest passed.0).1, length-drop l.at s) in
    let on = whole_here size z.1 W s left l.at count c.in-Some.bytes (omega arith) c.min-count.ensures passed.0 (sym passed.1) in
    let told = l.invariant.1 z.1 ∙ ap (λ (k : ℕ). whole_chunk W k a.n s) z.0 in
    let none : left - count ≡ 0 = omega (arith, c.min-count.ensures) in
    let behind : List ℕ = drop (l.at + c.in-Some.bytes) s in
    sym (ap (λ (k : ℕ). whole_left size z.1 W k behind) none ∙ whole_none size z.1 W behind) ∙ sym on ∙ told
