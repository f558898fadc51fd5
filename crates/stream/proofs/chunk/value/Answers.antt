-- The value at the index, less the groups passed over, of what is left is the value that is asked for.
use Rattle.std.proofs.Common.{◌≡◌, ℕ, List, ◌+◌, ◌*◌, ◌/◌, ◌%◌, ◌-◌, ◌≤◌, ◌<◌, min, drop, get_or, add-one, refl, sym, ap, ◌∙◌, arith}
use Rattle.std.proofs.Math.Nat.{sub-zero, mul-zero, mul-suc, mul_comm, mul-le-mul_left, div-mul-le_self, mod-lt}
use lib.Pow.{pow_pos}
use Rattle.numbers.specs.Difference.{last_of}
use Rattle.stream.specs.Chunk.{chunk_codes}
use Rattle.stream.specs.Lent.{SameBehind}
use Rattle.stream.specs.Group.{group_length, group_codes}
use Rattle.stream.specs.Setting.{group_size, patterns_after, limit_of}
use Rattle.stream.proofs.Law.Chunk.Checking.{part_is}
use Rattle.stream.proofs.Law.Chunk.Restoring.{starts_onward, part_opens, goes_on, behind_next, within_next}
use Rattle.stream.proofs.Law.Chunk.Whole.{good_whole}
use Rattle.stream.proofs.Law.Setting.Allowed.{size_some}
use Rattle.stream.proofs.chunk.value.Goals as goal

-- a full group lies before that of the index
behind : (size i k : ℕ) → k < i / size → size * k + size ≤ i
behind size i k h = omega (arith, mul-suc size k, mul-le-mul_left size h, div-mul-le_self i size, mul_comm size (i / size))

-- the index within its own group
within_own : (size i k : ℕ) → 0 < size → k ≡ i / size → i - size * k ≡ i % size
within_own size i k some e = omega (arith, ap (λ (j : ℕ). size * j) e)

next_from : (size k : ℕ) → size * (k + 1) ≡ size * k + size
next_from size k = ap (λ (j : ℕ). size * j) (add-one k) ∙ mul-suc size k

pub loop-init : goal.loop-init
loop-init c =
    let a = c.args in
    let t = a.t in
    let whole = good_whole (group_size t) (size_some t) t.width (limit_of t) a.n a.s.now c.requires.3 in
    rw (mul-zero c.group_size-size.result, sub-zero a.n, sub-zero a.i) (starts_onward (group_size t) (size_some t) t.width a.s.now a.n whole, refl, pow_pos t.width)

pub carried-before-requires : goal.carried-before-requires
carried-before-requires c =
    let a = c.args in
    let t = a.t in
    let s : List ℕ = a.s.now in
    let l = c.loop in
    let size = c.group_size-size.result in
    let z = c.group_size-size.ensures in
    let left = a.n - size * l.counter in
    let more = behind size a.i l.counter (c.loop-test.true) in
    let some : 0 < left = omega (arith, more, c.requires.2) in
    let full : size ≡ min (group_size t) left = omega (arith, more, z.0, c.requires.2) in
    let opens = part_opens (group_size t) (size_some t) t.width s left l.at size l.invariant.0 some full in
    (c.requires.0, l.invariant.2, z.2, opens.0, opens.1)

pub group_length-at-requires : goal.group_length-at-requires
group_length-at-requires c =
    let a = c.args in
    let t = a.t in
    let s : List ℕ = a.s.now in
    let l = c.loop in
    let size = c.group_size-size.result in
    let z = c.group_size-size.ensures in
    let left = a.n - size * l.counter in
    let more = behind size a.i l.counter (c.loop-test.true) in
    let some : 0 < left = omega (arith, more, c.requires.2) in
    let full : size ≡ min (group_size t) left = omega (arith, more, z.0, c.requires.2) in
    (z.2, (part_opens (group_size t) (size_some t) t.width s left l.at size l.invariant.0 some full).1)

pub overflow_add-at : goal.overflow_add-at
overflow_add-at c =
    let a = c.args in
    let t = a.t in
    let s : List ℕ = a.s.now in
    let l = c.loop in
    let size = c.group_size-size.result in
    let z = c.group_size-size.ensures in
    let left = a.n - size * l.counter in
    let more = behind size a.i l.counter (c.loop-test.true) in
    let some : 0 < left = omega (arith, more, c.requires.2) in
    let full : size ≡ min (group_size t) left = omega (arith, more, z.0, c.requires.2) in
    let passed = c.group_length-at.ensures ∙ ap (group_length size) (part_is s l.at) in
    let on = goes_on (group_size t) (size_some t) t.width s left l.at size l.invariant.0 some full c.group_length-at.result passed in
    omega (arith, on.inside)

pub loop-preserved : goal.loop-preserved
loop-preserved c =
    let a = c.args in
    let t = a.t in
    let s : List ℕ = a.s.now in
    let l = c.loop in
    let size = c.group_size-size.result in
    let z = c.group_size-size.ensures in
    let left = a.n - size * l.counter in
    let more = behind size a.i l.counter (c.loop-test.true) in
    let some : 0 < left = omega (arith, more, c.requires.2) in
    let full : size ≡ min (group_size t) left = omega (arith, more, z.0, c.requires.2) in
    let k = c.carried-before in
    let passed = c.group_length-at.ensures ∙ ap (group_length size) (part_is s l.at) in
    let on = goes_on (group_size t) (size_some t) t.width s left l.at size l.invariant.0 some full c.group_length-at.result passed in
    let same : SameBehind t k.result (last_of l.before (patterns_after t l.before (group_codes size (drop l.at s)))) =
    λ cs. k.ensures.1 cs ∙ ap (λ (u : List ℕ). patterns_after t (last_of l.before (patterns_after t l.before (group_codes size u))) cs) (part_is s l.at) in
    let value =
    behind_next (group_size t) (size_some t) t.width s left l.at size l.invariant.0 some full t l.before c.group_length-at.result passed (a.i - size * l.counter) k.result (omega (arith, more)) same in
    let further : left - size ≡ a.n - size * (l.counter + 1) = omega (arith, next_from size l.counter) in
    let index : a.i - size * l.counter - size ≡ a.i - size * (l.counter + 1) = omega (arith, next_from size l.counter) in
    rw (← further, ← index) (on, sym value ∙ l.invariant.1, k.ensures.0)

pub value-requires : goal.value-requires
value-requires c =
    let a = c.args in
    let t = a.t in
    let s : List ℕ = a.s.now in
    let l = c.loop in
    let size = c.group_size-size.result in
    let z = c.group_size-size.ensures in
    let left = a.n - size * l.counter in
    let end : l.counter ≡ a.i / size = omega (arith, c.loop-test.false) in
    let there = ap (λ (k : ℕ). size * k) end in
    let some : 0 < left = omega (arith, there, div-mul-le_self a.i size, mul_comm size (a.i / size), c.requires.2) in
    let count-is : c.min-count.result ≡ min (group_size t) left = omega (arith, c.min-count.ensures, there, z.0) in
    let index : a.i - size * l.counter ≡ a.i % size = within_own size a.i l.counter z.1 end in
    let within : a.i % size < c.min-count.result = omega (arith, c.min-count.ensures, there, mod-lt a.i z.1, index, c.requires.2) in
    let opens = part_opens (group_size t) (size_some t) t.width s left l.at c.min-count.result l.invariant.0 some count-is in
    (c.requires.0, l.invariant.2, within, omega (arith, c.min-count.ensures, z.2), opens.0, opens.1)

pub returns : goal.returns
returns c =
    let a = c.args in
    let t = a.t in
    let s : List ℕ = a.s.now in
    let l = c.loop in
    let size = c.group_size-size.result in
    let z = c.group_size-size.ensures in
    let left = a.n - size * l.counter in
    let end : l.counter ≡ a.i / size = omega (arith, c.loop-test.false) in
    let there = ap (λ (k : ℕ). size * k) end in
    let some : 0 < left = omega (arith, there, div-mul-le_self a.i size, mul_comm size (a.i / size), c.requires.2) in
    let count-is : c.min-count.result ≡ min (group_size t) left = omega (arith, c.min-count.ensures, there, z.0) in
    let index : a.i - size * l.counter ≡ a.i % size = within_own size a.i l.counter z.1 end in
    let within : a.i % size < c.min-count.result = omega (arith, c.min-count.ensures, there, mod-lt a.i z.1, index, c.requires.2) in
    let count = c.min-count.result in
    c.value.ensures
    ∙ ap (λ (r : List ℕ). get_or (patterns_after t l.before (group_codes count r)) (a.i % size) 0) (part_is s l.at)
    ∙ sym (within_next (group_size t) (size_some t) t.width s left l.at count l.invariant.0 some count-is t l.before _ refl (a.i % size) within)
    ∙ ap (λ (j : ℕ). get_or (patterns_after t l.before (chunk_codes (group_size t) left (drop l.at s))) j 0) (sym index)
    ∙ l.invariant.1
