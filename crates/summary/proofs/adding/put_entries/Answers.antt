-- `summary::adding::put_entries` meets its contract. The invariant: the entries of the chunks passed, and then what was there.
use Prim.Native.Nat.{ℕ, ◌+◌, ◌*◌, ◌/◌, ◌≤◌, ◌<◌}
use mathlib.Core.List.{List, ◌++◌}
use mathlib.Core.Path.{◌≡◌, refl, sym, ap, ap₂, ◌∙◌}
use native.Mathlib.Nat.{zero-mul, suc-mul}
use native.Mathlib.Numerals.{add-one}
use native.Mathlib.Omega.{arith}
use lib.ListN.{length, take, drop}
use Rattle.blocks.specs.Bytes.{digits}
use Rattle.stream.specs.Setting.{fraction_bits}
use Rattle.stream.specs.Stream.{joined, chunk_values}
use Rattle.stream.proofs.Law.Lent.Chosen.{chosen_long}
use Rattle.summary.specs.declared.entry.Entry.{Entry}
use Rattle.summary.specs.Entry.{entry_length, entry_bytes}
use Rattle.summary.specs.Private.{entry_says}
use Rattle.summary.specs.Summary.{chunk_entry, summary_in}
use Rattle.summary.proofs.Law.Stream.{known}
use Rattle.summary.proofs.Law.Part.{entry_inside, length_entries}
use Rattle.summary.proofs.Law.Grown.{grown}
use Rattle.summary.proofs.adding.put_entries.Goals as goal

-- the entry of chunk j lies within the output
inside : (W k j n : ℕ) → j < k → k * entry_length W ≤ n → j * entry_length W + entry_length W ≤ n
inside W k j n more room = omega (arith, entry_inside (entry_length W) j k more)

-- the bytes that were put are the chunk's entry
bytes_are : (e : Entry) (W m : ℕ) (vs : List ℕ) → entry_says e W m vs → digits 256 4 e.nans ++ digits 256 (W / 8) e.smallest ++ digits 256 (W / 8) e.largest ≡ entry_bytes W m vs
unfolding entry_bytes
bytes_are e W m vs says = rw (says.0, says.1, says.2)

pub entry_length-size-requires : goal.entry_length-size-requires
entry_length-size-requires c = tt

pub loop-j-init : goal.loop-j-init
unfolding joined
loop-j-init c = let a = c.args in (omega arith, ap (λ (n : ℕ). drop n a.out.now) (sym (zero-mul (entry_length a.h.width))), refl, refl, refl)

pub entry_of-e-requires : goal.entry_of-e-requires
entry_of-e-requires c =
    let a = c.args in
    let l = c.loop-j in
    (c.requires.0, c.loop-j-test.true, omega (arith, c.requires.1, chosen_long a.h.width a.v32.now a.v64.now l.v32 l.v64 l.invariant.2 l.invariant.3))

pub overflow_mul-j : goal.overflow_mul-j
overflow_mul-j c =
    let a = c.args in
    let l = c.loop-j in
    omega (arith, inside a.h.width a.h.chunks l.j (length a.out.now) c.loop-j-test.true c.requires.2, ap (λ (k : ℕ). l.j * k) c.entry_length-size.ensures, c.well_formed)

pub put_entry-requires : goal.put_entry-requires
put_entry-requires c =
    let a = c.args in
    let l = c.loop-j in
    (known a.h a.bytes.now c.requires.0, omega (arith, inside a.h.width a.h.chunks l.j (length a.out.now) c.loop-j-test.true c.requires.2, ap (λ (k : ℕ). l.j * k) c.entry_length-size.ensures, l.invariant.4))

pub loop-j-preserved : goal.loop-j-preserved
unfolding joined chunk_entry
loop-j-preserved c =
    let a = c.args in
    let l = c.loop-j in
    let s = a.bytes.now in
    let made = c.entry_of-e in
    let put = c.put_entry in
    let E = entry_length a.h.width in
    let at = l.j * E in
    let d = chunk_entry a.h s l.j in
    let is = bytes_are made.result a.h.width (fraction_bits a.h.width) (chunk_values a.h s l.j) made.ensures in
    let lands = put.ensures ∙ ap₂ (λ (n : ℕ) (x : List ℕ). take n l.out ++ x ++ drop (n + E) l.out) (ap (λ (k : ℕ). l.j * k) c.entry_length-size.ensures) is in
    let grows = grown (joined (chunk_entry a.h s) l.j) d a.out.now l.out _ at E (length_entries a.h s l.j) l.invariant.1 lands in (
      omega (arith, c.loop-j-test.true),
      grows ∙ ap₂ (λ (i n : ℕ). joined (chunk_entry a.h s) i ++ drop n a.out.now) (sym (add-one l.j)) (sym (suc-mul l.j E) ∙ ap (λ (i : ℕ). i * E) (sym (add-one l.j))),
      made.auto.v32 ∙ l.invariant.2,
      made.auto.v64 ∙ l.invariant.3,
      put.auto.out ∙ l.invariant.4,
    )

pub shape_of-v32 : goal.shape_of-v32
shape_of-v32 c = c.loop-j.invariant.2

pub shape_of-v64 : goal.shape_of-v64
shape_of-v64 c = c.loop-j.invariant.3

pub shape_of-out : goal.shape_of-out
shape_of-out c = c.loop-j.invariant.4

pub returns : goal.returns
unfolding summary_in
returns c =
    let a = c.args in
    let l = c.loop-j in
    l.invariant.1 ∙ ap (λ (i : ℕ). joined (chunk_entry a.h a.bytes.now) i ++ drop (i * entry_length a.h.width) a.out.now) (let e : l.j ≡ a.h.chunks = omega (arith, l.invariant.0, c.loop-j-test.false) in e)
