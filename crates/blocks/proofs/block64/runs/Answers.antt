-- `blocks::block64::runs` meets its contract: runs of eight codes, each behind the bytes that stand.
use mathlib.Core.Path.{◌≡◌, refl, sym, ap, ◌∙◌}
use mathlib.Core.List.{List, ◌++◌}
use Prim.Native.Nat.{ℕ, ◌+◌, ◌-◌, ◌*◌, ◌^◌, ◌≤◌, ◌<◌}
use native.Mathlib.Nat.{zero-mul, one-mul, add-mul, mul-le-mul_right}
use native.Mathlib.Omega.{arith}
use lib.ListN.{length, take, drop, length-drop}
use lib.Seq.{length-take-le}
use borrow.Author.Rules.{rules}
use Rattle.blocks.specs.Bytes.{number, digits}
use Rattle.blocks.proofs.Law.Digits.{below_take, below_drop}
use Rattle.blocks.proofs.Law.Run.{part_stands, part_room}
use Rattle.blocks.proofs.block64.runs.Goals as goal

none : (w n : ℕ) (base : List ℕ) → base ≡ digits 256 (0 * w) n ++ drop (0 * w) base
unfolding digits
none w n base = sym (ap (λ (k : ℕ). digits 256 k n ++ drop k base) (zero-mul w))

eight : (i : ℕ) → 8 * i + 8 - 8 * i ≡ 8
eight i = omega arith

more : (i w : ℕ) → (i + 1) * w ≡ i * w + w
more i w = add-mul i 1 w ∙ ap (λ (k : ℕ). i * w + k) (one-mul w)

-- four runs have the room
room : (i w r : ℕ) → i < 4 → 4 * w ≤ r → i * w + w ≤ r
room i w r h four = let all : (i + 1) * w ≤ 4 * w = mul-le-mul_right w (omega arith) in omega (arith, all, more i w)

pub loop-i-init : goal.loop-i-init
loop-i-init c = let a = c.args in none a.w (number (2 ^ a.w) a.c.now) a.out.now

pub run-requires : goal.run-requires
run-requires c =
    let a = c.args in
    let p = c.requires in
    let l = c.loop-i in
    let codes : List ℕ = drop (8 * l.i) a.c.now in (
      p.0,
      p.1,
      rw (eight l.i) (length-take-le 8 codes (rw length-drop (search rules))),
      rw (eight l.i) (below_take (2 ^ a.w) 8 codes (below_drop (2 ^ a.w) (8 * l.i) a.c.now p.2)),
      part_room (l.i * a.w) a.w (number (2 ^ a.w) a.c.now) a.out.now l.out (room l.i a.w _ (omega arith) p.3) l.invariant,
    )

pub loop-i-preserved : goal.loop-i-preserved
loop-i-preserved c =
    let a = c.args in
    let l = c.loop-i in
    let p = l.i * a.w in
    let out : List ℕ = l.out in
    part_stands a.w l.i p ((l.i + 1) * a.w) a.c.now a.out.now out _ c.requires.2 refl (more l.i a.w) l.invariant
    (c.run.ensures ∙ ap (λ (k : ℕ). digits 256 a.w (number (2 ^ a.w) (take k (drop (8 * l.i) a.c.now))) ++ drop a.w (take (length out - p) (drop p out))) (eight l.i))

pub returns : goal.returns
returns c =
    let a = c.args in
    let end : c.loop-i.i ≡ 4 = omega arith in
    c.loop-i.invariant ∙ ap (λ (i : ℕ). digits 256 (i * a.w) (number (2 ^ a.w) a.c.now) ++ drop (i * a.w) a.out.now) end
