-- k bytes of the word stand behind what was there, and the rest of the word is left.
use Rattle.std.proofs.Common.{◌≡◌, ℕ, List, ◌+◌, ◌/◌, ◌%◌, refl, sym, ap, ◌∙◌, arith}
use mathlib.Core.Path.{ap₂}
use native.Mathlib.Nat.{div-one}
use lib.ListN.{set, length-set}
use Rattle.stream.proofs.Law.Group.Writing.{none_stored, one_store, div_next}
use Rattle.stream.proofs.group_written.tail.Goals as goal

pub loop-k-init : goal.loop-k-init
loop-k-init c = let a = c.args in (refl, sym (div-one a.rest.word), none_stored a.out.now a.rest.at a.rest.word)

pub loop-k-preserved : goal.loop-k-preserved
loop-k-preserved c =
    let a = c.args in
    let l = c.loop-k in (
      rw length-set l.invariant.0,
      ap (λ (n : ℕ). n / 256) l.invariant.1 ∙ div_next a.rest.word l.k,
      ap₂ (λ (r : List ℕ) (x : ℕ). set r (a.rest.at + l.k) (x % 256)) l.invariant.2 l.invariant.1
          ∙ one_store a.out.now a.rest.at l.k a.rest.word (omega arith),
    )
