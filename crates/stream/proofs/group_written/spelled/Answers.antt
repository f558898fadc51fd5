-- `spelled` meets its contract: the width, and the body in the part behind it.
-- Assumes nothing.
use mathlib.Core.Path.{sym, ap, ap₂, ◌∙◌}
use mathlib.Core.List.{List, ◌∷◌, ◌++◌}
use Prim.Native.Nat.{ℕ, suc, ◌-◌, ◌≤◌}
use native.Mathlib.Nat.{zero-lt-suc, le_of_eq, le_trans, lt_of_lt_of_le}
use native.Mathlib.Numerals.{one-add}
use native.Mathlib.Omega.{arith}
use lib.ListN.{length, drop, set, length-set, length-drop}
use lib.Seq.{drop-drop}
use borrow.Rule.Slice.PartMut.{same_len_mid}
use Rattle.stream.specs.Group.{bytes_for, width_of, packed, group_bytes}
use Rattle.stream.proofs.Law.Group.RoundTrip.{length_group, width_holds}
use Rattle.stream.proofs.Law.Plain.Parts.{behind_first, first_back}
use Rattle.stream.proofs.group_written.spelled.Goals as goal
use Rattle.stream.proofs.group_written.spelled.Lts as lts
use Rattle.stream.proofs.group_written.spelled.Reads as reads
use Rattle.stream.proofs.group_written.spelled.Tie as tie

abbrev Start : Type 0
Start = lts.Start tie.the-claims reads.Pre reads.Post tie.handed_clauses

abbrev After-width : Type 0
After-width = lts.After-width tie.the-claims reads.Pre reads.Post tie.handed_clauses

abbrev entry : After-width → Start
entry c = c.before.before.before

-- the room that is asked for, in the terms of the code
room : (c : After-width) → suc (bytes_for c.width-w.result (length (entry c).args.codes.now)) ≤ length (entry c).args.out.now
room c =
    let codes = (entry c).args.codes.now in
    le_trans (le_of_eq (ap (λ (w : ℕ). suc (bytes_for w (length codes))) c.width-w.ensures.0 ∙ sym (length_group codes))) (entry c).requires

pub bounds-out-0 : goal.bounds-out-0
bounds-out-0 c = omega (arith, room c.before)

pub slice_bounds-put_packed-count : goal.slice_bounds-put_packed-count
slice_bounds-put_packed-count c = rw length-set (omega (arith, room c.before))

pub slice_bounds-put_packed-start : goal.slice_bounds-put_packed-start
slice_bounds-put_packed-start c = simp length-set (omega (arith, room c.before))

pub put_packed-requires : goal.put_packed-requires
put_packed-requires c =
    let s = c.before in (
      c.width-w.ensures.1,
      rw c.width-w.ensures.0 (width_holds s.args.codes.now),
      rw (behind_first s.args.out.now c.width-w.result, length-drop) (omega (arith, room c.before.before)),
    )

pub overflow_add-result : goal.overflow_add-result
overflow_add-result c = omega (arith, room c.before.before.before.before.before, c.put_packed.ensures.value)

pub shape_of-out : goal.shape_of-out
shape_of-out c =
    let out : List ℕ = c.args.out.now in
    let w = c.width-w.result in
    same_len_mid 1 (length (set out 0 w) - 1) (set out 0 w) c.put_packed.new.out c.put_packed.auto.out
    ∙ length-set out 0 w

pub returns : goal.returns
unfolding group_bytes
returns c =
    let at_width = c.before.before.before.before.before in
    let s = c.before in
    let codes : List ℕ = s.args.codes.now in
    let out : List ℕ = s.args.out.now in
    let w = at_width.width-w in
    let b = c.put_packed in record {
      value = one-add b.result ∙ ap suc (b.ensures.value ∙ ap (λ (n : ℕ). bytes_for n (length codes)) w.ensures.0) ∙ sym (length_group codes);
      out_after = first_back out b.new.out w.result (lt_of_lt_of_le (zero-lt-suc _) (room (at_width)))
          ∙ ap₂ (λ (n : ℕ) (r : List ℕ). n ∷ r) w.ensures.0
          (b.ensures.out_after
          ∙ ap₂ (λ (n : ℕ) (r : List ℕ). packed n codes ++ drop b.result r) w.ensures.0 (behind_first out w.result)
          ∙ ap (λ (r : List ℕ). packed (width_of codes) codes ++ r) (drop-drop b.result 1 out));
    }
