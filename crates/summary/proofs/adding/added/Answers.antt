-- `summary::adding::added` meets its contract.
use Prim.Native.Nat.{ℕ, ◌+◌, ◌*◌, ◌≤◌, ◌<◌}
use mathlib.Core.List.{List, [], ◌∷◌, ◌++◌}
use mathlib.Core.Path.{◌≡◌, refl, sym, ap, subst, ◌∙◌}
use native.Mathlib.Omega.{arith}
use borrow.Author.Tests.{lt-ltb, le-ltb}
use lib.ListN.{length, drop}
use Rattle.stream.specs.Header.{header_of}
use Rattle.stream.specs.Rows.{first, answer, after}
use Rattle.std.specs.Prelude.{⊤, Result, Ok, Err}
use Rattle.stream.specs.declared.answers.Refusal.{Refusal}
use Rattle.stream.specs.declared.answers.Refusal.TheVariants.{NoRoom, HasSideParts}
use Rattle.stream.specs.declared.header.Header.{Header}
use Rattle.summary.specs.Entry.{entry_length}
use Rattle.summary.specs.Private.{Accepted}
use Rattle.summary.specs.Summary.{with_summary}
use Rattle.summary.specs.Operations.{sides_row, room_for}
use Rattle.summary.proofs.Law.Stream.{long_enough}
use Rattle.summary.proofs.Law.Testing.{summary_small}
use Rattle.summary.proofs.Law.Copied.{length_copy}
use Rattle.summary.proofs.adding.added.Goals as goal

-- the rows 16 and 4, by the header that the code has read
module _ (s out : List ℕ) (h : Header) (a : Accepted h s) where
  size_is : length (with_summary s) ≡ length s + 12 + h.chunks * entry_length h.width
  size_is = length_copy s (long_enough h s a) ∙ ap (λ (g : Header). length s + 12 + g.chunks * entry_length g.width) (sym a.header)

  abbrev rows : Result ⊤ Refusal
  rows = first (sides_row s ∷ room_for (length out) (with_summary s) ∷ [])

  sixteen : 0 < h.sides → rows ≡ Err HasSideParts
  unfolding first sides_row
  sixteen some = rw (lt-ltb 0 (header_of s).sides (subst (λ (g : Header). 0 < g.sides) a.header some))

  module _ (none : h.sides ≤ 0) where
    past_sixteen : rows ≡ first (room_for (length out) (with_summary s) ∷ [])
    unfolding first sides_row
    past_sixteen = rw (le-ltb 0 (header_of s).sides (subst (λ (g : Header). g.sides ≤ 0) a.header none))

    four : length out < length (with_summary s) → rows ≡ Err (NoRoom (length (with_summary s)))
    unfolding first room_for
    four short = past_sixteen ∙ rw (lt-ltb (length out) (length (with_summary s)) short)

    passes : length (with_summary s) ≤ length out → rows ≡ Ok tt
    unfolding first room_for
    passes enough = past_sixteen ∙ rw (le-ltb (length out) (length (with_summary s)) enough)

  -- the same with the size that the code has reckoned
  module _ (k size : ℕ) (entry : k ≡ entry_length h.width) (is : size ≡ length s + 12 + h.chunks * k) where
    reckoned : length (with_summary s) ≡ size
    reckoned = size_is ∙ ap (λ (n : ℕ). length s + 12 + h.chunks * n) (sym entry) ∙ sym is

  -- the answer and the output
  refused : (refusal : Refusal) → rows ≡ Err refusal → (Err refusal ≡ answer rows (length (with_summary s))) × (out ≡ after rows (with_summary s ++ drop (length (with_summary s)) out) out)
  unfolding answer after
  refused refusal e = (rw e, rw e)

  done : rows ≡ Ok tt → (now : List ℕ) → now ≡ with_summary s ++ drop (length (with_summary s)) out
      → (Ok (length (with_summary s)) ≡ answer rows (length (with_summary s))) × (now ≡ after rows (with_summary s ++ drop (length (with_summary s)) out) out)
  unfolding answer after
  done e now is = (rw e, rw e is)

pub returns-then-h-gt0 : goal.returns-then-h-gt0
returns-then-h-gt0 c = let s = c.before in let a = s.args in let p = refused a.bytes.now a.out.now a.h s.requires HasSideParts (sixteen a.bytes.now a.out.now a.h s.requires c.if-h-gt0.true) in record { value = p.0; out_after = p.1 }

pub overflow_mul-size : goal.overflow_mul-size
overflow_mul-size c = let s = c.before in omega (arith, summary_small s.args.h s.args.bytes.now s.requires, ap (λ (k : ℕ). s.args.h.chunks * k) c.entry_length.ensures)

pub overflow_add-size-2 : goal.overflow_add-size-2
overflow_add-size-2 c = let s = c.before in omega (arith, summary_small s.args.h s.args.bytes.now s.requires, ap (λ (k : ℕ). s.args.h.chunks * k) c.entry_length.ensures, s.well_formed)

pub returns-then-out-size : goal.returns-then-out-size
returns-then-out-size c =
    let s = c.before in
    let a = s.args in
    let b : List ℕ = a.bytes.now in
    let o : List ℕ = a.out.now in
    let is = reckoned b o a.h s.requires c.entry_length.result _ c.entry_length.ensures refl in
    let r = refused b o a.h s.requires (NoRoom (length (with_summary b))) (four b o a.h s.requires (omega (arith, c.if-h-gt0.false)) (omega (arith, is, c.if-out-size.true))) in record { value = ap (λ (m : ℕ). Err (NoRoom m)) (sym is) ∙ r.0; out_after = r.1 }

pub put_copy-requires : goal.put_copy-requires
put_copy-requires c = let s = c.before in (s.requires, omega (arith, c.if-out-size.false, ap (λ (k : ℕ). s.args.h.chunks * k) c.entry_length.ensures))

pub returns : goal.returns
returns c =
    let s = c.before in
    let a = s.args in
    let b : List ℕ = a.bytes.now in
    let o : List ℕ = a.out.now in
    let is = reckoned b o a.h s.requires c.entry_length.result _ c.entry_length.ensures refl in
    let r = done b o a.h s.requires (passes b o a.h s.requires (omega (arith, c.if-h-gt0.false)) (omega (arith, is, c.if-out-size.false))) _ c.put_copy.ensures in record { value = ap Ok (sym is) ∙ r.0; out_after = r.1 }
