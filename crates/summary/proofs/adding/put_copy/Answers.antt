-- `summary::adding::put_copy` meets its contract.
use Prim.Native.Nat.{ℕ, ◌+◌, ◌-◌, ◌*◌}
use mathlib.Core.List.{List, ◌++◌}
use mathlib.Core.Path.{◌≡◌, sym, ap, ap₂, ◌∙◌}
use native.Mathlib.Omega.{arith}
use lib.ListN.{length, take, drop}
use Rattle.stream.specs.Header.{header_of}
use Rattle.stream.specs.declared.header.Header.{Header}
use Rattle.summary.specs.Summary.{summary, summary_in}
use Rattle.summary.proofs.Law.Stream.{long_enough}
use Rattle.summary.proofs.Law.Part.{length_summary}
use Rattle.summary.proofs.Law.Adding.{copy_put}
use Rattle.summary.proofs.adding.put_copy.Goals as goal

pub overflow_mul-part : goal.overflow_mul-part
overflow_mul-part c = let s = c.before in omega (arith, ap (λ (k : ℕ). s.args.h.chunks * k) c.entry_length.ensures, s.requires.1, s.well_formed)

pub half-requires : goal.half-requires
half-requires c = let s = c.before in omega (arith, c.copied.auto.out, s.requires.1, long_enough s.args.h s.args.bytes.now s.requires.0)

pub returns : goal.returns
unfolding summary
returns c =
    let s = c.before in
    let a = s.args in
    let base = a.out.now in
    let long = ap (λ (k : ℕ). a.h.chunks * k) c.entry_length.ensures ∙ sym (length_summary a.h a.bytes.now) in
    let o4 : List ℕ = c.half-4.new.out in
    let all : summary_in a.h a.bytes.now ≡ summary_in (header_of a.bytes.now) a.bytes.now = ap (λ (h : Header). summary_in h a.bytes.now) s.requires.0.header in
    copy_put a.bytes.now (long_enough a.h a.bytes.now s.requires.0) base _ _ _ _ _ _ _ (long ∙ ap length all)
    c.copied.ensures c.half.ensures c.half-2.ensures c.half-3.ensures c.half-4.ensures
    (c.put_summary.ensures ∙ ap₂ (λ (x : List ℕ) (n : ℕ). x ++ drop n (take (length o4 - (length a.bytes.now + 12)) (drop (length a.bytes.now + 12) o4))) all (ap (λ (k : ℕ). a.h.chunks * k) (sym c.entry_length.ensures)))
