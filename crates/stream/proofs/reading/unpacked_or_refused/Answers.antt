-- `stream::reading::unpacked_or_refused` meets its contract.
use Prim.Native.Nat.{ℕ}
use Rattle.stream.proofs.Law.Rows.Passed.{unpack_ready, unpacked, not_unpacked}
use Rattle.stream.proofs.Law.Rows.First.{refused_stop, handed_on}
use Rattle.stream.proofs.Law.Header.Opening.{open_is}
use Rattle.stream.specs.Lent.{chosen}
use Rattle.stream.specs.Operations.{unpack_rows}
use Rattle.stream.specs.Relied.{Readable}
use Rattle.stream.specs.Rows.{first}
use Rattle.stream.specs.Stream.{values_in}
use lib.ListN.{length, drop}
use mathlib.Core.List.{◌++◌}
use mathlib.Core.Path.{sym, ap, subst, ◌∙◌}
use native.Mathlib.Omega.{arith}
use Rattle.stream.proofs.reading.unpacked_or_refused.Goals as goal

pub returns-in_err-h : goal.returns-in_err-h
returns-in_err-h c =
    let a = c.args in
    let out = chosen a.width a.o32.now a.o64.now in
    let stop = refused_stop _ _ _ (sym c.unpack_opening.ensures ∙ c.in_err-h.was) in
    let p = not_unpacked a.width a.level a.bytes.now out _ (ap (λ (n : ℕ). first (unpack_rows a.width a.level a.bytes.now n)) (sym c.requires.0) ∙ stop) in
    record { value = handed_on c.from_residual.ensures.1 ∙ p.0; o64_after = p.1 }

pub restore-requires : goal.restore-requires
restore-requires c =
    let a = c.args in
    let h = c.in_ok-h.h in
    let o = open_is _ _ _ (sym c.unpack_opening.ensures ∙ c.in_ok-h.was) in
    let pass = ap (λ (n : ℕ). first (unpack_rows a.width a.level a.bytes.now n)) (sym c.requires.0) ∙ o.0 in
    let p = unpack_ready a.width a.level a.bytes.now (length (chosen a.width a.o32.now a.o64.now)) pass (λ i. (c.type_inv.bytes i).fits) h o.1 in
    let w = p.0.width in (
      subst (λ (x : ℕ). Readable x h a.bytes.now) (sym w) p.0,
      p.1,
      omega (arith, p.2, ap (λ (x : ℕ). length (chosen x a.o32.now a.o64.now)) w),
      omega (arith, c.requires.1, ap (λ (x : ℕ). length (chosen x a.c32.now a.c64.now)) w),
    )

pub returns : goal.returns
returns c =
    let a = c.args in
    let h = c.in_ok-h.h in
    let r = c.restore in
    let out = chosen a.width a.o32.now a.o64.now in
    let o = open_is _ _ _ (sym c.unpack_opening.ensures ∙ c.in_ok-h.was) in
    let pass = ap (λ (n : ℕ). first (unpack_rows a.width a.level a.bytes.now n)) (sym c.requires.0) ∙ o.0 in
    let w = (unpack_ready a.width a.level a.bytes.now (length out) pass (λ i. (c.type_inv.bytes i).fits) h o.1).0.width in
    let p =
    unpacked a.width a.level a.bytes.now out pass h o.1 (chosen a.width r.new.o32 r.new.o64)
    (ap (λ (x : ℕ). chosen x r.new.o32 r.new.o64) (sym w)
    ∙ r.ensures
    ∙ ap (λ (x : ℕ). values_in h a.bytes.now ++ drop h.count (chosen x a.o32.now a.o64.now)) w) in
    record { value = p.0; o64_after = p.1 }
