-- `stream::probe::probe32` meets its contract.
use Rattle.stream.proofs.Law.Rows.Passed.{probe_reads}
use Rattle.stream.proofs.Law.Rows.First.{refused_stop, refuses, passes}
use Rattle.stream.proofs.Law.Header.Opening.{open_is}
use Rattle.stream.proofs.Law.Rows.Small.{value_small}
use Rattle.stream.specs.Operations.{probe_answer32}
use Rattle.stream.specs.Probe.{shown32}
use Rattle.stream.specs.Stream.{value_in, value_at}
use Rattle.stream.specs.declared.header.Header.{Header}
use mathlib.Core.Path.{◌≡◌, sym, ap, ◌∙◌}
use native.Mathlib.Omega.{arith}
use Rattle.stream.proofs.probe.probe32.Goals as goal

pub returns-in_err-h : goal.returns-in_err-h
unfolding probe_answer32
returns-in_err-h c = refuses _ _ c.from_residual.ensures.1 (refused_stop _ _ _ (sym c.probe_opening.ensures ∙ c.in_err-h.was))

pub value_at-requires : goal.value_at-requires
value_at-requires c =
    let a = c.args in
    let o = open_is _ _ _ (sym c.probe_opening.ensures ∙ c.in_ok-h.was) in
    probe_reads 32 a.level a.bytes.now a.index o.0 (λ i. (c.type_inv.bytes i).fits) _ o.1

pub overflow_cast-value_at : goal.overflow_cast-value_at
unfolding value_at
overflow_cast-value_at c =
    let a = c.args in
    let o = open_is _ _ _ (sym c.probe_opening.ensures ∙ c.in_ok-h.was) in
    let is : c.value_at.result ≡ value_at a.bytes.now a.index = c.value_at.ensures ∙ ap (λ (h : Header). value_in h a.bytes.now a.index) o.1 in
    omega (arith, is, value_small a.level a.bytes.now (λ i. (c.type_inv.bytes i).fits) 32 a.index o.0)

pub returns : goal.returns
unfolding probe_answer32 value_at
returns c =
    let a = c.args in
    let o = open_is _ _ _ (sym c.probe_opening.ensures ∙ c.in_ok-h.was) in
    passes _ _ _ o.0 (c.show32.ensures ∙ ap shown32 (c.value_at.ensures ∙ ap (λ (h : Header). value_in h a.bytes.now a.index) o.1))
