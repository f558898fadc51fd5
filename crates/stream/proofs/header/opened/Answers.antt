-- `stream::header::opened` meets its contract.
use Rattle.stream.proofs.Law.Header.Numbers.{words}
use Rattle.stream.specs.Operations.{opening_rows, header_rows}
use Rattle.stream.specs.Relied.{Words}
use Rattle.stream.specs.Rows.{first, answer}
use Rattle.stream.specs.declared.header.Header.{Header}
use borrow.Author.Tests.{lt-ltb, le-ltb}
use lib.ListN.{length}
use mathlib.Core.Path.{◌≡◌, sym, subst, ◌∙◌}
use mathlib.Core.Bool.{true}
use mathlib.Core.List.{List}
use Prim.Native.Nat.{ℕ, ◌≤◌}
use Rattle.stream.specs.Header.{header_of}
use Rattle.stream.specs.Setting.{known_level}
use Rattle.stream.proofs.Law.Rows.First.{refuses, passes}
use Rattle.stream.proofs.header.opened.Goals as goal

-- behind 1 and 5 the header's rows are left
whole : (level : ℕ) (s : List ℕ) → known_level level ≡ true → 48 ≤ length s → (h : Header) → h ≡ header_of s → first (header_rows level (length s) h) ≡ first (opening_rows level s)
unfolding first opening_rows
whole level s known long h is = rw (known, le-ltb (length s) 48 long, is)

pub returns-then-not-known_level : goal.returns-then-not-known_level
unfolding answer first opening_rows
returns-then-not-known_level c = rw (sym c.known_level.ensures ∙ c.if-not-known_level.true)

pub returns-then-bytes-lt48 : goal.returns-then-bytes-lt48
unfolding answer first opening_rows
returns-then-bytes-lt48 c = rw (sym c.known_level.ensures ∙ c.if-not-known_level.false, lt-ltb (length c.args.bytes.now) 48 c.if-bytes-lt48.true)

pub header_step-requires : goal.header_step-requires
header_step-requires c = subst Words (sym c.header_of-h.ensures) (words c.args.bytes.now (λ i. (c.shared_slice_known-1.given i).fits))

pub returns-in_err-header_step : goal.returns-in_err-header_step
returns-in_err-header_step c =
    let a = c.args in
    refuses _ _ c.from_residual.ensures.1
    (sym (whole a.level a.bytes.now (sym c.known_level.ensures ∙ c.if-not-known_level.false) c.if-bytes-lt48.false _ c.header_of-h.ensures) ∙ sym c.header_step.ensures ∙ c.in_err-header_step.was)

pub returns : goal.returns
returns c =
    let a = c.args in
    passes _ _ _
    (sym (whole a.level a.bytes.now (sym c.known_level.ensures ∙ c.if-not-known_level.false) c.if-bytes-lt48.false _ c.header_of-h.ensures) ∙ sym c.header_step.ensures ∙ c.in_ok-header_step.was)
    c.header_of-h.ensures
