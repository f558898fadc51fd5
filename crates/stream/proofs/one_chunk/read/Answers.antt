-- `stream::one_chunk::read` meets its contract.
use Prim.Native.Nat.{ℕ, ◌≤◌, ◌<◌}
use mathlib.Core.Bool.{true}
use mathlib.Core.List.{List}
use mathlib.Core.Path.{◌≡◌, sym, ap, subst, ◌∙◌}
use native.Mathlib.Omega.{arith}
use lib.ListN.{length}
use Rattle.stream.specs.Access.{header_right, chunk_there, chunk_fits}
use Rattle.stream.specs.Lent.{chosen, landed}
use Rattle.stream.specs.Relied.{Opened}
use Rattle.stream.specs.Stream.{count_of, chunk_values}
use Rattle.stream.specs.declared.header.Header.{Header}
use Rattle.stream.proofs.Law.Access.{header_long, header_opened, headless, unfit, absent, not_read, is_read, fits_facts, there_facts, there_placed}
use Rattle.stream.proofs.one_chunk.read.Goals as goal
use Rattle.stream.proofs.one_chunk.read.Lts as lts
use Rattle.stream.proofs.one_chunk.read.Reads as reads
use Rattle.stream.proofs.one_chunk.read.Tie as tie

abbrev Start : Type 0
Start = lts.Start tie.the-claims reads.Pre reads.Post tie.handed_clauses

abbrev Else1 : Type 0
Else1 = lts.Else1 tie.the-claims reads.Pre reads.Post tie.handed_clauses

abbrev After-header_of : Type 0
After-header_of = lts.After-header_of tie.the-claims reads.Pre reads.Post tie.handed_clauses

abbrev Else2 : Type 0
Else2 = lts.Else2 tie.the-claims reads.Pre reads.Post tie.handed_clauses

abbrev Else3 : Type 0
Else3 = lts.Else3 tie.the-claims reads.Pre reads.Post tie.handed_clauses

abbrev out : Start → List ℕ
out s = chosen s.args.width s.args.o32.now s.args.o64.now

-- the header keeps its rules
module _ (c : Else1) where
  abbrev start : Start
  start = c.before.before.before.before.before.before.before

  abbrev bytes : List ℕ
  bytes = start.args.bytes.now

  kept : header_right bytes ≡ true
  kept = sym c.right.ensures ∙ c.if-not-right.false

-- it is read
module _ (c : After-header_of) where
  abbrev h : Header
  h = c.header_of-h.result

  opened : Opened (length (bytes c.before)) h
  opened = header_opened (bytes c.before) (kept c.before) (λ i. (c.shared_slice_known-1.given i).fits) h c.header_of-h.ensures

-- the chunk fits
module _ (c : Else2) where
  abbrev first : Start
  first = start c.before.before.before

  fitting : chunk_fits first.args.width (h c.before.before) first.args.j (length (out first)) ≡ true
  fitting =
      ap (chunk_fits first.args.width (h c.before.before) first.args.j) (sym first.requires.0)
      ∙ sym c.fits.ensures ∙ c.if-not-fits.false

  facts : (first.args.j < (h c.before.before).chunks) × ((h c.before.before).width ≡ first.args.width) × (count_of (h c.before.before) first.args.j ≤ length (out first))
  facts = fits_facts first.args.width (h c.before.before) first.args.j (length (out first)) fitting

-- and it is there
module _ (c : Else3) where
  abbrev e : Else2
  e = c.before.before

  is_there : chunk_there (h e.before.before) (bytes e.before.before.before) (first e).args.j ≡ true
  is_there = sym c.there.ensures ∙ c.if-not-there.false

pub returns-then-not-right : goal.returns-then-not-right
returns-then-not-right c =
    let s = c.before.before.before.before.before.before.before.before in
    let a = s.args in let p = not_read a.width a.bytes.now a.j (out s)
    (headless a.width a.bytes.now a.j (length (out s)) (sym c.right.ensures ∙ c.if-not-right.true)) in record { value = p.0; o64_after = p.1 }

pub header_of-h-requires : goal.header_of-h-requires
header_of-h-requires c = header_long (bytes c.before) (kept c.before)

pub fits-requires : goal.fits-requires
fits-requires c = omega (arith, (opened c.before).layout.few, (opened c.before).layout.chunks)

pub returns-then-not-fits : goal.returns-then-not-fits
returns-then-not-fits c =
    let r = c.before.before.before in
    let s = start r.before in
    let a = s.args in let p = not_read a.width a.bytes.now a.j (out s)
    (unfit a.width a.bytes.now (h r) r.header_of-h.ensures (kept r.before) a.j (out s)
    (ap (chunk_fits a.width (h r) a.j) (sym s.requires.0) ∙ sym c.fits.ensures ∙ c.if-not-fits.true)) in record { value = p.0; o64_after = p.1 }

pub there-requires : goal.there-requires
there-requires c = (opened c.before.before.before, (facts c.before).0)

pub returns-then-not-there : goal.returns-then-not-there
returns-then-not-there c =
    let e = c.before.before.before in
    let r = e.before.before in
    let s = first e in
    let a = s.args in let p = not_read a.width a.bytes.now a.j (out s)
    (absent a.width a.bytes.now (h r) r.header_of-h.ensures (kept r.before) a.j (out s) (fitting e) (sym c.there.ensures ∙ c.if-not-there.true)) in record { value = p.0; o64_after = p.1 }

pub restore_chunk-requires : goal.restore_chunk-requires
restore_chunk-requires c =
    let d = c.before.before.before.before.before in
    let b = e d in
    let r = b.before.before in
    let s = first b in
    let a = s.args in
    let w = (facts b).1 in
    let t = there_facts (h r) a.bytes.now a.j (is_there d) in record {
      opened = (opened r, (facts b).0, there_placed (h r) a.bytes.now a.j (opened r).layout t.0, t.1);
      place_bound = (
        omega arith,
        omega (arith, (facts b).2, ap (λ (x : ℕ). length (chosen x a.o32.now a.o64.now)) w),
        omega (arith, s.requires.1, ap (λ (x : ℕ). length (chosen x a.c32.now a.c64.now)) w),
      );
    }

pub count_at-requires : goal.count_at-requires
count_at-requires c = let b = e c.before.before.before.before.before.before.before.before.before.before.before.before.before.before in let l = (opened b.before.before).layout in omega (arith, (facts b).0, l.few, l.chunks)

pub returns : goal.returns
returns c =
    let d = c.before.before.before.before.before.before.before.before.before.before.before.before.before.before.before in
    let b = e d in
    let r = b.before.before in
    let s = first b in
    let a = s.args in
    let w = (facts b).1 in
    let call = c.restore_chunk in
    let o32 = call.new.o32 in
    let o64 = call.new.o64 in let p = is_read a.width a.bytes.now (h r) r.header_of-h.ensures (kept r.before) a.j (out s) (fitting b) (is_there d) c.count_at.result c.count_at.ensures.0
    (chosen a.width o32 o64)
    (subst (λ (x : ℕ). chosen x o32 o64 ≡ landed 0 (chunk_values (h r) a.bytes.now a.j) (chosen x a.o32.now a.o64.now)) w call.ensures) in record { value = p.0; o64_after = p.1 }
