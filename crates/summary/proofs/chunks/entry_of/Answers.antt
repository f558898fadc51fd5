-- `summary::chunks::entry_of` meets its contract.
use Rattle.std.specs.Prelude.{Some, is_some}
use mathlib.Core.Bool.{true}
use Prim.Native.Nat.{ℕ, ◌≤◌}
use mathlib.Core.List.{List}
use mathlib.Core.Path.{◌≡◌, refl, sym, ap, ◌∙◌}
use native.Mathlib.Omega.{arith}
use lib.ListN.{length, take}
use lib.Seq.{length-take-le}
use Rattle.stream.specs.Setting.{fraction_bits}
use Rattle.stream.specs.Stream.{count_of, chunk_values}
use Rattle.stream.specs.Access.{chunk_read}
use Rattle.stream.proofs.Law.Setting.Allowed.{width_other}
use Rattle.stream.proofs.Law.Lent.Chosen.{at_32, at_other}
use Rattle.summary.specs.Private.{entry_says}
use Rattle.summary.specs.declared.entry.Entry.{Entry}
use Rattle.stream.proofs.Law.Plain.Truth.{given_some}
use Rattle.summary.proofs.Law.Stream.{known, count_few, read_there, read_values}
use Rattle.summary.proofs.chunks.entry_of.Goals as goal
use Rattle.summary.proofs.chunks.entry_of.Lts as lts
use Rattle.summary.proofs.chunks.entry_of.Reads as reads
use Rattle.summary.proofs.chunks.entry_of.Tie as tie

abbrev Start : Type 0
Start = lts.Start tie.the-claims reads.Pre reads.Post tie.handed_clauses

abbrev After-unwrap : Type 0
After-unwrap = lts.After-unwrap tie.the-claims reads.Pre reads.Post tie.handed_clauses

abbrev After-unwrap2 : Type 0
After-unwrap2 = lts.After-unwrap2 tie.the-claims reads.Pre reads.Post tie.handed_clauses

-- width 32: how many values were read, and that they are the chunk's
module _ (c : After-unwrap) where
  abbrev start32 : Start
  start32 = c.before.before.before.before.before.before.before.before.before.before

  abbrev old32 : List ℕ
  old32 = start32.args.v32.now

  abbrev new32 : List ℕ
  new32 = c.values32.new.out

  width32 : start32.args.h.width ≡ 32
  width32 = c.if-h-eq32.true

  room32 : 1024 ≤ length old32
  room32 = omega (arith, start32.requires.2, ap length (at_32 start32.args.h.width start32.args.v32.now start32.args.v64.now c.if-h-eq32.true))

  there32 : chunk_read 32 start32.args.bytes.now start32.args.j (length old32) ≡ Some (count_of start32.args.h start32.args.j)
  there32 = read_there start32.args.h start32.args.bytes.now start32.requires.0 start32.args.j start32.requires.1 old32 room32 32 width32

  count32 : c.unwrap-n.result ≡ count_of start32.args.h start32.args.j
  count32 = (given_some true _ _ (sym c.unwrap-n.ensures ∙ c.values32.ensures.value ∙ there32)).1

  values32 : take c.unwrap-n.result new32 ≡ chunk_values start32.args.h start32.args.bytes.now start32.args.j
  values32 =
      ap (take c.unwrap-n.result) c.values32.ensures.out_after
      ∙ read_values start32.args.h start32.args.bytes.now start32.requires.0 start32.args.j start32.requires.1 old32 room32 32 width32 c.unwrap-n.result count32

  fits32 : c.unwrap-n.result ≤ length new32
  fits32 = omega (arith, count32, count_few start32.args.h start32.args.j, room32, c.values32.auto.out)

-- width 64: how many values were read, and that they are the chunk's
module _ (c : After-unwrap2) where
  abbrev start64 : Start
  start64 = c.before.before.before.before.before.before.before.before.before.before

  abbrev old64 : List ℕ
  old64 = start64.args.v64.now

  abbrev new64 : List ℕ
  new64 = c.values64.new.out

  width64 : start64.args.h.width ≡ 64
  width64 = width_other start64.args.h.width (known start64.args.h start64.args.bytes.now start64.requires.0) c.if-h-eq32.false

  room64 : 1024 ≤ length old64
  room64 = omega (arith, start64.requires.2, ap length (at_other start64.args.h.width start64.args.v32.now start64.args.v64.now c.if-h-eq32.false))

  there64 : chunk_read 64 start64.args.bytes.now start64.args.j (length old64) ≡ Some (count_of start64.args.h start64.args.j)
  there64 = read_there start64.args.h start64.args.bytes.now start64.requires.0 start64.args.j start64.requires.1 old64 room64 64 width64

  count64 : c.unwrap-n-2.result ≡ count_of start64.args.h start64.args.j
  count64 = (given_some true _ _ (sym c.unwrap-n-2.ensures ∙ c.values64.ensures.value ∙ there64)).1

  values64 : take c.unwrap-n-2.result new64 ≡ chunk_values start64.args.h start64.args.bytes.now start64.args.j
  values64 =
      ap (take c.unwrap-n-2.result) c.values64.ensures.out_after
      ∙ read_values start64.args.h start64.args.bytes.now start64.requires.0 start64.args.j start64.requires.1 old64 room64 64 width64 c.unwrap-n-2.result count64

  fits64 : c.unwrap-n-2.result ≤ length new64
  fits64 = omega (arith, count64, count_few start64.args.h start64.args.j, room64, c.values64.auto.out)

-- the entry of the values, in the words of the header's width
said : (W w m : ℕ) (e : Entry) (vs ws : List ℕ) → W ≡ w → fraction_bits w ≡ m → ws ≡ vs → entry_says e w m ws → entry_says e W (fraction_bits W) vs
said W w m e vs ws is bits same says = rw (is, bits, ← same) says

pub unwrap-n-requires : goal.unwrap-n-requires
unwrap-n-requires c =
    let a = c.args in
    let room : 1024 ≤ length a.v32.now = omega (arith, c.requires.2, ap length (at_32 a.h.width a.v32.now a.v64.now c.if-h-eq32.true)) in
    ap is_some (c.values32.ensures.value ∙ read_there a.h a.bytes.now c.requires.0 a.j c.requires.1 a.v32.now room 32 c.if-h-eq32.true)

pub slice_bounds-summed-end : goal.slice_bounds-summed-end
slice_bounds-summed-end c = fits32 c.before

pub slice_bounds-summed-end-then-h-eq32 : goal.slice_bounds-summed-end-then-h-eq32
slice_bounds-summed-end-then-h-eq32 c = sym (length-take-le c.unwrap-n.result (new32 c.before) (fits32 c.before))

pub summed-requires : goal.summed-requires
summed-requires c = let d = c.before in rw (length-take-le d.unwrap-n.result (new32 d) (fits32 d)) (omega (arith, count32 d, count_few (start32 d).args.h (start32 d).args.j))

pub returns-then-h-eq32 : goal.returns-then-h-eq32
unfolding fraction_bits
returns-then-h-eq32 c = let d = c.before.before in said (start32 d).args.h.width 32 23 c.summed.result (chunk_values (start32 d).args.h (start32 d).args.bytes.now (start32 d).args.j) (take d.unwrap-n.result (new32 d)) (width32 d) refl (values32 d) c.summed.ensures

pub unwrap-n-requires-2 : goal.unwrap-n-requires-2
unwrap-n-requires-2 c =
    let a = c.args in
    let room : 1024 ≤ length a.v64.now = omega (arith, c.requires.2, ap length (at_other a.h.width a.v32.now a.v64.now c.if-h-eq32.false)) in
    ap is_some (c.values64.ensures.value ∙ read_there a.h a.bytes.now c.requires.0 a.j c.requires.1 a.v64.now room 64 (width_other a.h.width (known a.h a.bytes.now c.requires.0) c.if-h-eq32.false))

pub slice_bounds-summed-end-2 : goal.slice_bounds-summed-end-2
slice_bounds-summed-end-2 c = fits64 c.before

pub slice_bounds-summed-end-3 : goal.slice_bounds-summed-end-3
slice_bounds-summed-end-3 c = sym (length-take-le c.unwrap-n-2.result (new64 c.before) (fits64 c.before))

pub summed-requires-2 : goal.summed-requires-2
summed-requires-2 c = let d = c.before in rw (length-take-le d.unwrap-n-2.result (new64 d) (fits64 d)) (omega (arith, count64 d, count_few (start64 d).args.h (start64 d).args.j))

pub returns : goal.returns
unfolding fraction_bits
returns c = let d = c.before.before in said (start64 d).args.h.width 64 52 c.summed-2.result (chunk_values (start64 d).args.h (start64 d).args.bytes.now (start64 d).args.j) (take d.unwrap-n-2.result (new64 d)) (width64 d) refl (values64 d) c.summed-2.ensures
