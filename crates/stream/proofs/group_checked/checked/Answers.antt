-- `checked` meets its contract: each test that fails breaks a fact of a good group, and where none fails all of them hold.
-- Assumes nothing.
use mathlib.Core.Path.{◌≡◌, sym, ap, ◌∙◌}
use mathlib.Core.Bool.{false≢true}
use mathlib.Core.List.{List}
use Prim.Native.Nat.{ℕ, suc, ◌+◌, ◌-◌, ◌*◌, ◌/◌, ◌^◌, ◌≤◌}
use native.Mathlib.Nat.{mul-le-mul}
use native.Mathlib.Numerals.{one-add}
use native.Mathlib.Omega.{arith}
use borrow.Author.Tests.{eq-eqb, eqb-true}
use lib.ListN.{length}
use Rattle.stream.specs.Group.{bytes_for, width_of, given_width, group_length, group_number, group_codes}
use Rattle.stream.proofs.Law.Group.Exact.{within_limited, limited_within}
use Rattle.stream.proofs.Law.Group.Checking.{padding, unpadded_zero, zero_unpadded, bad_answer, good_answer, zero_length, zero_good}
use Rattle.stream.proofs.group_checked.checked.Goals as goal
use Rattle.stream.proofs.group_checked.checked.Lts as lts
use Rattle.stream.proofs.group_checked.checked.Reads as reads
use Rattle.stream.proofs.group_checked.checked.Tie as tie

abbrev Start : Type 0
Start = lts.Start tie.the-claims reads.Pre reads.Post

abbrev After-wide : Type 0
After-wide = lts.After-wide tie.the-claims reads.Pre reads.Post

abbrev Else2 : Type 0
Else2 = lts.Else2 tie.the-claims reads.Pre reads.Post

abbrev Else3 : Type 0
Else3 = lts.Else3 tie.the-claims reads.Pre reads.Post

abbrev After-wide2 : Type 0
After-wide2 = lts.After-wide2 tie.the-claims reads.Pre reads.Post

-- the places that the facts below are known at
abbrev entry : After-wide → Start
entry c = c.before.before.before.before

abbrev byte-read : After-wide2 → After-wide
byte-read c = c.before.before.before.before.before

-- the width byte is what the definitions read
width_is : (c : After-wide) → c.wide-w.result ≡ given_width (entry c).args.s.now
unfolding given_width
width_is c = c.wide-w.ensures.0

small : (c : Else2) → (c.wide-w.result ≤ 64) × (c.wide-w.result * (entry c.before).args.n ≤ 64 * 128)
small c =
    let narrow : c.wide-w.result ≤ 64 = omega (arith, (entry c.before).requires.1, c.if-width-w.false) in
    (narrow, mul-le-mul narrow (entry c.before).requires.0)

-- the bytes that the group takes, as the code counts them
length_is : (c : After-wide) → suc (bytes_for c.wide-w.result (entry c).args.n) ≡ group_length (entry c).args.n (entry c).args.s.now
unfolding group_length
length_is c = ap (λ (w : ℕ). suc (bytes_for w (entry c).args.n)) (width_is c)

whole : (c : Else3) → group_length (entry c.before.before).args.n (entry c.before.before).args.s.now ≤ length (entry c.before.before).args.s.now
unfolding bytes_for
whole c = omega (arith, c.if-s-end.false, length_is c.before.before)

-- the padding, as the code tests it
padding_is : (c : After-wide2)
    → group_number (entry (byte-read c)).args.n (entry (byte-read c)).args.s.now / 2 ^ ((byte-read c).wide-w.result * (entry (byte-read c)).args.n)
    ≡ c.wide.result / 2 ^ (8 + (byte-read c).wide-w.result * (entry (byte-read c)).args.n - 8 * bytes_for (byte-read c).wide-w.result (entry (byte-read c)).args.n)
unfolding bytes_for
padding_is c =
    let a = (entry (byte-read c)).args in
    let w : ℕ = (byte-read c).wide-w.result in
    padding a.s.now a.n w (λ i. (c.shared_slice_known-3-1.given i).fits) (width_is (byte-read c))
    ∙ ap (λ (x : ℕ). x / 2 ^ (8 + w * a.n - 8 * bytes_for w a.n)) (sym c.wide.ensures.0)

pub returns-then-s-eq0 : goal.returns-then-s-eq0
unfolding group_length
returns-then-s-eq0 c = bad_answer (λ g. omega (arith, g.whole, c.if-s-eq0.true))

pub returns-then-width-w : goal.returns-then-width-w
returns-then-width-w c = bad_answer (λ g. omega (arith, g.wide, c.if-width-w.true, width_is c.before.before))

pub overflow_mul-bits : goal.overflow_mul-bits
overflow_mul-bits c = omega (arith, (small c.before).1)

pub overflow_add-end : goal.overflow_add-end
overflow_add-end c = omega (arith, (small c.before).1)

pub returns-then-s-end : goal.returns-then-s-end
unfolding bytes_for
returns-then-s-end c = bad_answer (λ g. omega (arith, g.whole, c.if-s-end.true, length_is c.before.before.before))

pub returns-then-w-eq0 : goal.returns-then-w-eq0
returns-then-w-eq0 c =
    let a = c.args in
    let none = sym (width_is c.before.before.before.before) ∙ c.if-w-eq0.true in
    good_answer 1
    (zero_good a.n a.s.now none a.width a.limit (omega arith)) (sym (zero_length a.n a.s.now none))

pub overflow_add-bits : goal.overflow_add-bits
overflow_add-bits c = omega (arith, (small c.before.before.before.before.before).1)

pub overflow_mul-end : goal.overflow_mul-end
overflow_mul-end c = omega (arith, (small c.before.before.before.before.before).1)

pub returns-then-wide-bits-ne0 : goal.returns-then-wide-bits-ne0
unfolding bytes_for
returns-then-wide-bits-ne0 c =
    let b = c.before.before in
    let a = (entry (byte-read b)).args in
    bad_answer
    (λ g. c.if-wide-bits-ne0.true (sym (padding_is b) ∙ unpadded_zero a.n (byte-read b).wide-w.result a.s.now (width_is (byte-read b)) g.unpadded))

pub smallest-requires : goal.smallest-requires
smallest-requires c =
    let f = c.before in (
      f.requires.0,
      omega arith,
      (small c.before.before.before.before.before.before).0,
      width_is c.before.before.before.before.before.before.before,
      whole c.before.before.before.before.before,
    )

pub returns-then-not-smallest : goal.returns-then-not-smallest
returns-then-not-smallest c =
    let b = c.before.before.before.before in
    let a = (entry (byte-read b)).args in
    bad_answer
    (λ g. false≢true (sym c.if-not-smallest.true ∙ c.smallest.ensures
    ∙ eq-eqb (byte-read b).wide-w.result (width_of (group_codes a.n a.s.now)) (width_is (byte-read b) ∙ g.smallest)))

pub limit_kept-requires : goal.limit_kept-requires
limit_kept-requires c =
    let f = c.before in (
      f.requires.0,
      omega arith,
      (small c.before.before.before.before.before.before.before.before).0,
      width_is c.before.before.before.before.before.before.before.before.before,
      whole c.before.before.before.before.before.before.before,
    )

pub returns-then-not-limit_kept : goal.returns-then-not-limit_kept
returns-then-not-limit_kept c =
    let a = (entry (byte-read c.before.before.before.before.before.before)).args in
    bad_answer
    (λ g. false≢true (sym c.if-not-limit_kept.true ∙ c.limit_kept.ensures ∙ limited_within a.limit (group_codes a.n a.s.now) g.limited))

pub returns : goal.returns
unfolding bytes_for
returns c =
    let b = c.before.before.before.before.before.before in
    let a = (entry (byte-read b)).args in
    let w : ℕ = (byte-read b).wide-w.result in
    let cs : List ℕ = group_codes a.n a.s.now in
    let is = width_is (byte-read b) in
    good_answer (1 + bytes_for w a.n)
    (record {
      wide = omega (arith, is, b.if-width-w.false);
      whole = whole b.before.before.before;
      smallest = sym is ∙ eqb-true w (width_of cs) (sym c.smallest.ensures ∙ c.if-not-smallest.false);
      unpadded = zero_unpadded a.n w a.s.now is (padding_is b ∙ c.if-wide-bits-ne0.false);
      limited = within_limited a.limit cs (sym c.limit_kept.ensures ∙ c.if-not-limit_kept.false);
    })
    (one-add (bytes_for w a.n) ∙ length_is (byte-read b))
