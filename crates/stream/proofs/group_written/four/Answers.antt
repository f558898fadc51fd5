-- The width byte, and behind it two pairs of parts.
use Rattle.std.proofs.Common.{◌≡◌, ℕ, ◌+◌, ◌-◌, ◌≤◌, List, [], ◌++◌, length, take, drop, refl, sym, ◌∙◌, arith, rules, length-append}
use mathlib.Core.List.{append-nil}
use native.Mathlib.Nat.{le_trans, le_of_eq}
use lib.ListN.{set}
use borrow.Rule.Slice.PartMut.{put_mid}
use Rattle.stream.specs.Group.{bytes_for, packed, group_bytes}
use Rattle.stream.proofs.Law.Group.Parts.{InPairs}
use Rattle.stream.proofs.Law.Group.Records.{pairs_of}
use Rattle.stream.proofs.Law.Plain.Appended.{Appended, put_within, within, lent_room, first_set, one_piece, all_there}
use Rattle.stream.proofs.group_written.four.Goals as goal

-- how far the writing has come: the width stands, then the one pair, then the other
module _ (w m n k l : ℕ) (xs ys zs us out : List ℕ) (p : InPairs w m n k l xs ys zs us) (room : length (group_bytes (xs ++ ys ++ zs ++ us)) ≤ length out) where
  begun : Appended (group_bytes (xs ++ ys ++ zs ++ us)) (packed w (xs ++ ys) ++ packed w (zs ++ us)) out (set out 0 w) 1
  begun = first_set (group_bytes (xs ++ ys ++ zs ++ us)) (packed w (xs ++ ys) ++ packed w (zs ++ us)) out w p.group_is room

  module _ (first : List ℕ) (put : ℕ) (e : put ≡ bytes_for w (m + n)) (is : first ≡ packed w (xs ++ ys) ++ drop put (take (length (set out 0 w) - 1) (drop 1 (set out 0 w)))) where
    half : Appended (group_bytes (xs ++ ys ++ zs ++ us)) (packed w (zs ++ us)) out (put_mid 1 (length (set out 0 w) - 1) (set out 0 w) first) (1 + put)
    half = one_piece _ _ _ _ _ begun (packed w (xs ++ ys)) (packed w (zs ++ us)) first put refl (e ∙ p.first_bytes_are) is

    ended : (second : List ℕ) (r : ℕ) → r ≡ bytes_for w (k + l)
        → (let o = put_mid 1 (length (set out 0 w) - 1) (set out 0 w) first in
        second ≡ packed w (zs ++ us) ++ drop r (take (length o - (1 + put)) (drop (1 + put) o))
        → Appended (group_bytes (xs ++ ys ++ zs ++ us)) [] out (put_mid (1 + put) (length o - (1 + put)) o second) (1 + put + r))
    ended second r f there =
        one_piece _ _ _ _ _ half (packed w (zs ++ us)) [] second r (sym (append-nil (packed w (zs ++ us)))) (f ∙ p.second_bytes_are) there

pub bounds-out-0 : goal.bounds-out-0
bounds-out-0 g c =
    let v = g.T.Word.values in
    let a = c.args in
    let w = c.width_four-w.result in
    let p = pairs_of g.met.T.Word.values_law w a.a a.b a.c a.d (search rules) (search rules) (search rules) (search rules) c.requires.count_bound c.requires.filled c.width_four-w.ensures.0 in
    let s = begun w _ _ _ _ _ _ _ _ a.out.now p c.requires.codes_in_bounds in
    omega (arith, within _ _ _ _ _ s, s.room)

pub slice_bounds-two-count : goal.slice_bounds-two-count
slice_bounds-two-count g c =
    let v = g.T.Word.values in
    let a = c.args in
    let w = c.width_four-w.result in
    let p = pairs_of g.met.T.Word.values_law w a.a a.b a.c a.d (search rules) (search rules) (search rules) (search rules) c.requires.count_bound c.requires.filled c.width_four-w.ensures.0 in
    put_within _ _ _ _ _ (begun w _ _ _ _ _ _ _ _ a.out.now p c.requires.codes_in_bounds)

pub slice_bounds-two-start : goal.slice_bounds-two-start
slice_bounds-two-start g c =
    let v = g.T.Word.values in
    let a = c.args in
    let w = c.width_four-w.result in
    let p = pairs_of g.met.T.Word.values_law w a.a a.b a.c a.d (search rules) (search rules) (search rules) (search rules) c.requires.count_bound c.requires.filled c.width_four-w.ensures.0 in
    put_within _ _ _ _ _ (begun w _ _ _ _ _ _ _ _ a.out.now p c.requires.codes_in_bounds)

pub two-put-requires : goal.two-put-requires
two-put-requires g c =
    let v = g.T.Word.values in
    let a = c.args in
    let w = c.width_four-w.result in
    let p = pairs_of g.met.T.Word.values_law w a.a a.b a.c a.d (search rules) (search rules) (search rules) (search rules) c.requires.count_bound c.requires.filled c.width_four-w.ensures.0 in
    let xs = take a.a.count (v a.a.codes) ++ take a.b.count (v a.b.codes) in
    let zs = take a.c.count (v a.c.codes) ++ take a.d.count (v a.d.codes) in
    let s = begun w _ _ _ _ _ _ _ _ a.out.now p c.requires.codes_in_bounds in (
      search rules,
      (
        (c.requires.count_bound.0, c.requires.count_bound.1, p.first_filled, c.width_four-w.ensures.1),
        (
          p.first_below,
          le_trans (omega (arith, p.first_bytes_are, length-append (packed w xs) (packed w zs), s.whole, s.room)) (le_of_eq (sym (lent_room _ _ _ _ _ s))),
        ),
      ),
    )

pub overflow_add-put : goal.overflow_add-put
overflow_add-put g c =
    let v = g.T.Word.values in
    let a = c.args in
    let w = c.width_four-w.result in
    let p = pairs_of g.met.T.Word.values_law w a.a a.b a.c a.d (search rules) (search rules) (search rules) (search rules) c.requires.count_bound c.requires.filled c.width_four-w.ensures.0 in
    let s = half w _ _ _ _ _ _ _ _ a.out.now p c.requires.codes_in_bounds c.two-put.new.out c.two-put.result c.two-put.ensures.value c.two-put.ensures.out_after in
    record { fits = omega (arith, within _ _ _ _ _ s, s.room, c.well_formed) }

pub slice_bounds-two-count-2 : goal.slice_bounds-two-count-2
slice_bounds-two-count-2 g c =
    let v = g.T.Word.values in
    let a = c.args in
    let w = c.width_four-w.result in
    let p = pairs_of g.met.T.Word.values_law w a.a a.b a.c a.d (search rules) (search rules) (search rules) (search rules) c.requires.count_bound c.requires.filled c.width_four-w.ensures.0 in
    put_within _ _ _ _ _ (half w _ _ _ _ _ _ _ _ a.out.now p c.requires.codes_in_bounds c.two-put.new.out c.two-put.result c.two-put.ensures.value c.two-put.ensures.out_after)

pub slice_bounds-two-start-2 : goal.slice_bounds-two-start-2
slice_bounds-two-start-2 g c =
    let v = g.T.Word.values in
    let a = c.args in
    let w = c.width_four-w.result in
    let p = pairs_of g.met.T.Word.values_law w a.a a.b a.c a.d (search rules) (search rules) (search rules) (search rules) c.requires.count_bound c.requires.filled c.width_four-w.ensures.0 in
    put_within _ _ _ _ _ (half w _ _ _ _ _ _ _ _ a.out.now p c.requires.codes_in_bounds c.two-put.new.out c.two-put.result c.two-put.ensures.value c.two-put.ensures.out_after)

pub two-requires : goal.two-requires
two-requires g c =
    let v = g.T.Word.values in
    let a = c.args in
    let w = c.width_four-w.result in
    let p = pairs_of g.met.T.Word.values_law w a.a a.b a.c a.d (search rules) (search rules) (search rules) (search rules) c.requires.count_bound c.requires.filled c.width_four-w.ensures.0 in
    let s = half w _ _ _ _ _ _ _ _ a.out.now p c.requires.codes_in_bounds c.two-put.new.out c.two-put.result c.two-put.ensures.value c.two-put.ensures.out_after in (
      search rules,
      (
        (c.requires.count_bound.2, c.requires.count_bound.3, c.requires.filled.2, c.width_four-w.ensures.1),
        (
          p.second_below,
          le_trans (omega (arith, p.second_bytes_are, s.whole, s.room)) (le_of_eq (sym (lent_room _ _ _ _ _ s))),
        ),
      ),
    )

pub overflow_add-result : goal.overflow_add-result
overflow_add-result g c =
    let v = g.T.Word.values in
    let a = c.args in
    let w = c.width_four-w.result in
    let p = pairs_of g.met.T.Word.values_law w a.a a.b a.c a.d (search rules) (search rules) (search rules) (search rules) c.requires.count_bound c.requires.filled c.width_four-w.ensures.0 in
    let s = ended w _ _ _ _ _ _ _ _ a.out.now p c.requires.codes_in_bounds c.two-put.new.out c.two-put.result c.two-put.ensures.value c.two-put.ensures.out_after c.two.new.out c.two.result c.two.ensures.value c.two.ensures.out_after in
    record { fits = omega (arith, within _ _ _ _ _ s, s.room, c.well_formed) }

pub returns-clause-value : goal.returns-clause-value
returns-clause-value g c =
    let v = g.T.Word.values in
    let a = c.args in
    let w = c.width_four-w.result in
    let p = pairs_of g.met.T.Word.values_law w a.a a.b a.c a.d (search rules) (search rules) (search rules) (search rules) c.requires.count_bound c.requires.filled c.width_four-w.ensures.0 in
    let s = ended w _ _ _ _ _ _ _ _ a.out.now p c.requires.codes_in_bounds c.two-put.new.out c.two-put.result c.two-put.ensures.value c.two-put.ensures.out_after c.two.new.out c.two.result c.two.ensures.value c.two.ensures.out_after in
    omega (arith, s.whole)

pub returns-clause-out_after : goal.returns-clause-out_after
returns-clause-out_after g c =
    let v = g.T.Word.values in
    let a = c.args in
    let w = c.width_four-w.result in
    let p = pairs_of g.met.T.Word.values_law w a.a a.b a.c a.d (search rules) (search rules) (search rules) (search rules) c.requires.count_bound c.requires.filled c.width_four-w.ensures.0 in
    all_there _ _ _ _ (ended w _ _ _ _ _ _ _ _ a.out.now p c.requires.codes_in_bounds c.two-put.new.out c.two-put.result c.two-put.ensures.value c.two-put.ensures.out_after c.two.new.out c.two.result c.two.ensures.value c.two.ensures.out_after)
