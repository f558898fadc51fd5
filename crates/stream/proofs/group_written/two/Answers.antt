-- The first part is whole bytes, or all there is.
use Rattle.std.proofs.Common.{◌≡◌, ℕ, ◌+◌, ◌-◌, ◌^◌, ◌≤◌, List, [], ◌++◌, length, take, drop, sym, ap, ◌∙◌, arith, rules}
use mathlib.Core.List.{append-nil}
use native.Mathlib.Nat.{le_trans, le_of_eq}
use borrow.Rule.Slice.PartMut.{put_mid}
use Rattle.stream.specs.Group.{bytes_for, packed}
use Rattle.stream.specs.Block.{Filled}
use Rattle.stream.proofs.Law.Group.RoundTrip.{length_packed}
use Rattle.stream.proofs.Law.Group.Parts.{one_full, bytes_append, below_left, below_right, two_long, two_packed}
use Rattle.stream.proofs.Law.Group.Records.{counts_of}
use Rattle.stream.proofs.Law.Plain.Appended.{Appended, put_within, lent_room, first_piece, one_piece, all_there}
use Rattle.stream.proofs.group_written.two.Goals as goal

-- two lists of codes, of as many as m and n say
module _ (w m n : ℕ) (xs ys out : List ℕ) (is_a : length xs ≡ m) (is_b : length ys ≡ n) (filled : Filled m n) (room : bytes_for w (m + n) ≤ length out) where
  sum : bytes_for w (m + n) ≡ bytes_for w m + bytes_for w n
  sum = bytes_append w m n (one_full m n filled)

  length_b : bytes_for w n ≡ length (packed w ys)
  length_b = sym (length_packed w ys ∙ ap (bytes_for w) is_b)

  -- the first part stands
  begun : (new : List ℕ) (put : ℕ) → put ≡ bytes_for w m → new ≡ packed w xs ++ drop put out → Appended (packed w xs ++ packed w ys) (packed w ys) out new put
  begun new put e =
      first_piece (packed w xs) (packed w ys) out new put (le_trans (le_of_eq (two_long w m n xs ys is_a is_b (one_full m n filled))) room)
      (e ∙ sym (length_packed w xs ∙ ap (bytes_for w) is_a))

  -- and then the second
  ended : (new : List ℕ) (put : ℕ) → put ≡ bytes_for w m → new ≡ packed w xs ++ drop put out
      → (behind : List ℕ) (r : ℕ) → r ≡ bytes_for w n → behind ≡ packed w ys ++ drop r (take (length new - put) (drop put new))
      → Appended (packed w xs ++ packed w ys) [] out (put_mid put (length new - put) new behind) (put + r)
  ended new put e is behind r f =
      one_piece _ _ _ _ _ (begun new put e is) (packed w ys) [] behind r (sym (append-nil (packed w ys))) (f ∙ length_b)

pub part-put-requires : goal.part-put-requires
part-put-requires g c =
    let a = c.args in
    let q = c.requires in (
      search rules,
      (
        q.count_bound.0,
        q.count_bound.3,
        below_left (2 ^ a.w) (take a.a.count (g.T.Word.values a.a.codes)) (take a.b.count (g.T.Word.values a.b.codes)) q.below.0,
        omega (arith, bytes_append a.w a.a.count a.b.count (one_full a.a.count a.b.count q.count_bound.2), q.below.1),
      ),
    )

pub slice_bounds-part-count : goal.slice_bounds-part-count
slice_bounds-part-count g c =
    let law = g.met.T.Word.values_law in
    let v = g.T.Word.values in
    let a = c.args in
    let q = c.requires in
    put_within _ _ _ _ _ (begun a.w a.a.count a.b.count (take a.a.count (v a.a.codes)) (take a.b.count (v a.b.codes)) a.out.now
    (counts_of law a.a (search rules) q.count_bound.0) (counts_of law a.b (search rules) q.count_bound.1) q.count_bound.2 q.below.1
    c.part-put.new.out c.part-put.result c.part-put.ensures.value c.part-put.ensures.out_after)

pub slice_bounds-part-start : goal.slice_bounds-part-start
slice_bounds-part-start g c =
    let law = g.met.T.Word.values_law in
    let v = g.T.Word.values in
    let a = c.args in
    let q = c.requires in
    put_within _ _ _ _ _ (begun a.w a.a.count a.b.count (take a.a.count (v a.a.codes)) (take a.b.count (v a.b.codes)) a.out.now
    (counts_of law a.a (search rules) q.count_bound.0) (counts_of law a.b (search rules) q.count_bound.1) q.count_bound.2 q.below.1
    c.part-put.new.out c.part-put.result c.part-put.ensures.value c.part-put.ensures.out_after)

pub part-requires : goal.part-requires
part-requires g c =
    let law = g.met.T.Word.values_law in
    let v = g.T.Word.values in
    let a = c.args in
    let q = c.requires in
    let xs = take a.a.count (v a.a.codes) in
    let ys = take a.b.count (v a.b.codes) in
    let is_a = counts_of law a.a (search rules) q.count_bound.0 in
    let is_b = counts_of law a.b (search rules) q.count_bound.1 in
    let s = begun a.w a.a.count a.b.count xs ys a.out.now is_a is_b q.count_bound.2 q.below.1 c.part-put.new.out c.part-put.result c.part-put.ensures.value c.part-put.ensures.out_after in (
      search rules,
      (
        q.count_bound.1,
        q.count_bound.3,
        below_right (2 ^ a.w) xs ys q.below.0,
        rw (lent_room _ _ _ _ _ s) (omega (arith, length_b a.w a.a.count a.b.count xs ys a.out.now is_a is_b q.count_bound.2 q.below.1, s.whole, s.room)),
      ),
    )

pub overflow_add-result : goal.overflow_add-result
overflow_add-result g c =
    let a = c.args in
    record { fits = omega (arith, bytes_append a.w a.a.count a.b.count (one_full a.a.count a.b.count c.requires.count_bound.2), c.requires.below.1, c.part-put.ensures.value, c.part.ensures.value, c.well_formed) }

pub returns-clause-value : goal.returns-clause-value
returns-clause-value g c =
    let a = c.args in
    omega (arith, bytes_append a.w a.a.count a.b.count (one_full a.a.count a.b.count c.requires.count_bound.2), c.part-put.ensures.value, c.part.ensures.value)

pub returns-clause-out_after : goal.returns-clause-out_after
returns-clause-out_after g c =
    let law = g.met.T.Word.values_law in
    let v = g.T.Word.values in
    let a = c.args in
    let q = c.requires in
    let xs = take a.a.count (v a.a.codes) in
    let ys = take a.b.count (v a.b.codes) in
    let is_a = counts_of law a.a (search rules) q.count_bound.0 in
    let is_b = counts_of law a.b (search rules) q.count_bound.1 in
    all_there _ _ _ _ (ended a.w a.a.count a.b.count xs ys a.out.now is_a is_b q.count_bound.2 q.below.1 c.part-put.new.out c.part-put.result c.part-put.ensures.value c.part-put.ensures.out_after c.part.new.out c.part.result c.part.ensures.value c.part.ensures.out_after)
    ∙ ap (λ (l : List ℕ). l ++ drop (c.part-put.result + c.part.result) a.out.now)
    (sym (two_packed a.w a.a.count a.b.count xs ys is_a is_b (one_full a.a.count a.b.count q.count_bound.2) (below_left (2 ^ a.w) xs ys q.below.0)))
