-- A list of bytes written piece by piece over what was there: what is left to write decides how far it has come.
use mathlib.Core.Path.{◌≡◌, refl, sym, ap, ap₂, subst, ◌∙◌}
use mathlib.Core.List.{List, [], ◌∷◌, ◌++◌, append_assoc, append-nil}
use Prim.Native.Nat.{ℕ, ◌+◌, ◌-◌, ◌≤◌}
use native.Mathlib.Nat.{zero-add}
use native.Mathlib.Numerals.{one-add}
use native.Mathlib.Omega.{arith}
use lib.ListN.{length, take, drop, set, length-append, length-drop, drop_of_length-le}
use lib.Seq.{take_at, drop_at, drop-drop, take_all, take-add, length-take-le}
use borrow.Rule.Slice.PartMut.{put_mid}
use Rattle.numbers.specs.Difference.{last_of}
use Rattle.numbers.proofs.Theorems.{an_append_carries_on}
use Rattle.stream.specs.Lent.{landed}

-- new elements, written into the part from `at` on
pub landed_mid : (at n : ℕ) (new out ys : List ℕ) → length new ≡ n → ys ≡ new ++ drop n (take (length out - at) (drop at out))
    → put_mid at (length out - at) out ys ≡ landed at new out
unfolding landed
landed_mid at n new out ys l is =
    ap (λ (t : List ℕ). take at out ++ t)
    (ap₂ ◌++◌
    (is
    ∙ ap (λ (t : List ℕ). new ++ drop n t) (take_all (length out - at) (drop at out) (rw (length-drop at out) (omega arith)))
    ∙ ap (λ (t : List ℕ). new ++ t) (drop-drop n at out ∙ ap (λ (m : ℕ). drop (at + m) out) (sym l)))
    (drop_of_length-le (drop at out) {i = length out - at} (rw (length-drop at out) (omega arith)))
    ∙ append-nil (new ++ drop (at + length new) out))
    ∙ sym (append_assoc (take at out) new (drop (at + length new) out))

-- what stands before the place behind them
pub carried_on : (at n : ℕ) (new out now : List ℕ) → length new ≡ n → at ≤ length out → now ≡ landed at new out
    → last_of 0 (take (at + n) now) ≡ last_of (last_of 0 (take at out)) new
unfolding landed
carried_on at n new out now l h is =
    ap (last_of 0)
    (ap (take (at + n)) is
    ∙ take_at (take at out ++ new) (drop (at + length new) out) (at + n) (length-append (take at out) new ∙ ap₂ ◌+◌ (length-take-le at out h) l))
    ∙ an_append_carries_on 0 (take at out) new

-- Of `all`, the first `put` bytes stand in `out`, which was `base`; `rest` is still to come.
pub record Appended (all rest base out : List ℕ) (put : ℕ) : Type 0 where
  pub whole : put + length rest ≡ length all
  pub left : drop put all ≡ rest
  pub out_is : out ≡ take put all ++ drop put base
  pub room : length all ≤ length base

pub nothing_yet : (all base : List ℕ) → length all ≤ length base → Appended all all base base 0
nothing_yet all base h = record { whole = zero-add (length all); left = refl; out_is = refl; room = h }

-- the first piece, written over the front
pub first_piece : (piece more base out : List ℕ) (r : ℕ) → length (piece ++ more) ≤ length base → r ≡ length piece → out ≡ piece ++ drop r base
    → Appended (piece ++ more) more base out r
first_piece piece more base out r h l is = record {
  whole = let e : length (piece ++ more) ≡ length piece + length more = length-append piece more in omega arith;
  left = drop_at piece more r (sym l);
  out_is = is ∙ ap (λ (t : List ℕ). t ++ drop r base) (sym (take_at piece more r (sym l)));
  room = h;
}

-- or the first byte alone
pub first_set : (all rest base : List ℕ) (x : ℕ) → all ≡ x ∷ rest → length all ≤ length base → Appended all rest base (set base 0 x) 1
first_set all rest [] x e h = absurd (omega (arith, ap length e))
first_set all rest (b ∷ base) x e h = record {
  whole = one-add (length rest) ∙ sym (ap length e);
  left = ap (drop 1) e;
  out_is = sym (ap (λ (t : List ℕ). take 1 t ++ base) e);
  room = h;
}

-- nothing is left to write
pub all_put : (all rest base out : List ℕ) (put : ℕ) → Appended all rest base out put → length all ≤ put → out ≡ all ++ drop put base
all_put all rest base out put a h = a.out_is ∙ ap (λ (t : List ℕ). t ++ drop put base) (take_all put all h)

pub all_there : (all base out : List ℕ) (put : ℕ) → Appended all [] base out put → out ≡ all ++ drop put base
all_there all base out put a = all_put all [] base out put a (omega (arith, a.whole))

module _ (all rest base out : List ℕ) (put : ℕ) (a : Appended all rest base out put) where
  pub within : put ≤ length all
  within = omega (arith, a.whole)

  front : take put out ≡ take put all
  front = ap (take put) a.out_is ∙ take_at (take put all) (drop put base) put (length-take-le put all within)

  behind : drop put out ≡ drop put base
  behind = ap (drop put) a.out_is ∙ drop_at (take put all) (drop put base) put (length-take-le put all within)

  -- the output keeps its length
  pub same_room : length out ≡ length base
  same_room =
      ap length a.out_is
      ∙ length-append (take put all) (drop put base)
      ∙ ap₂ ◌+◌ (length-take-le put all within) (length-drop put base)
      ∙ (let e : put + (length base - put) ≡ length base = omega (arith, within, a.room) in e)

  -- what is lent to the next piece
  pub lent_is : take (length out - put) (drop put out) ≡ drop put out
  lent_is = take_all (length out - put) (drop put out) (rw (length-drop put out) (omega arith))

  pub lent_room : length (take (length out - put) (drop put out)) ≡ length base - put
  lent_room = ap length (lent_is ∙ behind) ∙ length-drop put base

  pub put_within : put ≤ length out
  put_within = omega (arith, within, same_room, a.room)

  -- the next piece has room there
  pub piece_fits : (piece more : List ℕ) → rest ≡ piece ++ more → length piece ≤ length (take (length out - put) (drop put out))
  piece_fits piece more e =
      let q : length rest ≡ length piece + length more = ap length e ∙ length-append piece more in
      omega (arith, lent_room, a.whole, a.room)

  -- the next piece, written into the part from `put` on
  pub one_piece : (piece more ys : List ℕ) (r : ℕ) → rest ≡ piece ++ more → r ≡ length piece
      → ys ≡ piece ++ drop r (take (length out - put) (drop put out))
      → Appended all more base (put_mid put (length out - put) out ys) (put + r)
  one_piece piece more ys r e l is = record {
    whole = let w : put + length rest ≡ length all = a.whole in let q : length rest ≡ length piece + length more = ap length e ∙ length-append piece more in omega arith;
    left = sym (drop-drop r put all) ∙ ap (drop r) (a.left ∙ e) ∙ drop_at piece more r (sym l);
    out_is =
        ap₂ (λ (x y : List ℕ). x ++ (ys ++ y)) front (drop_of_length-le (drop put out) {i = length out - put} (rw (length-drop put out) (omega arith)))
        ∙ ap (λ (y : List ℕ). take put all ++ y) (append-nil ys ∙ is ∙ ap (λ (t : List ℕ). piece ++ drop r t) (lent_is ∙ behind))
        ∙ sym (append_assoc (take put all) piece (drop r (drop put base)))
        ∙ ap₂ ◌++◌
        (sym (take-add put r all ∙ ap (λ (t : List ℕ). take put all ++ t) (ap (take r) (a.left ∙ e) ∙ take_at piece more r (sym l))))
        (drop-drop r put base);
    room = a.room;
  }

  pub one_landed : (piece more now : List ℕ) (r : ℕ) → rest ≡ piece ++ more → r ≡ length piece → now ≡ landed put piece out → Appended all more base now (put + r)
  one_landed piece more now r e l is =
      let ys : List ℕ = piece ++ drop r (take (length out - put) (drop put out)) in
      subst (λ (o : List ℕ). Appended all more base o (put + r)) (landed_mid put r piece out ys (sym l) refl ∙ sym is) (one_piece piece more ys r e l refl)
