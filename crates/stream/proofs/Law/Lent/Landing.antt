-- Each chunk's values land behind those of the chunks before it.
use mathlib.Core.Path.{◌≡◌, refl, sym, ap, ap₂, subst, ◌∙◌}
use mathlib.Core.Bool.{Bool, true, false, cond}
use mathlib.Core.List.{List, ◌++◌, append_assoc, append-nil}
use Prim.Native.Nat.{ℕ, suc, ◌+◌, ◌-◌, ◌*◌, ◌≤◌, ◌<◌, min}
use native.Mathlib.Numerals.{add-one}
use native.Mathlib.Omega.{arith}
use borrow.Rule.Slice.PartMut.{put_mid, same_len_mid}
use lib.Dec.{eqb}
use lib.ListN.{length, take, drop, length-append, length-take, length-drop, drop_of_length-le}
use lib.Seq.{take_at, drop_at, take_all, drop-drop}
use Rattle.stream.specs.Stream.{joined, count_of, chunk_of, chunk_values, values_in}
use Rattle.stream.specs.Setting.{group_size}
use Rattle.stream.specs.Chunk.{whole_chunk}
use Rattle.stream.specs.Header.{setting_in}
use Rattle.stream.specs.Rows.{first}
use Rattle.stream.specs.Operations.{chunk_rows}
use Rattle.stream.specs.Relied.{Layout, Placed, Readable}
use Rattle.std.specs.Prelude.{Ok}
use Rattle.stream.specs.declared.header.Header.{Header}
use Rattle.stream.specs.Lent.{chosen, landed}
use Rattle.stream.proofs.Law.Values.Counts.{length_chunk}
use Rattle.stream.proofs.Law.Plain.Appended.{landed_mid}
use Rattle.stream.proofs.Law.Tables.Starts.{placed}
use Rattle.stream.proofs.Law.Chunk.LongerBytes.{state_whole}
use Rattle.stream.proofs.Law.Rows.Chunks.{all_good}

-- xs stands at the front of `out`, and the stretch from `at` on, the whole rest, was lent and came back as ys: new values, and then what lay there
module _ (xs base out ys new : List ℕ) (at k n : ℕ)
    (is : out ≡ xs ++ drop at base) (long : length xs ≡ at) (rest : k ≡ length out - at) (back : ys ≡ new ++ drop n (take k (drop at out))) where
  behind : drop at out ≡ drop at base
  behind = ap (drop at) is ∙ drop_at xs (drop at base) at long

  whole : take k (drop at out) ≡ drop at base
  whole = take_all k (drop at out) (rw (rest, length-drop) (omega arith)) ∙ behind

  pub lands : put_mid at k out ys ≡ (xs ++ new) ++ drop (at + n) base
  lands =
      ap₂ (λ (a b : List ℕ). a ++ b)
      (ap (take at) is ∙ take_at xs (drop at base) at long)
      (ap₂ (λ (a b : List ℕ). a ++ b)
      (back ∙ ap (λ (l : List ℕ). new ++ drop n l) whole ∙ ap (λ (l : List ℕ). new ++ l) (drop-drop n at base))
      (drop_of_length-le (drop at out) {i = k} (rw (rest, length-drop) (omega arith)))
      ∙ append-nil (new ++ drop (at + n) base))
      ∙ sym (append_assoc xs new (drop (at + n) base))

  -- as many new values as were lent elements, less those that stayed
  pub grown : length ys ≡ length (take k (drop at out)) → n ≤ length (take k (drop at out)) → length (xs ++ new) ≡ at + n
  grown same fits = rw length-append (omega (arith, same, fits, long, ap length back, length-append new (drop n (take k (drop at out))), length-drop n (take k (drop at out))))

pub count_small : (h : Header) (j : ℕ) → count_of h j ≤ min 1024 h.count
unfolding count_of
count_small h j = omega arith

-- New values put into a part of either output lent, from `at` on or nothing: what the one of the width shows is what counts.
from_part : (at n m : ℕ) (new a xs : List ℕ) → length new ≡ n → at + n ≤ length a → m ≡ min at (length a) → xs ≡ new ++ drop n (take (length a - m) (drop m a))
    → put_mid m (length a - m) a xs ≡ landed at new a
from_part at n m new a xs l fits e is = landed_mid m n new a xs l is ∙ ap (λ (i : ℕ). landed i new a) (let q : m ≡ at = omega arith in q)

room_part : (at n m : ℕ) (a : List ℕ) → at + n ≤ length a → m ≡ min at (length a) → n ≤ length (take (length a - m) (drop m a))
room_part at n m a fits e = rw (length-take, length-drop) (omega arith)

module _ (W at n k m : ℕ) (a b : List ℕ) (near-a : k ≡ min at (length a)) (near-b : m ≡ min at (length b)) (fits : at + n ≤ length (chosen W a b)) where
  abbrev lent : List ℕ
  lent = chosen W (take (length a - k) (drop k a)) (take (length b - m) (drop m b))

  pub lent_fits : n ≤ length lent
  unfolding chosen
  lent_fits = go (eqb W 32) fits
    where
      go : (x : Bool) → at + n ≤ length (cond x a b) → n ≤ length (cond x (take (length a - k) (drop k a)) (take (length b - m) (drop m b)))
      go true f = room_part at n k a f near-a
      go false f = room_part at n m b f near-b

  pub lent_landed : (new xs ys : List ℕ) → length new ≡ n → chosen W xs ys ≡ new ++ drop n lent
      → chosen W (put_mid k (length a - k) a xs) (put_mid m (length b - m) b ys) ≡ landed at new (chosen W a b)
  unfolding chosen
  lent_landed new xs ys l is = go (eqb W 32) fits is
    where
      go : (x : Bool) → at + n ≤ length (cond x a b) → cond x xs ys ≡ new ++ drop n (cond x (take (length a - k) (drop k a)) (take (length b - m) (drop m b)))
          → cond x (put_mid k (length a - k) a xs) (put_mid m (length b - m) b ys) ≡ landed at new (cond x a b)
      go true f e = from_part at n k new a xs l f near-a e
      go false f e = from_part at n m new b ys l f near-b e

-- How far a loop over the chunks has come that restores each in its own stretch: the output holds the values of the first j chunks, and then
-- what it held before.
pub record Restored (h : Header) (s base : List ℕ) (j : ℕ) (out : List ℕ) : Type 0 where
  pub within : j ≤ h.chunks
  pub same : length out ≡ length base
  pub far : length (joined (chunk_values h s) j) ≡ min (1024 * j) h.count
  pub is : out ≡ joined (chunk_values h s) j ++ drop (min (1024 * j) h.count) base

-- such a loop: its begin, what it asks of a turn, a turn, and its end
module _ (W : ℕ) (h : Header) (s base : List ℕ) (pre : Readable W h s × (first (chunk_rows h s) ≡ Ok tt) × (h.count ≤ length base)) where
  l : Layout (length s) h
  l = pre.0.opened.layout

  pub begun : Restored h s base 0 base
  unfolding joined
  begun =
      record {
        within = omega arith;
        same = refl;
        far = omega arith;
        is = ap (λ (n : ℕ). drop n base) (let e : 0 ≡ min 0 h.count = omega arith in e);
      }

  pub ended : (j : ℕ) (out : List ℕ) → Restored h s base j out → h.chunks ≤ j → out ≡ values_in h s ++ drop h.count base
  unfolding values_in
  ended j out r e =
      r.is
      ∙ ap₂ (λ (i n : ℕ). joined (chunk_values h s) i ++ drop n base)
      (let q : j ≡ h.chunks = omega arith in q)
      (let q : min (1024 * j) h.count ≡ h.count = omega (arith, l) in q)

  module _ (j : ℕ) (out : List ℕ) (r : Restored h s base j out) (below : j < h.chunks) where
    more : 1024 * j < h.count
    more = omega (arith, l)

    fits : count_of h j ≤ length (take (length out - 1024 * j) (drop (1024 * j) out))
    unfolding count_of
    fits = simp (length-take, length-drop) (omega (arith, more, pre.2, r.same))

    -- the chunk is there to be read, and its stretch is in the output
    pub asked_chunk : Placed h s j × (whole_chunk h.width (group_size (setting_in h)) (count_of h j) (chunk_of h s j) ≡ true)
    asked_chunk = (placed (length s) h s l pre.0.table j below, state_whole h s j (all_good h s pre.1 j below))

    pub asked_room : (1024 * j ≤ 1048576) × (1024 * j + count_of h j ≤ length out)
    unfolding count_of
    asked_room = (omega (arith, more, l.few), omega (arith, more, pre.2, r.same))

    pub turned : (ys : List ℕ) → ys ≡ chunk_values h s j ++ drop (count_of h j) (take (length out - 1024 * j) (drop (1024 * j) out))
        → length ys ≡ length (take (length out - 1024 * j) (drop (1024 * j) out))
        → Restored h s base (j + 1) (put_mid (1024 * j) (length out - 1024 * j) out ys)
    unfolding joined count_of
    turned ys back kept =
        let f = chunk_values h s in
        let k = length out - 1024 * j in
        let at : min (1024 * j) h.count ≡ 1024 * j = omega (arith, more) in
        let next : 1024 * j + min 1024 (h.count - 1024 * j) ≡ min (1024 * suc j) h.count = omega (arith, more) in
        let is : out ≡ joined f j ++ drop (1024 * j) base = r.is ∙ ap (λ (m : ℕ). joined f j ++ drop m base) at in
        record {
          within = omega arith;
          same = same_len_mid (1024 * j) k out ys kept ∙ r.same;
          far = rw add-one (grown (joined f j) base out ys (f j) (1024 * j) k (count_of h j) is (r.far ∙ at) refl back kept fits ∙ next);
          is = rw add-one (lands (joined f j) base out ys (f j) (1024 * j) k (count_of h j) is (r.far ∙ at) refl back ∙ ap (λ (m : ℕ). (joined f j ++ f j) ++ drop m base) next);
        }

    -- the same, where the values have landed
    pub turned_landed : (now : List ℕ) → now ≡ landed (1024 * j) (chunk_values h s j) out → Restored h s base (j + 1) now
    turned_landed now is =
        let part = take (length out - 1024 * j) (drop (1024 * j) out) in
        let ys : List ℕ = chunk_values h s j ++ drop (count_of h j) part in
        subst (Restored h s base (j + 1)) (landed_mid (1024 * j) (count_of h j) (chunk_values h s j) out ys (length_chunk h s j) refl ∙ sym is)
        (turned ys refl (length-append (chunk_values h s j) (drop (count_of h j) part) ∙ (omega (arith, length_chunk h s j, length-drop (count_of h j) part, fits))))
