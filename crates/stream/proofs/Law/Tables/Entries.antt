-- The entry of the side table that has an id: it has it, no entry before it does, and where the table is right no other.
use mathlib.Core.Path.{◌≡◌, refl, ap, ◌∙◌}
use mathlib.Core.Logic.{◌⊎◌, inl, inr}
use mathlib.Core.Bool.{Bool, true, false, ◌&&◌, ◌||◌, cond, false≢true}
use mathlib.Core.List.{List}
use Prim.Native.Nat.{ℕ, zero, suc, ◌+◌, ◌-◌, ◌*◌, ◌≤◌, ◌<◌}
use native.Mathlib.Nat.{not-suc-le-zero}
use native.Mathlib.Omega.{arith}
use borrow.Author.Tests.{eq-eqb, eqb-true, leb-true}
use lib.Dec.{leb, eqb}
use lib.ListN.{length}
use Rattle.blocks.proofs.Law.Truth.{le_or_lt}
use Rattle.stream.specs.Tables.{every, side_id, side_place, id_floor, part_at, entry_right, side_table_right, ids_from, ids_in}
use Rattle.stream.specs.Access.{has_id, entry_of}
use Rattle.stream.specs.declared.header.Header.{Header}
use Rattle.stream.proofs.Law.Plain.Truth.{and_left, and_right}
use Rattle.stream.proofs.Law.Plain.Scan.{every_at}

module _ (h : Header) (s : List ℕ) (id : ℕ) where
  -- of the k entries from i on
  has_at : (k i : ℕ) → has_id id (ids_from h s k i) ≡ true → side_id h s (i + entry_of id (ids_from h s k i)) ≡ id
  unfolding has_id entry_of ids_from
  has_at zero i e = absurd (false≢true e)
  has_at (suc k) i e = go (eqb (side_id h s i) id) refl e (λ f. has_at k (suc i) f)
    where
      go : (b : Bool) → eqb (side_id h s i) id ≡ b → (b || has_id id (ids_from h s k (suc i))) ≡ true
          → (has_id id (ids_from h s k (suc i)) ≡ true → side_id h s (suc i + entry_of id (ids_from h s k (suc i))) ≡ id)
          → side_id h s (i + cond b 0 (suc (entry_of id (ids_from h s k (suc i))))) ≡ id
      go true is f again = ap (side_id h s) (let q : i + 0 ≡ i = omega arith in q) ∙ eqb-true (side_id h s i) id is
      go false is f again = ap (side_id h s) (let q : i + suc (entry_of id (ids_from h s k (suc i))) ≡ suc i + entry_of id (ids_from h s k (suc i)) = omega arith in q) ∙ again f

  -- an entry j of them that has the id, and the first is not behind it
  at_has : (k i j : ℕ) → j < k → side_id h s (i + j) ≡ id → (has_id id (ids_from h s k i) ≡ true) × (entry_of id (ids_from h s k i) ≤ j)
  unfolding has_id entry_of ids_from
  at_has zero i j l e = absurd (not-suc-le-zero l)
  at_has (suc k) i zero l e =
      let is = eq-eqb (side_id h s i) id (ap (side_id h s) (let q : i ≡ i + 0 = omega arith in q) ∙ e) in
      rw is (refl, omega arith)
  at_has (suc k) i (suc j) l e = go (eqb (side_id h s i) id) (at_has k (suc i) j (omega arith) (ap (side_id h s) (let q : suc i + j ≡ i + suc j = omega arith in q) ∙ e))
    where
      go : (b : Bool) → (has_id id (ids_from h s k (suc i)) ≡ true) × (entry_of id (ids_from h s k (suc i)) ≤ j)
          → ((b || has_id id (ids_from h s k (suc i))) ≡ true) × (cond b 0 (suc (entry_of id (ids_from h s k (suc i)))) ≤ suc j)
      go true r = (refl, omega arith)
      go false r = (r.0, omega (arith, r.1))

  pub entry_has : has_id id (ids_in h s) ≡ true → side_id h s (entry_of id (ids_in h s)) ≡ id
  unfolding ids_in
  entry_has e = ap (side_id h s) (let q : entry_of id (ids_from h s h.sides 0) ≡ 0 + entry_of id (ids_from h s h.sides 0) = omega arith in q) ∙ has_at h.sides 0 e

  pub has_entry : (j : ℕ) → j < h.sides → side_id h s j ≡ id → (has_id id (ids_in h s) ≡ true) × (entry_of id (ids_in h s) ≤ j)
  unfolding ids_in
  has_entry j l e = at_has h.sides 0 j l (ap (side_id h s) (let q : 0 + j ≡ j = omega arith in q) ∙ e)

-- "Ids increase strictly"
module _ (h : Header) (s : List ℕ) (right : side_table_right h s ≡ true) where
  next_above : (i : ℕ) → suc i < h.sides → side_id h s i < side_id h s (suc i)
  unfolding side_table_right entry_right id_floor
  next_above i l =
      let inside = leb (h.end + 12 * h.sides) (length s) in
      let all = every (entry_right h s) h.sides 0 in
      let each = and_right inside all (and_left (inside && all) (eqb (part_at h s h.sides) (length s)) right) in
      let one = every_at (entry_right h s) h.sides 0 (suc i) each (omega arith) (omega arith) in
      leb-true (suc (side_id h s i)) (side_id h s (suc i)) (and_left (leb (suc (side_id h s i)) (side_id h s (suc i))) (eqb (side_place h s (suc i)) (part_at h s (suc i))) one)

  above : (i d : ℕ) → i + suc d < h.sides → side_id h s i < side_id h s (i + suc d)
  above i zero l = rw (let q : i + 1 ≡ suc i = omega arith in q) (next_above i (omega (arith, l)))
  above i (suc d) l =
      let q : i + suc (suc d) ≡ suc (i + suc d) = omega arith in
      omega (arith, above i d (omega (arith, l)), next_above (i + suc d) (omega (arith, l)), ap (side_id h s) q)

  -- so the entry that has an id is the first that does
  pub the_entry : (id j : ℕ) → j < h.sides → side_id h s j ≡ id → (has_id id (ids_in h s) ≡ true) × (entry_of id (ids_in h s) ≡ j)
  the_entry id j l e = go (has_entry h s id j l e) (le_or_lt j (entry_of id (ids_in h s)))
    where
      go : (has_id id (ids_in h s) ≡ true) × (entry_of id (ids_in h s) ≤ j) → (j ≤ entry_of id (ids_in h s)) ⊎ (entry_of id (ids_in h s) < j)
          → (has_id id (ids_in h s) ≡ true) × (entry_of id (ids_in h s) ≡ j)
      go f (inl m) = (f.0, omega (arith, f.1))
      go f (inr m) =
          let first = entry_of id (ids_in h s) in
          let q : first + suc (j - suc first) ≡ j = omega arith in
          absurd (omega (arith, above first (j - suc first) (omega (arith, q, l)), ap (side_id h s) q, e, entry_has h s id f.0))
