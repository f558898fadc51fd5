-- The rows 8 and 15, from the ids of the side table and from the first high one that the loop over them finds.
use mathlib.Core.Path.{◌≡◌, refl, sym, ap, subst, ◌∙◌}
use mathlib.Core.Bool.{Bool, true, false, ◌||◌, cond}
use mathlib.Core.List.{List, [], ◌∷◌, ◌++◌, map}
use Prim.Native.Nat.{ℕ, zero, suc, ◌+◌, ◌-◌, ◌^◌, ◌≤◌, ◌<◌}
use native.Mathlib.Nat.{add-zero, zero-add}
use native.Mathlib.Omega.{arith}
use borrow.Author.Tests.{le-leb, lt-leb, eq-eqb, ne_eqb}
use lib.Dec.{leb}
use lib.ListN.{length, replicate}
use Rattle.stream.specs.Setting.{stream_need}
use Rattle.stream.specs.Header.{setting_in}
use Rattle.stream.specs.Tables.{side_id, ids_from, ids_in, first_high, high_id, some_high}
use Rattle.stream.specs.Rows.{Row, first, numbers_of}
use Rattle.stream.specs.Operations.{need_row, id_row, side_rows}
use Rattle.std.specs.Prelude.{Ok, Err}
use Rattle.stream.specs.declared.answers.Refusal.TheVariants.{BrokenHeader, MustBeUnderstood}
use Rattle.stream.specs.declared.header.Header.{Header}
use Rattle.stream.proofs.Law.Plain.Truth.{or_true, or_false}
use Rattle.stream.proofs.Law.Plain.Scan.{next, all_left, none_left}
use Rattle.stream.proofs.Law.Rows.First.{passed_both, not_given}

-- ---- 15

pub low_pass : (ids : List ℕ) → some_high ids ≡ false → first (map id_row ids) ≡ Ok tt
unfolding some_high id_row first
low_pass [] e = refl
low_pass (id ∷ ids) e = let b = or_false (high_id id) (some_high ids) e in rw b.0 (low_pass ids b.1)

pub pass_low : (ids : List ℕ) → first (map id_row ids) ≡ Ok tt → some_high ids ≡ false
unfolding some_high id_row
pass_low [] e = refl
pass_low (id ∷ ids) e =
    let b = passed_both (id_row id) (map id_row ids) e in
    rw (not_given (MustBeUnderstood id) (high_id id) b.0) (pass_low ids b.1)

-- the first of them that is high
pub high_stop : (ids : List ℕ) → some_high ids ≡ true → first (map id_row ids) ≡ Err (MustBeUnderstood (first_high ids))
unfolding some_high first_high id_row first
high_stop [] e = let z : false ≡ true = e in cc
high_stop (id ∷ ids) e = go (high_id id) refl (λ later. high_stop ids later)
  where
    go : (b : Bool) → high_id id ≡ b → (some_high ids ≡ true → first (map id_row ids) ≡ Err (MustBeUnderstood (first_high ids)))
        → cond (high_id id) (Err (MustBeUnderstood id)) (first (map id_row ids)) ≡ Err (MustBeUnderstood (cond (high_id id) id (first_high ids)))
    go true is rest = rw is
    go false is rest = rw is (rest (rw is at e))

pub first_high_lem : (ids : List ℕ) → high_id (first_high ids) ≡ some_high ids
unfolding some_high first_high high_id
first_high_lem [] = refl
first_high_lem (id ∷ ids) = go (high_id id) refl (first_high_lem ids)
  where
    go : (b : Bool) → high_id id ≡ b → high_id (first_high ids) ≡ some_high ids → high_id (cond (high_id id) id (first_high ids)) ≡ high_id id || some_high ids
    go true is rest = rw is is
    go false is rest = rw is rest

-- a row for each
pub id_numbers : (ids : List ℕ) (rows : List Row) → numbers_of (map id_row ids ++ rows) ≡ replicate (length ids) 15 ++ numbers_of rows
unfolding id_row numbers_of
id_numbers [] rows = refl
id_numbers (id ∷ ids) rows = ap (λ (l : List ℕ). 15 ∷ l) (id_numbers ids rows)

module _ (h : Header) (s : List ℕ) where
  length_from : (k i : ℕ) → length (ids_from h s k i) ≡ k
  unfolding ids_from
  length_from zero i = refl
  length_from (suc k) i = ap suc (length_from k (suc i))

  pub length_ids : length (ids_in h s) ≡ h.sides
  unfolding ids_in
  length_ids = length_from h.sides 0

  -- an entry with a high id is seen among them
  high_from : (k i j : ℕ) → j < k → high_id (side_id h s (i + j)) ≡ true → some_high (ids_from h s k i) ≡ true
  unfolding ids_from some_high
  high_from zero i j l e = absurd (omega arith)
  high_from (suc k) i zero l e = rw (subst (λ (n : ℕ). high_id (side_id h s n) ≡ true) (add-zero i) e)
  high_from (suc k) i (suc j) l e =
      rw (high_from k (suc i) j (omega arith) (subst (λ (n : ℕ). high_id (side_id h s n) ≡ true) (let q : i + suc j ≡ suc i + j = omega arith in q) e)) (or_true (high_id (side_id h s i)))

  pub high_entry : (i : ℕ) → i < h.sides → 2 ^ 31 ≤ side_id h s i → some_high (ids_in h s) ≡ true
  unfolding ids_in high_id
  high_entry i l high = high_from h.sides 0 i l (subst (λ (n : ℕ). high_id (side_id h s n) ≡ true) (sym (zero-add i)) (le-leb (2 ^ 31) (side_id h s i) high))

  -- ---- the loop over the entries: what it has still to find

  pub ids_start : first_high (ids_in h s) ≡ first_high (ids_from h s (h.sides - 0) 0)
  unfolding ids_in
  ids_start = ap first_high (all_left (ids_from h s) h.sides)

  module _ (i : ℕ) where
    abbrev id : ℕ
    id = side_id h s i

    abbrev later : List ℕ
    later = ids_from h s (h.sides - (i + 1)) (i + 1)

    an_entry : i < h.sides → first_high (ids_from h s (h.sides - i) i) ≡ first_high (id ∷ later)
    unfolding ids_from
    an_entry l = ap first_high (next (ids_from h s) (λ i ids. side_id h s i ∷ ids) (λ k i. refl) h.sides i l)

    pub ids_on : i < h.sides → id < 2 ^ 31 → first_high (ids_from h s (h.sides - i) i) ≡ first_high later
    unfolding first_high high_id
    ids_on l low = an_entry l ∙ ap (λ (b : Bool). cond b id (first_high later)) (lt-leb (2 ^ 31) id low)

    pub ids_stop : i < h.sides → 2 ^ 31 ≤ id → first_high (ids_from h s (h.sides - i) i) ≡ id
    unfolding first_high high_id
    ids_stop l high = an_entry l ∙ ap (λ (b : Bool). cond b id (first_high later)) (le-leb (2 ^ 31) id high)

    pub ids_done : h.sides ≤ i → first_high (ids_from h s (h.sides - i) i) ≡ 0
    unfolding ids_from first_high
    ids_done l = ap first_high (none_left (ids_from h s) h.sides i l)

-- ---- 8, and then 15

module _ (h : Header) (ids : List ℕ) where
  pub need_kept : h.needed ≡ stream_need (setting_in h) (some_high ids) → first (side_rows h ids) ≡ first (map id_row ids)
  unfolding side_rows need_row first
  need_kept e = rw (eq-eqb h.needed (stream_need (setting_in h) (some_high ids)) e)

  pub need_broken : (h.needed ≡ stream_need (setting_in h) (some_high ids) → ⊥) → first (side_rows h ids) ≡ Err BrokenHeader
  unfolding side_rows need_row first
  need_broken n = rw (ne_eqb h.needed (stream_need (setting_in h) (some_high ids)) n)

  -- from the first high id, as the code has it
  module _ (id n : ℕ) (is : id ≡ first_high ids) (need-is : n ≡ stream_need (setting_in h) (leb (2 ^ 31) id)) where
    high_is : leb (2 ^ 31) id ≡ some_high ids
    unfolding high_id
    high_is = ap (leb (2 ^ 31)) is ∙ first_high_lem ids

    asked : n ≡ stream_need (setting_in h) (some_high ids)
    asked = need-is ∙ ap (stream_need (setting_in h)) high_is

    pub side_need : (h.needed ≡ n → ⊥) → Err BrokenHeader ≡ first (side_rows h ids)
    side_need other = sym (need_broken (λ e. other (e ∙ sym asked)))

    pub side_high : h.needed ≡ n → leb (2 ^ 31) id ≡ true → Err (MustBeUnderstood id) ≡ first (side_rows h ids)
    side_high e high = sym (need_kept (e ∙ asked) ∙ high_stop ids (sym high_is ∙ high) ∙ ap (λ (i : ℕ). Err (MustBeUnderstood i)) (sym is))

    pub side_low : h.needed ≡ n → leb (2 ^ 31) id ≡ false → Ok tt ≡ first (side_rows h ids)
    side_low e low = sym (need_kept (e ∙ asked) ∙ low_pass ids (sym high_is ∙ low))
