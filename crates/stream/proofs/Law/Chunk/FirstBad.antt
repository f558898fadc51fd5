-- The first bad group of a chunk: what the walk over the groups finds is what `FirstBad` says of each group by itself.
use Rattle.std.specs.Prelude.{Err}
use mathlib.Core.Path.{◌≡◌, refl, sym, ap, subst, ◌∙◌}
use mathlib.Core.Logic.{◌⊎◌, inl, inr, ◌↔◌}
use mathlib.Core.Bool.{Bool, true, false, cond}
use mathlib.Core.List.{List}
use Prim.Native.Nat.{ℕ, zero, suc, ◌+◌, ◌-◌, ◌*◌, ◌≤◌, ◌<◌, min}
use native.Mathlib.Nat.{mul-suc, mul-zero}
use native.Mathlib.Omega.{arith}
use borrow.Author.Tests.{eq-eqb, ne_eqb}
use lib.Dec.{eqb}
use lib.ListN.{length, drop}
use Rattle.blocks.proofs.Law.Truth.{le_or_lt}
use Rattle.stream.specs.Group.{group_length, good_group}
use Rattle.stream.specs.Chunk.{Verdict, good, groups_in, first_fault, chunk_answer}
use Rattle.stream.specs.Theorem.{from_group, good_at, FirstBad}
use Rattle.stream.proofs.Law.Chunk.Groups.{groups_step, never_good}

same_group : (i j : ℕ) → ◌≡◌ {A = Verdict} (Err i) (Err j) → i ≡ j
same_group i j e = cc

-- bytes left over behind the last group
left_over : (s : List ℕ) (i b : ℕ) → cond (eqb (length s) 0) good (Err i) ≡ Err b → (0 < length s) × (i ≡ b)
left_over s i b e = go (le_or_lt (length s) 0)
  where
    go : (length s ≤ 0) ⊎ (0 < length s) → (0 < length s) × (i ≡ b)
    go (inl none) = absurd (never_good b (sym (rw (eq-eqb (length s) 0 (let z : length s ≡ 0 = omega arith in z)) at e)))
    go (inr some) = (some, same_group i b (rw (ne_eqb (length s) 0 (λ z. omega arith)) at e))

module _ (W U size : ℕ) where
  -- the bytes behind the first group
  abbrev behind : ℕ → List ℕ → List ℕ
  behind n s = drop (group_length (min size n) s) s

  front_is : (n : ℕ) (s : List ℕ) → good_at W U size n s 0 ≡ good_group W U (min size n) s
  unfolding good_at from_group
  front_is n s = ap (λ (x : ℕ). good_group W U (min size x) s) (let e : n - size * 0 ≡ n = omega (arith, mul-zero size) in e)

  -- a later group is one of those behind the first
  later_is : (n : ℕ) (s : List ℕ) (i : ℕ) → good_at W U size n s (suc i) ≡ good_at W U size (n - size) (behind n s) i
  unfolding good_at from_group
  later_is n s i =
      ap (λ (x : ℕ). good_group W U (min size x) (from_group size i (n - size) (behind n s)))
      (let e : n - size * suc i ≡ n - size - size * i = omega (arith, mul-suc size i) in e)

  -- `FirstBad`, of q groups
  record Found (q n : ℕ) (s : List ℕ) (g : ℕ) : Type 0 where
    is_group : g < q
    earlier : (i : ℕ) → i < g → good_at W U size n s i ≡ true
    bad : (good_at W U size n s g ≡ false) ⊎ ((suc g ≡ q) × (0 < length (from_group size (suc g) n s)))

  -- ---- one group on

  front_found : (q n : ℕ) (s : List ℕ) → (good_group W U (min size n) s ≡ false) ⊎ ((q ≡ 0) × (0 < length (behind n s))) → Found (suc q) n s 0
  unfolding from_group
  front_found q n s why = record { is_group = omega arith; earlier = λ i l. absurd (omega arith); bad = go why }
    where
      go : (good_group W U (min size n) s ≡ false) ⊎ ((q ≡ 0) × (0 < length (behind n s)))
          → (good_at W U size n s 0 ≡ false) ⊎ ((1 ≡ suc q) × (0 < length (behind n s)))
      go (inl bad) = inl (front_is n s ∙ bad)
      go (inr over) = inr (ap suc (sym over.0), over.1)

  later_found : (q n : ℕ) (s : List ℕ) (g : ℕ) → good_group W U (min size n) s ≡ true → Found q (n - size) (behind n s) g → Found (suc q) n s (suc g)
  unfolding from_group
  later_found q n s g good f = record { is_group = omega (arith, f.is_group); earlier = before; bad = go f.bad }
    where
      before : (i : ℕ) → i < suc g → good_at W U size n s i ≡ true
      before zero l = front_is n s ∙ good
      before (suc i) l = later_is n s i ∙ f.earlier i (omega arith)

      go : (good_at W U size (n - size) (behind n s) g ≡ false) ⊎ ((suc g ≡ q) × (0 < length (from_group size (suc g) (n - size) (behind n s))))
          → (good_at W U size n s (suc g) ≡ false) ⊎ ((suc (suc g) ≡ suc q) × (0 < length (from_group size (suc g) (n - size) (behind n s))))
      go (inl bad) = inl (later_is n s g ∙ bad)
      go (inr over) = inr (ap suc over.0, over.1)

  -- and back
  later_back : (q n : ℕ) (s : List ℕ) (g : ℕ) → Found (suc q) n s (suc g) → (good_group W U (min size n) s ≡ true) × Found q (n - size) (behind n s) g
  unfolding from_group
  later_back q n s g f = (
    sym (front_is n s) ∙ f.earlier 0 (omega arith),
    record { is_group = omega (arith, f.is_group); earlier = λ i l. sym (later_is n s i) ∙ f.earlier (suc i) (omega arith); bad = go f.bad },
  )
    where
      go : (good_at W U size n s (suc g) ≡ false) ⊎ ((suc (suc g) ≡ suc q) × (0 < length (from_group size (suc g) (n - size) (behind n s))))
          → (good_at W U size (n - size) (behind n s) g ≡ false) ⊎ ((suc g ≡ q) × (0 < length (from_group size (suc g) (n - size) (behind n s))))
      go (inl bad) = inl (sym (later_is n s g) ∙ bad)
      go (inr over) = inr (omega (arith, over.0), over.1)

  -- ---- the walk finds it

  walked : (q n : ℕ) (s : List ℕ) (i b : ℕ) → first_fault W U size (suc q) n s i ≡ Err b
      → ((good_group W U (min size n) s ≡ false) × (i ≡ b)) ⊎ ((good_group W U (min size n) s ≡ true) × (first_fault W U size q (n - size) (behind n s) (suc i) ≡ Err b))
  unfolding first_fault
  walked q n s i b e = go (good_group W U (min size n) s) refl
    where
      go : (x : Bool) → good_group W U (min size n) s ≡ x
          → ((good_group W U (min size n) s ≡ false) × (i ≡ b)) ⊎ ((good_group W U (min size n) s ≡ true) × (first_fault W U size q (n - size) (behind n s) (suc i) ≡ Err b))
      go true good = inr (good, rw good at e)
      go false bad = inl (bad, same_group i b (rw bad at e))

  found : (q n : ℕ) (s : List ℕ) (i b : ℕ) → first_fault W U size (suc q) n s i ≡ Err b → (g : ℕ) × (i + g ≡ b) × Found (suc q) n s g
  unfolding first_fault
  found zero n s i b e = go (walked 0 n s i b e)
    where
      go : ((good_group W U (min size n) s ≡ false) × (i ≡ b)) ⊎ ((good_group W U (min size n) s ≡ true) × (first_fault W U size 0 (n - size) (behind n s) (suc i) ≡ Err b))
          → (g : ℕ) × (i + g ≡ b) × Found 1 n s g
      go (inl bad) = (0, omega (arith, bad.1), front_found 0 n s (inl bad.0))
      go (inr good) = let over = left_over (behind n s) (suc i - 1) b good.1 in (0, omega (arith, over.1), front_found 0 n s (inr (refl, over.0)))
  found (suc q) n s i b e = go (walked (suc q) n s i b e) (λ f. found q (n - size) (behind n s) (suc i) b f)
    where
      go : ((good_group W U (min size n) s ≡ false) × (i ≡ b)) ⊎ ((good_group W U (min size n) s ≡ true) × (first_fault W U size (suc q) (n - size) (behind n s) (suc i) ≡ Err b))
          → (first_fault W U size (suc q) (n - size) (behind n s) (suc i) ≡ Err b → (g : ℕ) × (suc i + g ≡ b) × Found (suc q) (n - size) (behind n s) g)
          → (g : ℕ) × (i + g ≡ b) × Found (suc (suc q)) n s g
      go (inl bad) later = (0, omega (arith, bad.1), front_found (suc q) n s (inl bad.0))
      go (inr good) later = let r = later good.1 in (suc r.0, omega (arith, r.1), later_found (suc q) n s r.0 good.0 r.2)

  -- ---- and what it finds is it

  stops_at : (q n : ℕ) (s : List ℕ) (i g : ℕ) → Found q n s g → first_fault W U size q n s i ≡ Err (i + g)
  unfolding first_fault from_group
  stops_at zero n s i g f = absurd (omega (arith, f.is_group))
  stops_at (suc q) n s i zero f = go (good_group W U (min size n) s) refl f.bad
    where
      over : good_group W U (min size n) s ≡ true → (1 ≡ suc q) × (0 < length (behind n s)) → first_fault W U size (suc q) n s i ≡ Err (i + 0)
      over good left =
          rw good
          (ap (λ (x : ℕ). first_fault W U size x (n - size) (behind n s) (suc i)) (let none : q ≡ 0 = omega (arith, left.0) in none)
          ∙ rw (ne_eqb (length (behind n s)) 0 (λ z. omega (arith, left.1))) (ap Err (let e : suc i - 1 ≡ i + 0 = omega arith in e)))

      go : (x : Bool) → good_group W U (min size n) s ≡ x → (good_at W U size n s 0 ≡ false) ⊎ ((1 ≡ suc q) × (0 < length (behind n s)))
          → first_fault W U size (suc q) n s i ≡ Err (i + 0)
      go false bad why = rw bad (ap Err (let e : i ≡ i + 0 = omega arith in e))
      go true good (inl bad) = let z : true ≡ false = sym good ∙ sym (front_is n s) ∙ bad in absurd (let o : ◌≡◌ {A = ℕ} 0 1 = cc in omega (arith, o))
      go true good (inr left) = over good left
  stops_at (suc q) n s i (suc g) f =
      let r = later_back q n s g f in
      rw r.0 (stops_at q (n - size) (behind n s) (suc i) g r.1 ∙ ap Err (let e : suc i + g ≡ i + suc g = omega arith in e))

-- "the first bad group", exactly
pub bad_exactly : (W U size : ℕ) → 0 < size → (n : ℕ) (s : List ℕ) → 0 < n → (g : ℕ) → chunk_answer W U size n s ≡ Err g ↔ FirstBad W U size n s g
unfolding chunk_answer
bad_exactly W U size some n s values g = (
  λ e.
      let r = found W U size (groups_in size (n - size)) n s 0 g (rw (groups_step size some n values) at e) in
      let f = subst (λ (q : ℕ). Found W U size q n s r.0) (sym (groups_step size some n values)) r.2 in
      subst (λ (x : ℕ). FirstBad W U size n s x) (let same : r.0 ≡ g = omega (arith, r.1) in same)
      (record { is_group = f.is_group; earlier = f.earlier; bad = f.bad }),
  λ f. stops_at W U size (groups_in size n) n s 0 g (record { is_group = f.is_group; earlier = f.earlier; bad = f.bad }) ∙ ap Err (let e : 0 + g ≡ g = omega arith in e),
)
