-- The search for the smallest and that for the largest are one walk: of two values one is kept, by their places. The laws here are of any such walk, so that
-- each is proved once.
use mathlib.Core.Path.{◌≡◌, refl, sym, ap, ◌∙◌}
use mathlib.Core.Logic.{◌⊎◌, inl, inr}
use mathlib.Core.Bool.{Bool, true, false, cond}
use mathlib.Core.List.{List, [], ◌∷◌, ◌++◌}
use Prim.Native.Nat.{ℕ, zero, suc, ◌+◌, ◌^◌, ◌≤◌, ◌<◌}
use native.Mathlib.Omega.{arith}
use lib.ListN.{length, get_or}
use lib.Pow.{pow_pos}
use Rattle.blocks.specs.Bytes.{Below}
use Rattle.bins.proofs.Law.Number.{le_or_lt}
use Rattle.summary.specs.Order.{not_a_number, rank}
use Rattle.summary.specs.Entry.{nans_in, others}
use Rattle.summary.specs.Private.{pattern_of}
use Rattle.summary.proofs.Law.Order.{rank_below, back}

-- ---- not-a-numbers and the others

module _ (W m : ℕ) where
  pub nans_count : (vs : List ℕ) → nans_in W m vs + length (others W m vs) ≡ length vs
  unfolding nans_in others
  nans_count [] = refl
  nans_count (p ∷ ps) = go (not_a_number W m p) (nans_count ps)
    where
      go : (b : Bool) → nans_in W m ps + length (others W m ps) ≡ length ps
          → cond b (suc (nans_in W m ps)) (nans_in W m ps) + length (cond b (others W m ps) (p ∷ others W m ps)) ≡ suc (length ps)
      go true e = omega arith
      go false e = omega arith

  pub nans_most : (vs : List ℕ) → nans_in W m vs ≤ length vs
  nans_most vs = omega (arith, nans_count vs)

  pub nans_snoc : (vs : List ℕ) (p : ℕ) → nans_in W m (vs ++ (p ∷ [])) ≡ cond (not_a_number W m p) (suc (nans_in W m vs)) (nans_in W m vs)
  unfolding nans_in
  nans_snoc [] p = refl
  nans_snoc (q ∷ qs) p = rw (nans_snoc qs p) (go (not_a_number W m q) (not_a_number W m p))
    where
      go : (b c : Bool) → let n = nans_in W m qs in cond b (suc (cond c (suc n) n)) (cond c (suc n) n) ≡ cond c (suc (cond b (suc n) n)) (cond b (suc n) n)
      go true true = refl
      go true false = refl
      go false true = refl
      go false false = refl

  -- none but not-a-numbers: there are no others
  no_others : (vs : List ℕ) → nans_in W m vs ≡ length vs → others W m vs ≡ []
  no_others vs e = go (others W m vs) (let z : length (others W m vs) ≡ 0 = omega (arith, nans_count vs, e) in z)
    where
      go : (xs : List ℕ) → length xs ≡ 0 → xs ≡ []
      go [] z = refl
      go (x ∷ xs) z = absurd (omega (arith, z))

-- ---- a walk: `from a` walks on with a kept, `pick` takes the first to begin with, and `place` knows the places alone

pub record Walk (W m : ℕ) : Type 0 where
  pub from : ℕ → List ℕ → ℕ
  pub pick : List ℕ → ℕ
  pub place : List ℕ → ℕ
  pub chosen : ℕ → ℕ → ℕ
  pub join : ℕ → ℕ → ℕ
  pub none : ℕ
  pub from_nil : (a : ℕ) → from a [] ≡ a
  pub from_cons : (a q : ℕ) (qs : List ℕ) → from a (q ∷ qs) ≡ from (chosen a q) qs
  pub pick_nil : pick [] ≡ 0
  pub pick_cons : (q : ℕ) (qs : List ℕ) → pick (q ∷ qs) ≡ from q qs
  pub place_nil : place [] ≡ none
  pub place_cons : (p : ℕ) (ps : List ℕ) → place (p ∷ ps) ≡ cond (not_a_number W m p) (place ps) (join (rank W p) (place ps))
  pub of_two : (a q : ℕ) → (chosen a q ≡ a) ⊎ (chosen a q ≡ q)
  pub joins : (a q : ℕ) → rank W (chosen a q) ≡ join (rank W a) (rank W q)
  pub assoc : (a b c : ℕ) → join (join a b) c ≡ join a (join b c)
  pub comm : (a b : ℕ) → join a b ≡ join b a
  pub same : (a : ℕ) → join a a ≡ a
  pub end : (a : ℕ) → a < 2 ^ W → join a none ≡ a

module _ (W m : ℕ) (w : Walk W m) where
  -- a loop from the left adds one value at the end
  pub place_snoc : (vs : List ℕ) (p : ℕ) → w.place (vs ++ (p ∷ [])) ≡ cond (not_a_number W m p) (w.place vs) (w.join (w.place vs) (rank W p))
  place_snoc [] p = w.place_cons p [] ∙ ap (cond (not_a_number W m p) (w.place [])) (w.comm (rank W p) (w.place []))
  place_snoc (q ∷ qs) p = rw (w.place_cons q (qs ++ (p ∷ [])), w.place_cons q qs, place_snoc qs p) (go (not_a_number W m q) (not_a_number W m p))
    where
      go : (b c : Bool) → let x = w.place qs in let r = rank W p in let s = rank W q in
          cond b (cond c x (w.join x r)) (w.join s (cond c x (w.join x r))) ≡ cond c (cond b x (w.join s x)) (w.join (cond b x (w.join s x)) r)
      go true true = refl
      go true false = refl
      go false true = refl
      go false false = sym (w.assoc (rank W q) (w.place qs) (rank W p))

  -- what is true of each value that counts is true of the one kept
  from_keeps : (P : ℕ → Type 0) (vs : List ℕ) → ((i : ℕ) → i < length vs → not_a_number W m (get_or vs i 0) ≡ false → P (get_or vs i 0)) → (a : ℕ) → P a → P (w.from a (others W m vs))
  unfolding others
  from_keeps P [] each a h = rw (w.from_nil a) h
  from_keeps P (p ∷ ps) each a h = go (not_a_number W m p) refl (from_keeps P ps (λ i l. each (suc i) (omega arith)))
    where
      choice : P p → P (w.chosen a p)
      choice q = elim (w.of_two a p) [ inl e ↦ rw e h | inr e ↦ rw e q ]

      go : (b : Bool) → not_a_number W m p ≡ b → ((c : ℕ) → P c → P (w.from c (others W m ps))) → P (w.from a (cond b (others W m ps) (p ∷ others W m ps)))
      go true e rest = rest a h
      go false e rest = rw (w.from_cons a p (others W m ps)) (rest (w.chosen a p) (choice (each 0 (omega arith) e)))

  pub pick_keeps : (P : ℕ → Type 0) (vs : List ℕ) → nans_in W m vs < length vs → ((i : ℕ) → i < length vs → not_a_number W m (get_or vs i 0) ≡ false → P (get_or vs i 0)) → P (w.pick (others W m vs))
  unfolding nans_in others
  pick_keeps P [] l each = absurd (omega arith)
  pick_keeps P (p ∷ ps) l each = go (not_a_number W m p) refl l (λ s. pick_keeps P ps s rest)
    where
      rest : (i : ℕ) → i < length ps → not_a_number W m (get_or ps i 0) ≡ false → P (get_or ps i 0)
      rest i s = each (suc i) (omega arith)

      go : (b : Bool) → not_a_number W m p ≡ b → cond b (suc (nans_in W m ps)) (nans_in W m ps) < suc (length ps) → (nans_in W m ps < length ps → P (w.pick (others W m ps)))
          → P (w.pick (cond b (others W m ps) (p ∷ others W m ps)))
      go true e s on = on (omega arith)
      go false e s on = rw (w.pick_cons p (others W m ps)) (from_keeps P ps rest p (each 0 (omega arith) e))

  pub pick_none : (vs : List ℕ) → nans_in W m vs ≡ length vs → w.pick (others W m vs) ≡ 0
  pick_none vs e = ap w.pick (no_others W m vs e) ∙ w.pick_nil

  pub place_none : (vs : List ℕ) → nans_in W m vs ≡ length vs → w.place vs ≡ w.none
  unfolding nans_in
  place_none [] e = w.place_nil
  place_none (p ∷ ps) e = w.place_cons p ps ∙ go (not_a_number W m p) e (place_none ps)
    where
      go : (b : Bool) → cond b (suc (nans_in W m ps)) (nans_in W m ps) ≡ suc (length ps) → (nans_in W m ps ≡ length ps → w.place ps ≡ w.none) → cond b (w.place ps) (w.join (rank W p) (w.place ps)) ≡ w.none
      go true z on = on (omega arith)
      go false z on = absurd (omega (arith, nans_most W m ps, z))

  -- the place found is joined from the place of each value that counts: joining that once more changes nothing
  pub place_holds : (vs : List ℕ) (k : ℕ) → k < length vs → not_a_number W m (get_or vs k 0) ≡ false → w.join (w.place vs) (rank W (get_or vs k 0)) ≡ w.place vs
  place_holds [] k l e = absurd (omega (arith, l))
  place_holds (p ∷ ps) zero l e =
      let r = rank W p in
      let x = w.place ps in
      rw (w.place_cons p ps, e) (ap (λ (y : ℕ). w.join y r) (w.comm r x) ∙ w.assoc x r r ∙ ap (w.join x) (w.same r) ∙ w.comm x r)
  place_holds (p ∷ ps) (suc k) l e = rw (w.place_cons p ps) (go (not_a_number W m p) (place_holds ps k (omega (arith, l)) e))
    where
      go : (b : Bool) → w.join (w.place ps) (rank W (get_or ps k 0)) ≡ w.place ps
          → w.join (cond b (w.place ps) (w.join (rank W p) (w.place ps))) (rank W (get_or ps k 0)) ≡ cond b (w.place ps) (w.join (rank W p) (w.place ps))
      go true h = h
      go false h = w.assoc (rank W p) (w.place ps) (rank W (get_or ps k 0)) ∙ ap (w.join (rank W p)) h

  pub pick_below : (vs : List ℕ) → Below (2 ^ W) vs → w.pick (others W m vs) < 2 ^ W
  pick_below vs all = go (le_or_lt (length vs) (nans_in W m vs))
    where
      go : (length vs ≤ nans_in W m vs) ⊎ (nans_in W m vs < length vs) → w.pick (others W m vs) < 2 ^ W
      go (inl l) = rw (pick_none vs (omega (arith, nans_most W m vs))) (pow_pos W)
      go (inr l) = pick_keeps (λ (x : ℕ). x < 2 ^ W) vs l (λ i s t. all i)

  -- ---- the place of the one kept is the place found

  module _ (some : 1 ≤ W) where
    from_place : (vs : List ℕ) → Below (2 ^ W) vs → (a : ℕ) → a < 2 ^ W → rank W (w.from a (others W m vs)) ≡ w.join (rank W a) (w.place vs)
    unfolding others
    from_place [] all a h = rw (w.from_nil a, w.place_nil) (sym (w.end (rank W a) (rank_below W some a h)))
    from_place (p ∷ ps) all a h = rw (w.place_cons p ps) (go (not_a_number W m p) (from_place ps (λ i. all (suc i))))
      where
        under : w.chosen a p < 2 ^ W
        under = elim (w.of_two a p) [ inl e ↦ rw e h | inr e ↦ rw e (all 0) ]

        go : (b : Bool) → ((c : ℕ) → c < 2 ^ W → rank W (w.from c (others W m ps)) ≡ w.join (rank W c) (w.place ps))
            → rank W (w.from a (cond b (others W m ps) (p ∷ others W m ps))) ≡ w.join (rank W a) (cond b (w.place ps) (w.join (rank W p) (w.place ps)))
        go true rest = rest a h
        go false rest = rw (w.from_cons a p (others W m ps), rest (w.chosen a p) under, w.joins a p) (w.assoc (rank W a) (rank W p) (w.place ps))

    pub pick_place : (vs : List ℕ) → Below (2 ^ W) vs → nans_in W m vs < length vs → rank W (w.pick (others W m vs)) ≡ w.place vs
    unfolding nans_in others
    pick_place [] all l = absurd (omega arith)
    pick_place (p ∷ ps) all l = rw (w.place_cons p ps) (go (not_a_number W m p) l (pick_place ps (λ i. all (suc i))))
      where
        go : (b : Bool) → cond b (suc (nans_in W m ps)) (nans_in W m ps) < suc (length ps) → (nans_in W m ps < length ps → rank W (w.pick (others W m ps)) ≡ w.place ps)
            → rank W (w.pick (cond b (others W m ps) (p ∷ others W m ps))) ≡ cond b (w.place ps) (w.join (rank W p) (w.place ps))
        go true s on = on (omega arith)
        go false s on = rw (w.pick_cons p (others W m ps)) (from_place ps (λ i. all (suc i)) p (all 0))

    pub pick_is : (vs : List ℕ) → Below (2 ^ W) vs → nans_in W m vs < length vs → w.pick (others W m vs) ≡ pattern_of W (w.place vs)
    pick_is vs all l = sym (back W some (w.pick (others W m vs)) (pick_below vs all)) ∙ ap (pattern_of W) (pick_place vs all l)

    pub place_below : (vs : List ℕ) → Below (2 ^ W) vs → w.none < 2 ^ W → w.place vs < 2 ^ W
    place_below vs all last = go (le_or_lt (length vs) (nans_in W m vs))
      where
        go : (length vs ≤ nans_in W m vs) ⊎ (nans_in W m vs < length vs) → w.place vs < 2 ^ W
        go (inl l) = rw (place_none vs (omega (arith, nans_most W m vs))) last
        go (inr l) = rw (pick_place vs all l) at (rank_below W some (w.pick (others W m vs)) (pick_below vs all))
