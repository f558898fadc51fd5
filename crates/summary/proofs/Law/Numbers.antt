-- The numbers that a test holds at, found in order by a loop: what is left decides, how many there are and what is still to be written.
use mathlib.Core.Path.{◌≡◌, refl, sym, ap, subst, ◌∙◌}
use mathlib.Core.Bool.{Bool, true, false, cond}
use mathlib.Core.List.{List, [], ◌∷◌, ◌++◌}
use Prim.Native.Nat.{ℕ, ◌+◌, ◌-◌, ◌≤◌, ◌<◌}
use native.Mathlib.Numerals.{add-one}
use native.Mathlib.Omega.{arith}
use lib.ListN.{length, drop, take, set}
use lib.Seq.{set_split, append_snoc}
use Rattle.stream.specs.Lent.{landed}
use Rattle.stream.proofs.Law.Plain.Scan.{next, all_left, none_left}
use Rattle.stream.proofs.Law.Plain.Appended.{Appended, nothing_yet, all_there, same_room, one_landed}
use Rattle.summary.specs.Summary.{numbers_from}

module _ (f : ℕ → Bool) where
  numbers_next : (k j : ℕ) → j < k → numbers_from f (k - j) j ≡ cond (f j) (j ∷ numbers_from f (k - (j + 1)) (j + 1)) (numbers_from f (k - (j + 1)) (j + 1))
  unfolding numbers_from
  numbers_next = next (numbers_from f) (λ j rest. cond (f j) (j ∷ rest) rest) (λ k j. refl)

  pub numbers_here : (k j : ℕ) → j < k → f j ≡ true → numbers_from f (k - j) j ≡ j ∷ numbers_from f (k - (j + 1)) (j + 1)
  numbers_here k j h e = numbers_next k j h ∙ ap (λ (b : Bool). cond b (j ∷ numbers_from f (k - (j + 1)) (j + 1)) (numbers_from f (k - (j + 1)) (j + 1))) e

  pub numbers_past : (k j : ℕ) → j < k → f j ≡ false → numbers_from f (k - j) j ≡ numbers_from f (k - (j + 1)) (j + 1)
  numbers_past k j h e = numbers_next k j h ∙ ap (λ (b : Bool). cond b (j ∷ numbers_from f (k - (j + 1)) (j + 1)) (numbers_from f (k - (j + 1)) (j + 1))) e

  pub numbers_done : (k j : ℕ) → k ≤ j → numbers_from f (k - j) j ≡ []
  unfolding numbers_from
  numbers_done k j h = none_left (numbers_from f) k j h

-- ---- counted: of the k numbers the first j are passed, and n of them are listed

pub record Counted (f : ℕ → Bool) (k n j : ℕ) : Type 0 where
  pub within : j ≤ k
  pub few : n ≤ j
  pub whole : n + length (numbers_from f (k - j) j) ≡ length (numbers_from f k 0)

pub counted_none : (f : ℕ → Bool) (k : ℕ) → Counted f k 0 0
counted_none f k = record { within = omega arith; few = omega arith; whole = omega (arith, ap length (all_left (numbers_from f) k)) }

module _ {f : ℕ → Bool} {k n j : ℕ} (so_far : Counted f k n j) where
  pub counted_all : k ≤ j → n ≡ length (numbers_from f k 0)
  counted_all h = omega (arith, so_far.whole, ap length (numbers_done f k j h))

  module _ (h : j < k) where
    pub counted_here : f j ≡ true → Counted f k (n + 1) (j + 1)
    counted_here e =
        record { within = omega arith; few = omega arith; whole = omega (arith, so_far.whole, ap length (numbers_here f k j h e)) }

    pub counted_past : f j ≡ false → Counted f k n (j + 1)
    counted_past e =
        record { within = omega arith; few = omega arith; whole = omega (arith, so_far.whole, ap length (numbers_past f k j h e)) }

-- ---- written: those n stand at the front of the output, which was `base`

pub record Listed (f : ℕ → Bool) (k : ℕ) (base out : List ℕ) (n j : ℕ) : Type 0 where
  pub within : j ≤ k
  pub front : Appended (numbers_from f k 0) (numbers_from f (k - j) j) base out n

pub listed_none : (f : ℕ → Bool) (k : ℕ) (base : List ℕ) → length (numbers_from f k 0) ≤ length base → Listed f k base base 0 0
listed_none f k base room =
    record {
      within = omega arith;
      front = subst (λ (l : List ℕ). Appended (numbers_from f k 0) l base base 0) (all_left (numbers_from f) k) (nothing_yet (numbers_from f k 0) base room);
    }

module _ {f : ℕ → Bool} {k : ℕ} {base out : List ℕ} {n j : ℕ} (so_far : Listed f k base out n j) where
  pub listed_length : length out ≡ length base
  listed_length = same_room (numbers_from f k 0) (numbers_from f (k - j) j) base out n so_far.front

  pub listed_all : k ≤ j → out ≡ numbers_from f k 0 ++ drop (length (numbers_from f k 0)) base
  listed_all h =
      let done = numbers_done f k j h in
      let a = subst (λ (l : List ℕ). Appended (numbers_from f k 0) l base out n) done so_far.front in
      all_there (numbers_from f k 0) base out n a
      ∙ ap (λ (m : ℕ). numbers_from f k 0 ++ drop m base) (let e : n ≡ length (numbers_from f k 0) = omega (arith, a.whole) in e)

  module _ (h : j < k) where
    pub listed_past : f j ≡ false → Listed f k base out n (j + 1)
    listed_past e =
        record {
          within = omega arith;
          front = subst (λ (l : List ℕ). Appended (numbers_from f k 0) l base out n) (numbers_past f k j h e) so_far.front;
        }

    module _ (e : f j ≡ true) where
      pub listed_room : n < length out
      listed_room = omega (arith, listed_length, so_far.front.whole, so_far.front.room, ap length (numbers_here f k j h e))

      written : set out n j ≡ landed n (j ∷ []) out
      unfolding landed
      written = set_split out n j listed_room ∙ ap (λ (m : ℕ). take n out ++ j ∷ drop m out) (sym (add-one n)) ∙ sym (append_snoc (take n out) j (drop (n + 1) out))

      pub listed_here : Listed f k base (set out n j) (n + 1) (j + 1)
      listed_here =
          record {
            within = omega arith;
            front = one_landed (numbers_from f k 0) (numbers_from f (k - j) j) base out n so_far.front
                (j ∷ []) (numbers_from f (k - (j + 1)) (j + 1)) (set out n j) 1 (numbers_here f k j h e) refl written;
          }
