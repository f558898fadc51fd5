-- A reader accepts exactly what was written: a group passes the tests of `good_group` when some list of allowed codes has these bytes, and that
-- list is the one that is read (`accepted_exactly`). For any width, limit and count.
-- Assumes nothing.
use mathlib.Core.Path.{◌≡◌, refl, sym, ap, ap₂, ◌∙◌, subst}
use mathlib.Core.Bool.{Bool, So, true, false, ◌&&◌, false≢true, and-eq-true_iff}
use mathlib.Core.Logic.{◌↔◌}
use mathlib.Core.List.{List, [], ◌∷◌, ◌++◌}
use Prim.Native.Nat.{ℕ, zero, suc, ◌*◌, ◌/◌, ◌^◌, ◌≤◌, ◌<◌, zero-le}
use native.Mathlib.Nat.{le-add_right, lt_of_lt_of_le, not-suc-le-zero, zero-lt-suc}
use native.Mathlib.Omega.{arith}
use borrow.Author.Tests.{le-leb, lt-ltb, eq-eqb, leb-true, ltb-true, eqb-true}
use lib.Dec.{leb, ltb, eqb}
use lib.ListN.{length, take, drop, get_or, length-append, length-drop, take-append-drop}
use lib.Pow.{pow_pos, pow_mono}
use lib.Seq.{length-take-le}
use Rattle.blocks.specs.Bytes.{Below, number, digits}
use Rattle.stream.specs.Group.{bytes_for, width_of, packed, group_bytes, given_width, group_length, group_number, group_codes, within, good_group}
use Rattle.std.specs.List.{list_all}
use Rattle.stream.specs.Theorem.{Limited, Starts}
use Rattle.blocks.proofs.Law.Digits.{byte, below_take, below_drop, number_digits_whole, digits_number, number_lt}
use Rattle.stream.proofs.Law.Group.RoundTrip.{width_holds, width_least, read_width, read_length, read_number, read_codes, length_codes, codes_below}
use Rattle.blocks.proofs.Law.Words.{pow_pow}

-- ---- a good group, as a record of facts for the tests of `good_group`

pub record Good (W U n : ℕ) (s : List ℕ) : Type 0 where
  pub wide : given_width s ≤ W
  pub whole : group_length n s ≤ length s
  pub smallest : given_width s ≡ width_of (group_codes n s)
  pub unpadded : group_number n s < 2 ^ (given_width s * n)
  pub limited : Limited U (group_codes n s)

five : (a b c d e : Bool) → (a && b && c && d && e) ≡ true → So a × So b × So c × So d × So e
five true true true true e h = (refl, refl, refl, refl, h)
five true true true false e h = absurd (false≢true h)
five true true false d e h = absurd (false≢true h)
five true false c d e h = absurd (false≢true h)
five false b c d e h = absurd (false≢true h)

pub within_limited : (U : ℕ) (cs : List ℕ) → within U cs ≡ true → Limited U cs
unfolding within
within_limited U [] e i = zero-le
within_limited U (c ∷ cs) e zero = leb-true (c / 2) U ((and-eq-true_iff (leb (c / 2) U) (within U cs)).0 e).0
within_limited U (c ∷ cs) e (suc i) = within_limited U cs ((and-eq-true_iff (leb (c / 2) U) (within U cs)).0 e).1 i

pub limited_within : (U : ℕ) (cs : List ℕ) → Limited U cs → within U cs ≡ true
unfolding within
limited_within U [] h = refl
limited_within U (c ∷ cs) h = ap₂ ◌&&◌ (le-leb (c / 2) U (h 0)) (limited_within U cs (λ i. h (suc i)))

-- the test of each code
pub all_within : (U : ℕ) (cs : List ℕ) → list_all (λ c. leb (c / 2) U) cs ≡ within U cs
unfolding within
all_within U [] = refl
all_within U (c ∷ cs) = ap (λ (b : Bool). leb (c / 2) U && b) (all_within U cs)

pub good_true : {W U n : ℕ} {s : List ℕ} → Good W U n s → good_group W U n s ≡ true
unfolding good_group
good_true {U = U} {n = n} {s = s} g =
    simp (le-leb _ _ g.wide, le-leb _ _ g.whole, eq-eqb _ _ g.smallest, lt-ltb _ _ g.unpadded, limited_within U (group_codes n s) g.limited)

pub true_good : (W U n : ℕ) (s : List ℕ) → good_group W U n s ≡ true → Good W U n s
unfolding good_group
true_good W U n s e =
    let t = five (leb (given_width s) W) (leb (group_length n s) (length s)) (eqb (given_width s) (width_of (group_codes n s)))
    (ltb (group_number n s) (2 ^ (given_width s * n))) (within U (group_codes n s)) e in
    record {
      wide = leb-true _ _ t.0;
      whole = leb-true _ _ t.1;
      smallest = eqb-true _ _ t.2;
      unpadded = ltb-true _ _ t.3;
      limited = within_limited U (group_codes n s) t.4;
    }

-- what is written is good
pub written_good : (W U : ℕ) (cs rest : List ℕ) → Below (2 ^ W) cs → Limited U cs → Good W U (length cs) (group_bytes cs ++ rest)
written_good W U cs rest below limited = record {
  wide = rw read_width (width_least W cs below);
  whole = rw (read_length, length-append) (le-add_right (length (group_bytes cs)) (length rest));
  smallest = rw (read_width, read_codes);
  unpadded = rw (read_number, read_width, ← pow_pow) (number_lt (2 ^ width_of cs) (pow_pos (width_of cs)) cs (width_holds cs));
  limited = rw read_codes limited;
}

-- ---- written of read

first_and_rest : (k : ℕ) (s : List ℕ) → zero < length s → take (suc k) s ≡ get_or s 0 0 ∷ take k (drop 1 s)
first_and_rest k [] h = absurd (not-suc-le-zero h)
first_and_rest k (x ∷ xs) h = refl

module _ {W U n : ℕ} {s : List ℕ} (bytes : Below 256 s) (g : Good W U n s) where
  -- no padding bit is lost
  number_codes : number (2 ^ given_width s) (group_codes n s) ≡ group_number n s
  unfolding group_codes
  number_codes =
      number_digits_whole (2 ^ given_width s) (pow_pos (given_width s)) n (group_number n s)
      (subst (λ (p : ℕ). group_number n s < p) (sym (pow_pow 2 (given_width s) n)) g.unpadded)

  body_there : bytes_for (given_width s) n ≤ length (drop 1 s)
  unfolding group_length
  body_there = rw length-drop (omega (arith, g.whole))

  body_packed : take (bytes_for (given_width s) n) (drop 1 s) ≡ packed (given_width s) (group_codes n s)
  unfolding packed group_number
  body_packed =
      sym (digits_number 256 byte (take (bytes_for (given_width s) n) (drop 1 s))
      (below_take 256 (bytes_for (given_width s) n) (drop 1 s) (below_drop 256 1 s bytes)))
      ∙ ap₂ (digits 256) (length-take-le (bytes_for (given_width s) n) (drop 1 s) body_there ∙ ap (bytes_for (given_width s)) (sym (length_codes n s))) (sym number_codes)

  pub read_written : take (group_length n s) s ≡ group_bytes (group_codes n s)
  unfolding group_bytes group_length given_width
  read_written =
      first_and_rest (bytes_for (given_width s) n) s (lt_of_lt_of_le (zero-lt-suc (bytes_for (given_width s) n)) g.whole)
      ∙ ap₂ (λ (w : ℕ) (r : List ℕ). w ∷ r) g.smallest (body_packed ∙ ap (λ (w : ℕ). packed w (group_codes n s)) g.smallest)

-- ---- a reader accepts exactly what was written

-- complete: whatever starts with the bytes of allowed codes is accepted
pub starts_accepted : {W U n : ℕ} {s cs : List ℕ} → Starts W U n s cs → good_group W U n s ≡ true
starts_accepted {W = W} {U = U} {cs = cs} h =
    ap₂ (good_group W U) (sym h.count) h.bytes ∙ good_true (written_good W U cs h.rest h.below h.limited)

-- unique: the codes are those that are read
pub starts_codes : {W U n : ℕ} {s cs : List ℕ} → Starts W U n s cs → cs ≡ group_codes n s
starts_codes {cs = cs} h = sym (ap₂ group_codes (sym h.count) h.bytes ∙ read_codes cs h.rest)

module _ (W U n : ℕ) (s : List ℕ) (bytes : Below 256 s) where
  -- sound: what is accepted starts with the bytes of the codes that are read
  pub accepted_starts : good_group W U n s ≡ true → Starts W U n s (group_codes n s)
  accepted_starts e =
      let g = true_good W U n s e in
      record {
        count = length_codes n s;
        below = λ i. lt_of_lt_of_le (codes_below n s i) (pow_mono g.wide);
        limited = g.limited;
        rest = drop (group_length n s) s;
        bytes = sym (take-append-drop (group_length n s) s) ∙ ap (λ (r : List ℕ). r ++ drop (group_length n s) s) (read_written bytes g);
      }

  -- all three: accepted are the bytes that start with a group of allowed codes, and no others; and no two lists of codes have the same bytes
  pub accepted_exactly :
      ((good_group W U n s ≡ true) ↔ ((cs : List ℕ) × Starts W U n s cs)) × ((cs : List ℕ) → Starts W U n s cs → cs ≡ group_codes n s)
  accepted_exactly = ((λ e. (group_codes n s, accepted_starts e), λ h. starts_accepted h.1), λ cs h. starts_codes h)
