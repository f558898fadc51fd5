-- A group in parts: 32 codes of w bits are 4w whole bytes, so the bytes of two parts are those of the one and then those of the other, where the first
-- is full or nothing stands behind it. For any width.
-- Assumes nothing.
use mathlib.Core.Path.{◌≡◌, refl, sym, ap, ap₂, ◌∙◌, subst}
use mathlib.Core.Logic.{◌⊎◌, inl, inr, ⊎_elim}
use mathlib.Core.List.{List, [], ◌∷◌, ◌++◌, append-nil, append_assoc}
use Prim.Native.Nat.{ℕ, ◌+◌, ◌-◌, ◌*◌, ◌/◌, ◌%◌, ◌^◌, ◌≤◌, ◌<◌, min, max}
use native.Mathlib.Nat.{zero-add, mul-add, mul-zero, div-eq_of_lt, add-mul-div_left, add-mul-mod_self_left}
use native.Mathlib.Omega.{arith}
use lib.Ieee.{size}
use lib.ListN.{length, take, drop, length-append}
use lib.Pow.{pow_pos}
use lib.Seq.{take_at, drop_at, drop-drop, take-add}
use Rattle.blocks.specs.Bytes.{Below, number, digits}
use Rattle.stream.specs.Group.{bytes_for, largest, width_of, packed, group_bytes}
use Rattle.stream.specs.Block.{Filled}
use Rattle.blocks.proofs.Law.Digits.{byte, pow_positive, digits_append, digits_mod, number_append, number_lt, below_take, below_drop}
use Rattle.blocks.proofs.Law.Truth.{le_or_lt}
use Rattle.blocks.proofs.Law.Words.{pow_pow}
use Rattle.stream.proofs.Law.Group.RoundTrip.{length_packed, width_holds}
use Rattle.stream.proofs.Law.Group.Width.{size_max}

-- ---- the width

largest_append : (xs ys : List ℕ) → largest (xs ++ ys) ≡ max (largest xs) (largest ys)
unfolding largest
largest_append [] ys = omega arith
largest_append (x ∷ xs) ys = omega (arith, largest_append xs ys)

pub width_of_parts : (xs ys : List ℕ) → width_of (xs ++ ys) ≡ max (width_of xs) (width_of ys)
unfolding width_of
width_of_parts xs ys = ap size (largest_append xs ys) ∙ size_max (largest xs) (largest ys)

-- what holds of all codes holds of a part of them
pub below_left : (b : ℕ) (xs ys : List ℕ) → Below b (xs ++ ys) → Below b xs
below_left b xs ys h = subst (λ (l : List ℕ). Below b l) (take_at xs ys (length xs) refl) (below_take b (length xs) (xs ++ ys) h)

pub below_right : (b : ℕ) (xs ys : List ℕ) → Below b (xs ++ ys) → Below b ys
below_right b xs ys h = subst (λ (l : List ℕ). Below b l) (drop_at xs ys (length xs) refl) (below_drop b (length xs) (xs ++ ys) h)

-- ---- the bytes. What makes two parts stand one behind the other is that the first has whole bytes, or that it is all.

abbrev pub Eights : ℕ → ℕ → Type 0
Eights a b = (a % 8 ≡ 0) ⊎ (b ≡ 0)

pub one_full : (a b : ℕ) → Filled a b → Eights a b
one_full a b = ⊎_elim (λ e. inl (rw e)) (λ e. inr e)

pub two_full : (a b c : ℕ) → Filled a (b + c) → Filled b c → Eights (a + b) c
two_full a b c (inl e) (inl f) = inl (rw (e, f))
two_full a b c (inr e) (inl f) = absurd (omega arith)
two_full a b c h (inr f) = inr f

bits : (w n k : ℕ) → n ≡ 8 * k → w * n ≡ 8 * (w * k)
bits w n k e = rw e (omega arith)

pub bytes_append : (w a b : ℕ) → Eights a b → bytes_for w (a + b) ≡ bytes_for w a + bytes_for w b
unfolding bytes_for
bytes_append w a b (inl e) =
    let whole : a ≡ 8 * (a / 8) = omega arith in
    omega (arith, mul-add w a b, bits w a (a / 8) whole)
bytes_append w a b (inr e) = let m : w * b ≡ 0 = ap (λ (n : ℕ). w * n) e ∙ mul-zero w in omega (arith, mul-add w a b, m)

-- the number of both parts, in bytes: what the second spells stands above the bytes of the first
module _ (w k : ℕ) (xs ys : List ℕ) (below : Below (2 ^ w) xs) (whole : length xs ≡ 8 * k) where
  place : (2 ^ w) ^ length xs ≡ 256 ^ (w * k)
  place =
      pow_pow 2 w (length xs)
      ∙ ap (λ (n : ℕ). 2 ^ n) (bits w (length xs) k whole)
      ∙ sym (pow_pow 2 8 (w * k))

  low : number (2 ^ w) xs < 256 ^ (w * k)
  low = subst (λ (p : ℕ). number (2 ^ w) xs < p) place (number_lt (2 ^ w) (pow_pos w) xs below)

  joined : number (2 ^ w) (xs ++ ys) ≡ number (2 ^ w) xs + 256 ^ (w * k) * number (2 ^ w) ys
  joined = number_append (2 ^ w) (pow_pos w) xs ys ∙ ap (λ (p : ℕ). number (2 ^ w) xs + p * number (2 ^ w) ys) place

  first_bytes : digits 256 (w * k) (number (2 ^ w) (xs ++ ys)) ≡ digits 256 (w * k) (number (2 ^ w) xs)
  first_bytes =
      sym (digits_mod 256 byte (w * k) (number (2 ^ w) (xs ++ ys)))
      ∙ ap (digits 256 (w * k))
      (ap (λ (n : ℕ). n % 256 ^ (w * k)) joined ∙ add-mul-mod_self_left (number (2 ^ w) xs) (256 ^ (w * k)) (number (2 ^ w) ys))
      ∙ digits_mod 256 byte (w * k) (number (2 ^ w) xs)

  above : number (2 ^ w) (xs ++ ys) / 256 ^ (w * k) ≡ number (2 ^ w) ys
  above =
      ap (λ (n : ℕ). n / 256 ^ (w * k)) joined
      ∙ add-mul-div_left (number (2 ^ w) xs) (number (2 ^ w) ys) (pow_positive 256 byte (w * k))
      ∙ ap (λ (n : ℕ). n + number (2 ^ w) ys) (div-eq_of_lt low)
      ∙ zero-add (number (2 ^ w) ys)

  bytes_first : bytes_for w (length xs) ≡ w * k
  unfolding bytes_for
  bytes_first = omega (arith, bits w (length xs) k whole)

  packed_behind : packed w (xs ++ ys) ≡ packed w xs ++ packed w ys
  unfolding packed
  packed_behind =
      ap (λ (n : ℕ). digits 256 n (number (2 ^ w) (xs ++ ys)))
      (ap (bytes_for w) (length-append xs ys)
      ∙ bytes_append w (length xs) (length ys) (inl (let e : length xs % 8 ≡ 0 = omega arith in e))
      ∙ ap (λ (n : ℕ). n + bytes_for w (length ys)) bytes_first)
      ∙ digits_append 256 byte (w * k) (bytes_for w (length ys)) (number (2 ^ w) (xs ++ ys))
      ∙ ap₂ ◌++◌
      (first_bytes ∙ ap (λ (n : ℕ). digits 256 n (number (2 ^ w) xs)) (sym bytes_first))
      (ap (digits 256 (bytes_for w (length ys))) above)

packed_nothing : (w : ℕ) → packed w [] ≡ []
unfolding packed bytes_for digits
packed_nothing w = ap (λ (n : ℕ). digits 256 n (number (2 ^ w) [])) (let e : (w * 0 + 7) / 8 ≡ 0 = omega arith in e)

pub packed_append : (w : ℕ) (xs ys : List ℕ) → Below (2 ^ w) xs → Eights (length xs) (length ys) → packed w (xs ++ ys) ≡ packed w xs ++ packed w ys
packed_append w xs ys below (inl e) = packed_behind w (length xs / 8) xs ys below (omega arith)
packed_append w xs [] below (inr e) = ap (packed w) (append-nil xs) ∙ sym (ap (λ (l : List ℕ). packed w xs ++ l) (packed_nothing w) ∙ append-nil (packed w xs))
packed_append w xs (y ∷ ys) below (inr e) = absurd (omega arith)

-- ---- the four parts of a list between at, first, second, third and end

pub part_join : (at mid end : ℕ) (cs : List ℕ) → at ≤ mid → mid ≤ end
    → take (mid - at) (drop at cs) ++ take (end - mid) (drop mid cs) ≡ take (end - at) (drop at cs)
part_join at mid end cs h l =
    sym
    (ap (λ (n : ℕ). take n (drop at cs)) (let e : end - at ≡ mid - at + (end - mid) = omega arith in e)
    ∙ take-add (mid - at) (end - mid) (drop at cs)
    ∙ ap (λ (r : List ℕ). take (mid - at) (drop at cs) ++ take (end - mid) r)
    (drop-drop (mid - at) at cs ∙ ap (λ (n : ℕ). drop n cs) (let e : at + (mid - at) ≡ mid = omega arith in e)))

-- where a group of up to 128 codes is cut
pub record Cuts (at first second third end : ℕ) : Type 0 where
  pub first_in : (at ≤ first) × (first ≤ at + 32)
  pub second_in : (first ≤ second) × (second ≤ first + 32)
  pub third_in : (second ≤ third) × (third ≤ second + 32)
  pub end_in : (third ≤ end) × (end ≤ third + 32)
  pub first_full : Filled (first - at) (second - first + (third - second + (end - third)))
  pub second_full : Filled (second - first) (third - second + (end - third))
  pub third_full : Filled (third - second) (end - third)

pub cuts : (at end first second third : ℕ) → at ≤ end → end ≤ at + 128
    → first ≡ min (at + 32) end → second ≡ min (at + 64) end → third ≡ min (at + 96) end → Cuts at first second third end
cuts at end first second third h l f s t =
    record {
      first_in = (omega arith, omega arith);
      second_in = (omega arith, omega arith);
      third_in = (omega arith, omega arith);
      end_in = (omega arith, omega arith);
      first_full = full_or_last 32 (first - at) (second - first + (third - second + (end - third))) (λ k. omega arith) (λ k. omega arith);
      second_full = full_or_last 64 (second - first) (third - second + (end - third)) (λ k. omega arith) (λ k. omega arith);
      third_full = full_or_last 96 (third - second) (end - third) (λ k. omega arith) (λ k. omega arith);
    }
  where
    full_or_last : (n a b : ℕ) → (at + n ≤ end → a ≡ 32) → (end < at + n → b ≡ 0) → Filled a b
    full_or_last n a b full last = ⊎_elim (λ k. inl (full k)) (λ k. inr (last k)) (le_or_lt (at + n) end)

module _ (at first second third end : ℕ) (c : Cuts at first second third end) (cs : List ℕ) where
  pub four_parts :
      take (first - at) (drop at cs) ++ take (second - first) (drop first cs) ++ take (third - second) (drop second cs) ++ take (end - third) (drop third cs)
      ≡ take (end - at) (drop at cs)
  four_parts =
      ap (λ (l : List ℕ). l ++ take (third - second) (drop second cs) ++ take (end - third) (drop third cs))
      (part_join at first second cs c.first_in.0 c.second_in.0)
      ∙ ap (λ (l : List ℕ). l ++ take (end - third) (drop third cs)) (part_join at second third cs (omega (arith, c.first_in, c.second_in)) c.third_in.0)
      ∙ part_join at third end cs (omega (arith, c.first_in, c.second_in, c.third_in)) c.end_in.0

  -- as four records have them
  pub four_codes : (xs ys zs us : List ℕ) → xs ≡ take (first - at) (drop at cs) → ys ≡ take (second - first) (drop first cs)
      → zs ≡ take (third - second) (drop second cs) → us ≡ take (end - third) (drop third cs) → xs ++ ys ++ zs ++ us ≡ take (end - at) (drop at cs)
  four_codes xs ys zs us x y z u = ap₂ ◌++◌ (ap₂ ◌++◌ (ap₂ ◌++◌ x y) z) u ∙ four_parts

-- ---- records: the codes of each are as many as it counts

-- the counts of four records
pub record Counts (a b c d : ℕ) : Type 0 where
  pub few : (a ≤ 32) × (b ≤ 32) × (c ≤ 32) × (d ≤ 32)
  pub filled : Filled a (b + (c + d)) × Filled b (c + d) × Filled c d

pub counts : {at first second third end : ℕ} (a b c d : ℕ) → Cuts at first second third end → a ≡ first - at → b ≡ second - first → c ≡ third - second → d ≡ end - third
    → Counts a b c d
counts a b c d k x y z u = record {
  few = (omega (arith, k.first_in), omega (arith, k.second_in), omega (arith, k.third_in), omega (arith, k.end_in));
  filled = (rw (x, y, z, u) k.first_full, rw (y, z, u) k.second_full, rw (z, u) k.third_full);
}

-- two parts, one behind the other
module _ (w a b : ℕ) (xs ys : List ℕ) (is-a : length xs ≡ a) (is_b : length ys ≡ b) (behind : Eights a b) where
  pub two_long : length (packed w xs ++ packed w ys) ≡ bytes_for w (a + b)
  two_long =
      length-append (packed w xs) (packed w ys)
      ∙ ap₂ ◌+◌ (length_packed w xs ∙ ap (bytes_for w) is-a) (length_packed w ys ∙ ap (bytes_for w) is_b)
      ∙ sym (bytes_append w a b behind)

  pub two_packed : Below (2 ^ w) xs → packed w (xs ++ ys) ≡ packed w xs ++ packed w ys
  two_packed below = packed_append w xs ys below (rw (is-a, is_b) behind)

-- a group of four parts
module _ (xs ys zs us : List ℕ) where
  pub width_of_four : width_of (xs ++ ys ++ zs ++ us) ≡ max (max (width_of xs) (width_of ys)) (max (width_of zs) (width_of us))
  width_of_four =
      omega (arith, width_of_parts (xs ++ ys ++ zs) us, width_of_parts (xs ++ ys) zs, width_of_parts xs ys)

  length_of_four : length (xs ++ ys ++ zs ++ us) ≡ length xs + length ys + length zs + length us
  length_of_four = simp length-append

  module _ (a b c d : ℕ) (is-a : length xs ≡ a) (is_b : length ys ≡ b) (is_c : length zs ≡ c) (is-d : length us ≡ d) where
    pub four_long : length (xs ++ ys ++ zs ++ us) ≡ a + b + c + d
    four_long = omega (arith, length_of_four)

-- the same group as two pairs of parts behind the width byte, of which the first is whole bytes or all there is
pub record InPairs (w a b c d : ℕ) (xs ys zs us : List ℕ) : Type 0 where
  pub first_filled : Filled a b
  pub first_below : Below (2 ^ w) (xs ++ ys)
  pub first_bytes_are : bytes_for w (a + b) ≡ length (packed w (xs ++ ys))
  pub second_below : Below (2 ^ w) (zs ++ us)
  pub second_bytes_are : bytes_for w (c + d) ≡ length (packed w (zs ++ us))
  pub group_is : group_bytes (xs ++ ys ++ zs ++ us) ≡ w ∷ (packed w (xs ++ ys) ++ packed w (zs ++ us))

pub in_pairs : (w a b c d : ℕ) (xs ys zs us : List ℕ) → length xs ≡ a → length ys ≡ b → length zs ≡ c → length us ≡ d
    → Filled a (b + (c + d)) → Filled b (c + d) → w ≡ width_of (xs ++ ys ++ zs ++ us) → InPairs w a b c d xs ys zs us
unfolding group_bytes
in_pairs w a b c d xs ys zs us is-a is_b is_c is-d first second is =
    let all = xs ++ ys ++ zs ++ us in
    let pairs : all ≡ (xs ++ ys) ++ (zs ++ us) = append_assoc (xs ++ ys) zs us in
    let below : Below (2 ^ w) ((xs ++ ys) ++ (zs ++ us)) = subst (λ (l : List ℕ). Below (2 ^ w) l) pairs (subst (λ (v : ℕ). Below (2 ^ v) all) (sym is) (width_holds all)) in
    let low : Below (2 ^ w) (xs ++ ys) = below_left (2 ^ w) (xs ++ ys) (zs ++ us) below in
    let first_count : length (xs ++ ys) ≡ a + b = length-append xs ys ∙ ap₂ ◌+◌ is-a is_b in
    let second-count : length (zs ++ us) ≡ c + d = length-append zs us ∙ ap₂ ◌+◌ is_c is-d in
    record {
      first_filled = ⊎_elim (λ e. inl e) (λ e. inr (omega arith)) first;
      first_below = low;
      first_bytes_are = sym (length_packed w (xs ++ ys) ∙ ap (bytes_for w) first_count);
      second_below = below_right (2 ^ w) (xs ++ ys) (zs ++ us) below;
      second_bytes_are = sym (length_packed w (zs ++ us) ∙ ap (bytes_for w) second-count);
      group_is =
          ap (λ (v : ℕ). v ∷ packed v all) (sym is)
          ∙ ap (λ (l : List ℕ). w ∷ l)
          (ap (packed w) pairs ∙ two_packed w (a + b) (c + d) (xs ++ ys) (zs ++ us) first_count second-count (two_full a b (c + d) first second) low);
    }
