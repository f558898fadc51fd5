-- A chunk's bytes at the front of longer ones: they are read alike. How far a walk over them has come.
use mathlib.Core.Path.{◌≡◌, sym, ap, ap₂, ◌∙◌}
use mathlib.Core.Logic.{⊎_elim}
use mathlib.Core.Bool.{true, and-eq-true_iff}
use mathlib.Core.List.{List, ◌++◌}
use Prim.Native.Nat.{ℕ, zero, suc, ◌+◌, ◌-◌, ◌^◌, ◌≤◌, ◌<◌, min}
use native.Mathlib.Omega.{arith}
use lib.ListN.{length, take, drop, length-drop, length-append, get_or-append, take-append-drop}
use lib.Seq.{take-append-le, drop-append-le}
use Rattle.blocks.specs.Bytes.{number, digits}
use Rattle.stream.specs.Group.{bytes_for, given_width, group_length, group_number, group_codes, whole_group}
use Rattle.stream.specs.Chunk.{good, chunk_codes, whole_chunk}
use Rattle.stream.specs.Setting.{group_size, limit_of}
use Rattle.stream.specs.Header.{setting_in}
use Rattle.stream.specs.Lent.{Begun}
use Rattle.stream.specs.Tables.{start_at}
use Rattle.stream.specs.Stream.{count_of, chunk_of, chunk_state}
use Rattle.stream.specs.declared.header.Header.{Header}
use Rattle.stream.specs.declared.setting.Setting.{Setting}
use Rattle.blocks.proofs.Law.Truth.{le_or_lt}
use Rattle.stream.proofs.Law.Setting.Allowed.{size_some}
use Rattle.stream.proofs.Law.Chunk.Groups.{codes_none, codes_step}
use Rattle.stream.proofs.Law.Chunk.Whole.{whole_facts, whole_left, whole_step, good_whole}
use Rattle.stream.proofs.Law.Chunk.Restoring.{Onward, starts_onward, next_wide, next_whole, goes_on}

module _ (n : ℕ) (p r : List ℕ) (h : group_length n p ≤ length p) where
  some_there : 0 < length p
  unfolding group_length
  some_there = omega (arith, h)

  pub same_width : given_width (p ++ r) ≡ given_width p
  unfolding given_width
  same_width = get_or-append p r 0 0 some_there

  pub same_length : group_length n (p ++ r) ≡ group_length n p
  unfolding group_length
  same_length = ap (λ (w : ℕ). suc (bytes_for w n)) same_width

  pub same_codes : group_codes n (p ++ r) ≡ group_codes n p
  unfolding group_codes group_number group_length
  same_codes =
      ap₂ (λ (w m : ℕ). digits (2 ^ w) n m) same_width
      (ap (number 256)
      (ap₂ (λ (w : ℕ) (l : List ℕ). take (bytes_for w n) l) same_width (drop-append-le 1 p r some_there)
      ∙ take-append-le (bytes_for (given_width p) n) (drop 1 p) r (rw (length-drop 1 p) (omega (arith, h)))))

module _ (size : ℕ) (some : 0 < size) (W : ℕ) where
  none_alike : (n : ℕ) (p r : List ℕ) → n ≤ 0 → chunk_codes size n (p ++ r) ≡ chunk_codes size n p
  none_alike n p r k =
      let e : n ≡ 0 = omega arith in
      ap (λ (m : ℕ). chunk_codes size m (p ++ r)) e ∙ codes_none size some (p ++ r) ∙ sym (ap (λ (m : ℕ). chunk_codes size m p) e ∙ codes_none size some p)

  some_alike : (n : ℕ) (p r : List ℕ) → 0 < n → whole_left size some W n p ≡ true
      → ((q : List ℕ) → whole_left size some W (n - size) q ≡ true → chunk_codes size (n - size) (q ++ r) ≡ chunk_codes size (n - size) q)
      → chunk_codes size n (p ++ r) ≡ chunk_codes size n p
  some_alike n p r k e again =
      let m = min size n in
      let both = (and-eq-true_iff (whole_group W m p) (whole_left size some W (n - size) (drop (group_length m p) p))).0 (sym (whole_step size some W n p k) ∙ e) in
      let whole : group_length m p ≤ length p = (whole_facts W m p both.0).1 in
      codes_step size some n (p ++ r) k
      ∙ ap₂ (λ (a b : List ℕ). a ++ b) (same_codes m p r whole)
      (ap (chunk_codes size (n - size)) (ap (λ (x : ℕ). drop x (p ++ r)) (same_length m p r whole) ∙ drop-append-le (group_length m p) p r whole)
      ∙ again (drop (group_length m p) p) both.1)
      ∙ sym (codes_step size some n p k)

  codes_alike : (f n : ℕ) (p r : List ℕ) → n ≤ f → whole_left size some W n p ≡ true → chunk_codes size n (p ++ r) ≡ chunk_codes size n p
  codes_alike zero n p r k e = none_alike n p r k
  codes_alike (suc f) n p r k e =
      ⊎_elim (λ h. none_alike n p r h) (λ h. some_alike n p r h e (λ q l. codes_alike f (n - size) q r (omega arith) l)) (le_or_lt n 0)

  pub chunk_alike : (n : ℕ) (p r : List ℕ) → whole_chunk W size n p ≡ true → chunk_codes size n (p ++ r) ≡ chunk_codes size n p
  unfolding whole_chunk
  chunk_alike n p r e = codes_alike n n p r (omega arith) e

-- where a walk that ends well stands, in bytes that begin with a chunk's
pub record Going (size : ℕ) (some : 0 < size) (W : ℕ) (s : List ℕ) (left at : ℕ) : Type 0 where
  pub bytes : List ℕ
  pub rest : List ℕ
  pub split : s ≡ bytes ++ rest
  pub onward : Onward size some W bytes left at

module _ (size : ℕ) (some : 0 < size) (W : ℕ) (s : List ℕ) where
  pub starts_going : (n : ℕ) (bytes rest : List ℕ) → s ≡ bytes ++ rest → whole_chunk W size n bytes ≡ true → Going size some W s n 0
  starts_going n bytes rest split whole = record { bytes = bytes; rest = rest; split = split; onward = starts_onward size some W bytes n whole }

  module _ (left at : ℕ) (g : Going size some W s left at) where
    pub going_inside : at ≤ length s
    going_inside = rw (g.split, length-append g.bytes g.rest) (omega (arith, g.onward.inside))

    from_here : drop at s ≡ drop at g.bytes ++ g.rest
    from_here = ap (drop at) g.split ∙ drop-append-le at g.bytes g.rest g.onward.inside

    module _ (count : ℕ) (h : 0 < left) (is : count ≡ min size left) where
      there : group_length count (drop at g.bytes) ≤ length (drop at g.bytes)
      there = next_whole size some W g.bytes left at count g.onward h is

      long : group_length count (drop at s) ≡ group_length count (drop at g.bytes)
      long = ap (group_length count) from_here ∙ same_length count (drop at g.bytes) g.rest there

      pub going_wide : given_width (drop at s) ≤ W
      going_wide = rw (ap given_width from_here ∙ same_width count (drop at g.bytes) g.rest there) (next_wide size some W g.bytes left at count g.onward h is)

      pub going_whole : group_length count (drop at s) ≤ length (drop at s)
      going_whole = rw long (rw (ap length from_here ∙ length-append (drop at g.bytes) g.rest) (omega (arith, there)))

      pub goes : (k : ℕ) → k ≡ group_length count (drop at s) → Going size some W s (left - count) (at + k)
      goes k l = record {
        bytes = g.bytes;
        rest = g.rest;
        split = g.split;
        onward = goes_on size some W g.bytes left at count g.onward h is k (l ∙ long);
      }

-- a chunk of a stream, in the bytes from its start on
module _ (h : Header) (s part : List ℕ) (j : ℕ) (is : part ≡ drop (h.start + start_at h s j) s) where
  begins : part ≡ chunk_of h s j ++ drop (start_at h s (j + 1) - start_at h s j) (drop (h.start + start_at h s j) s)
  unfolding chunk_of
  begins = is ∙ sym (take-append-drop (start_at h s (j + 1) - start_at h s j) (drop (h.start + start_at h s j) s))

  module _ (t : Setting) (n : ℕ) (whole : whole_chunk t.width (group_size t) n (chunk_of h s j) ≡ true) where
    pub chunk_begun : Begun t n part
    chunk_begun = record { bytes = chunk_of h s j; rest = _; split = begins; whole = whole }

    pub chunk_codes_lem : chunk_codes (group_size t) n part ≡ chunk_codes (group_size t) n (chunk_of h s j)
    chunk_codes_lem = ap (chunk_codes (group_size t) n) begins ∙ chunk_alike (group_size t) (size_some t) t.width n (chunk_of h s j) _ whole

-- and a good one is there to be read
pub state_whole : (h : Header) (s : List ℕ) (j : ℕ) → chunk_state h s j ≡ good
    → whole_chunk h.width (group_size (setting_in h)) (count_of h j) (chunk_of h s j) ≡ true
unfolding chunk_state
state_whole h s j e =
    good_whole (group_size (setting_in h)) (size_some (setting_in h)) h.width (limit_of (setting_in h)) (count_of h j) (chunk_of h s j) e
