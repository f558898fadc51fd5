-- What a right chunk table says of each chunk: it starts before the next one, and the last one ends with the data.
use mathlib.Core.Path.{◌≡◌, ap, ◌∙◌}
use mathlib.Core.Bool.{true}
use mathlib.Core.List.{List}
use Prim.Native.Nat.{ℕ, zero, suc, ◌+◌, ◌-◌, ◌≤◌, ◌<◌}
use native.Mathlib.Nat.{le_of_eq}
use native.Mathlib.Omega.{arith}
use borrow.Author.Tests.{ltb-true, le-ltb}
use lib.Dec.{eqb}
use lib.ListN.{take, drop}
use Rattle.stream.specs.Tables.{every, start_at, start_right, chunk_table_right}
use Rattle.stream.specs.Relied.{Layout}
use Rattle.stream.specs.Stream.{chunk_of}
use Rattle.stream.specs.declared.header.Header.{Header}
use Rattle.stream.proofs.Law.Plain.Truth.{and_right}
use Rattle.stream.proofs.Law.Plain.Scan.{every_at}

module _ (h : Header) (s : List ℕ) (right : chunk_table_right h s ≡ true) where
  pub rising : (j : ℕ) → j < h.chunks → start_at h s j < start_at h s (j + 1)
  unfolding chunk_table_right start_right
  rising j l =
      ltb-true (start_at h s j) (start_at h s (j + 1))
      (every_at (start_right h s) h.chunks 0 j (and_right (eqb (start_at h s 0) 0) (every (start_right h s) h.chunks 0) right) (omega arith) (omega arith))

  rising_on : (i d : ℕ) → i + d ≤ h.chunks → start_at h s i ≤ start_at h s (i + d)
  rising_on i zero l = le_of_eq (ap (start_at h s) (let e : i ≡ i + 0 = omega arith in e))
  rising_on i (suc d) l =
      let e : i + d + 1 ≡ i + suc d = omega arith in
      omega (arith, rising_on i d (omega arith), rising (i + d) (omega arith), ap (start_at h s) e)

  -- a chunk ends before a later one starts
  pub ends_before : (i j : ℕ) → i < j → j ≤ h.chunks → start_at h s (i + 1) ≤ start_at h s j
  ends_before i j l m =
      let e : i + 1 + (j - (i + 1)) ≡ j = omega arith in
      omega (arith, rising_on (i + 1) (j - (i + 1)) (omega arith), ap (start_at h s) e)

  last_end : start_at h s h.chunks ≡ h.end - h.start
  unfolding start_at
  last_end = rw (le-ltb h.chunks h.chunks (omega arith))

  -- from the last chunk back
  from_last : (d : ℕ) → d ≤ h.chunks → start_at h s (h.chunks - d) ≤ h.end - h.start
  from_last zero l = le_of_eq (ap (start_at h s) (let e : h.chunks - 0 ≡ h.chunks = omega arith in e) ∙ last_end)
  from_last (suc d) l =
      let e : h.chunks - suc d + 1 ≡ h.chunks - d = omega arith in
      omega (arith, rising (h.chunks - suc d) (omega arith), ap (start_at h s) e, from_last d (omega arith))

  pub within_data : (j : ℕ) → j ≤ h.chunks → start_at h s j ≤ h.end - h.start
  within_data j l =
      let e : h.chunks - (h.chunks - j) ≡ j = omega arith in
      omega (arith, ap (start_at h s) e, from_last (h.chunks - j) (omega arith))

-- where the chunk j lies, and its bytes from its two ends
module _ (size : ℕ) (h : Header) (s : List ℕ) (l : Layout size h) (right : chunk_table_right h s ≡ true) (j : ℕ) (below : j < h.chunks) where
  pub placed : (start_at h s j < start_at h s (j + 1)) × (h.start + start_at h s (j + 1) ≤ h.end)
  placed = (rising h s right j below, omega (arith, within_data h s right (j + 1) (omega arith)))

pub ends_are : (h : Header) (s : List ℕ) (j from to : ℕ) → from ≡ start_at h s j → to ≡ start_at h s (j + 1)
    → take (h.start + to - (h.start + from)) (drop (h.start + from) s) ≡ chunk_of h s j
unfolding chunk_of
ends_are h s j from to f t =
    rw (f, t)
    (ap (λ (n : ℕ). take n (drop (h.start + start_at h s j) s))
    (let e : h.start + start_at h s (j + 1) - (h.start + start_at h s j) ≡ start_at h s (j + 1) - start_at h s j = omega arith in e))
