-- "That two answers meeting it are equal is proved": for each operation, two calls that meet its promise answer the same and leave the
-- same. Each promise is an equation with a definition of specs/, so one law says it of all.
use Rattle.std.specs.Prelude.{Option}
use mathlib.Core.Path.{◌≡◌, sym, ◌∙◌}
use mathlib.Core.List.{List, ◌++◌}
use Prim.Native.Nat.{ℕ}
use lib.IntN.{ℤ}
use lib.ListN.{length, drop}
use Rattle.stream.specs.Operations.{opening_rows, check_rows, check_answer, unpack_answer, unpack_out, probe_answer32, probe_answer64, length_answer, pack_answer, pack_out}
use Rattle.stream.specs.Listing.{listing}
use Rattle.stream.specs.Header.{header_of}
use Rattle.stream.specs.Rows.{first, answer}
use Rattle.stream.specs.Access.{chunk_read, chunk_out, side_part}
use Rattle.std.specs.Prelude.{Float, Result}
use Rattle.stream.specs.declared.answers.Refusal.{Refusal}
use Rattle.stream.specs.declared.answers.Shown.{Shown}
use Rattle.stream.specs.declared.header.Header.{Header}
use Rattle.stream.specs.declared.answers.SidePart.{SidePart}

pub one : {A : Type 0} {promised r r' : A} → r ≡ promised → r' ≡ promised → r ≡ r'
one e e' = e ∙ sym e'

-- an answer, and a lent output afterwards, as one promise
pub record Promised {A B : Type 0} (answer : A) (out : B) (r : A) (now : B) : Type 0 where
  pub answers : r ≡ answer
  pub leaves : now ≡ out

pub both : {A B : Type 0} {answer r r' : A} {out now now' : B} → Promised answer out r now → Promised answer out r' now' → (r ≡ r') × (now ≡ now')
both p p' = (one p.answers p'.answers, one p.leaves p'.leaves)

-- ---- packing: the values vs of width W, at a level and a setting

module _ (W level mode : ℕ) (k : ℤ) (size : ℕ) (vs : List ℕ) where
  pub length_is_settled : (r r' : Result ℕ Refusal) → r ≡ length_answer W level mode k size vs → r' ≡ length_answer W level mode k size vs → r ≡ r'
  length_is_settled r r' = one

  pub pack_is_settled : (out : List ℕ) (r r' : Result ℕ Refusal) (now now' : List ℕ)
      → Promised (pack_answer W level mode k size vs (length out)) (pack_out W level mode k size vs out) r now
      → Promised (pack_answer W level mode k size vs (length out)) (pack_out W level mode k size vs out) r' now'
      → (r ≡ r') × (now ≡ now')
  pack_is_settled out r r' now now' = both

-- ---- reading: the bytes s, at a level

module _ (level : ℕ) (s : List ℕ) where
  pub check_is_settled : (r r' : Result ℕ Refusal) → r ≡ check_answer level s → r' ≡ check_answer level s → r ≡ r'
  check_is_settled r r' = one

  pub unpack_is_settled : (W : ℕ) (out : List ℕ) (r r' : Result ℕ Refusal) (now now' : List ℕ)
      → Promised (unpack_answer W level s (length out)) (unpack_out W level s out) r now
      → Promised (unpack_answer W level s (length out)) (unpack_out W level s out) r' now'
      → (r ≡ r') × (now ≡ now')
  unpack_is_settled W out r r' now now' = both

  pub probe_is_settled32 : (i : ℕ) (r r' : Result (Shown Float ℕ) Refusal) → r ≡ probe_answer32 level s i → r' ≡ probe_answer32 level s i → r ≡ r'
  probe_is_settled32 i r r' = one

  pub probe_is_settled64 : (i : ℕ) (r r' : Result (Shown Float ℕ) Refusal) → r ≡ probe_answer64 level s i → r' ≡ probe_answer64 level s i → r ≡ r'
  probe_is_settled64 i r r' = one

-- ---- the listing of the bytes s into a text

pub listing_is_settled : (s text : List ℕ) (r r' : ℕ) (now now' : List ℕ)
    → Promised (length (listing s)) (listing s ++ drop (length (listing s)) text) r now
    → Promised (length (listing s)) (listing s ++ drop (length (listing s)) text) r' now'
    → (r ≡ r') × (now ≡ now')
listing_is_settled s text r r' now now' = both

-- ---- for libraries above: header::opened, reading::check_opening, one_chunk::values32, values64, sides::part

module _ (level : ℕ) (s : List ℕ) where
  pub opened_is_settled : (r r' : Result Header Refusal) → r ≡ answer (first (opening_rows level s)) (header_of s) → r' ≡ answer (first (opening_rows level s)) (header_of s) → r ≡ r'
  opened_is_settled r r' = one

  pub check_opening_is_settled : (r r' : Result Header Refusal) → r ≡ answer (first (check_rows level s)) (header_of s) → r' ≡ answer (first (check_rows level s)) (header_of s) → r ≡ r'
  check_opening_is_settled r r' = one

pub a_chunk_is_settled : (W : ℕ) (s : List ℕ) (j : ℕ) (out : List ℕ) (r r' : Option ℕ) (now now' : List ℕ)
    → Promised (chunk_read W s j (length out)) (chunk_out W s j out) r now → Promised (chunk_read W s j (length out)) (chunk_out W s j out) r' now' → (r ≡ r') × (now ≡ now')
a_chunk_is_settled W s j out r r' now now' = both

pub a_side_part_is_settled : (s : List ℕ) (id : ℕ) (r r' : Option SidePart) → r ≡ side_part s id → r' ≡ side_part s id → r ≡ r'
a_side_part_is_settled s id r r' = one
