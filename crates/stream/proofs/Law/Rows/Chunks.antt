-- The rows of the tables and the chunks, from what the checks find.
use Rattle.std.specs.Prelude.{Ok, Err}
use mathlib.Core.Path.{◌≡◌, refl, sym, ap, ◌∙◌}
use mathlib.Core.Bool.{Bool, true, false, ◌&&◌}
use mathlib.Core.List.{List, [], ◌∷◌}
use Prim.Native.Nat.{ℕ, zero, suc, ◌+◌, ◌*◌, ◌<◌}
use native.Mathlib.Omega.{arith}
use lib.ListN.{get_or, replicate}
use Rattle.stream.specs.Setting.{group_size, limit_of, patterns_of}
use Rattle.stream.specs.Chunk.{Verdict, good, chunk_answer, chunk_codes}
use Rattle.stream.specs.Header.{setting_in}
use Rattle.stream.specs.Stream.{count_of, chunk_of, chunk_state, chunk_values}
use Rattle.stream.specs.Rows.{Row, rows_from, numbers_of, first}
use Rattle.stream.specs.Tables.{chunk_table_right, side_table_right, ids_in}
use Rattle.stream.specs.Operations.{side_rows, table_rows, fault_detail, fault_row, chunk_row, chunk_rows}
use Rattle.std.specs.Prelude.{Ok, Err}
use Rattle.stream.specs.declared.answers.Refusal.TheVariants.{BrokenTable, BrokenChunk}
use Rattle.stream.specs.declared.header.Header.{Header}
use Rattle.stream.specs.declared.setting.Setting.{Setting}
use Rattle.stream.proofs.Law.Plain.Scan.{rows_at}

module _ (h : Header) (s : List ℕ) (j : ℕ) where
  -- the chunk, from its parts as the code has them
  module _ (t : Setting) (n : ℕ) (part : List ℕ) (setting : t ≡ setting_in h) (counts : n ≡ count_of h j) (parts : part ≡ chunk_of h s j) where
    state_is : chunk_answer t.width (limit_of t) (group_size t) n part ≡ chunk_state h s j
    unfolding chunk_state
    state_is = rw (setting, counts, parts)

    pub found_is : (r a : Verdict) → r ≡ chunk_answer t.width (limit_of t) (group_size t) n part → r ≡ a → chunk_state h s j ≡ a
    found_is r a e is = sym state_is ∙ sym e ∙ is

    pub good_is : chunk_state h s j ≡ good → chunk_answer t.width (limit_of t) (group_size t) n part ≡ good
    good_is g = state_is ∙ g

    pub values_are : patterns_of t (chunk_codes (group_size t) n part) ≡ chunk_values h s j
    unfolding chunk_values
    values_are = rw (setting, counts, parts)

    pub value_is : (v i : ℕ) → v ≡ get_or (patterns_of t (chunk_codes (group_size t) n part)) i 0 → v ≡ get_or (chunk_values h s j) i 0
    value_is v i e = e ∙ ap (λ (vs : List ℕ). get_or vs i 0) values_are

  pub good_row : chunk_state h s j ≡ good → Ok tt ≡ first (chunk_row h s j ∷ [])
  unfolding chunk_row fault_row first
  good_row e = rw e

  pub bad_row : (group : ℕ) → chunk_state h s j ≡ Err group → Err (BrokenChunk (j * 32 + group)) ≡ first (chunk_row h s j ∷ [])
  unfolding chunk_row fault_row fault_detail first
  bad_row group e = rw e

  row_passed : (a : Verdict) → first (fault_row j a ∷ []) ≡ Ok tt → a ≡ good
  unfolding fault_row first
  row_passed (Ok kept) e = refl
  row_passed (Err group) e = let z : Err (BrokenChunk (fault_detail j group)) ≡ Ok tt = e in cc

  pub passed_good : first (chunk_row h s j ∷ []) ≡ Ok tt → chunk_state h s j ≡ good
  unfolding chunk_row
  passed_good e = row_passed (chunk_state h s j) e

-- rows of which none is given: every chunk is good
pub all_good : (h : Header) (s : List ℕ) → first (chunk_rows h s) ≡ Ok tt → (j : ℕ) → j < h.chunks → chunk_state h s j ≡ good
unfolding chunk_rows
all_good h s e j l = passed_good h s j (rows_at (chunk_row h s) h.chunks 0 j e (omega arith) (omega arith))

-- "10", a row for each chunk
ten : (h : Header) (s : List ℕ) (j : ℕ) (rows : List Row) → numbers_of (chunk_row h s j ∷ rows) ≡ 10 ∷ numbers_of rows
unfolding chunk_row fault_row numbers_of
ten h s j rows = go (chunk_state h s j)
  where
    go : (a : Verdict) → numbers_of (fault_row j a ∷ rows) ≡ 10 ∷ numbers_of rows
    go (Ok kept) = refl
    go (Err group) = refl

tens : (h : Header) (s : List ℕ) (k i : ℕ) → numbers_of (rows_from (chunk_row h s) k i) ≡ replicate k 10
unfolding numbers_of rows_from
tens h s zero i = refl
tens h s (suc k) i = ten h s i (rows_from (chunk_row h s) k (suc i)) ∙ ap (λ (l : List ℕ). 10 ∷ l) (tens h s k (suc i))

pub chunk_numbers : (h : Header) (s : List ℕ) → numbers_of (chunk_rows h s) ≡ replicate h.chunks 10
unfolding chunk_rows
chunk_numbers h s = tens h s h.chunks 0

pub own_number : (h : Header) (s : List ℕ) (j : ℕ) → numbers_of (chunk_row h s j ∷ []) ≡ 10 ∷ []
unfolding numbers_of
own_number h s j = ten h s j []

-- the tables' row, from the two tests
module _ (h : Header) (s : List ℕ) (a b : Bool) (chunks : a ≡ chunk_table_right h s) (sides : b ≡ side_table_right h s) where
  pub tables_pass : a && b ≡ true → first (side_rows h (ids_in h s)) ≡ first (table_rows h s)
  unfolding table_rows first
  tables_pass e = rw (← chunks, ← sides, e)

  pub tables_stop : a && b ≡ false → Err BrokenTable ≡ first (table_rows h s)
  unfolding table_rows first
  tables_stop e = rw (← chunks, ← sides, e)
