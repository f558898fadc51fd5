-- A stream that a check has accepted, through the header that the code has read: its width, its places, and the values of a chunk as they are read.
use Rattle.std.specs.Prelude.{Some}
use mathlib.Core.Path.{◌≡◌, sym, ap, ap₂, subst, ◌∙◌}
use mathlib.Core.Bool.{true}
use mathlib.Core.List.{List, ◌++◌}
use Prim.Native.Nat.{ℕ, ◌≤◌, ◌<◌}
use native.Mathlib.Omega.{arith}
use lib.ListN.{length, take, drop}
use lib.Seq.{take_at}
use Rattle.stream.specs.Setting.{known_width}
use Rattle.stream.specs.Header.{header_of}
use Rattle.stream.specs.Stream.{count_of, chunk_values}
use Rattle.stream.specs.Access.{chunk_read, chunk_out}
use Rattle.stream.specs.Lent.{chosen}
use Rattle.stream.specs.Relied.{Layout}
use Rattle.std.specs.Prelude.{Ok, Err}
use Rattle.stream.specs.declared.answers.Refusal.{Refusal}
use Rattle.stream.specs.Operations.{check_rows}
use Rattle.stream.specs.Rows.{Row, first, answer}
use Rattle.stream.specs.declared.header.Header.{Header}
use Rattle.stream.proofs.Law.Setting.Allowed.{settled}
use Rattle.stream.proofs.Law.Lent.Chosen.{at_32, at_other}
use Rattle.stream.proofs.Law.Header.Opening.{open_is}
use Rattle.stream.proofs.Law.Rows.First.{opened, shut, refused_stop}
use Rattle.stream.proofs.Law.Rows.Passed.{checking}
use Rattle.stream.proofs.Law.Values.Counts.{length_chunk}
use Rattle.stream.proofs.Law.Accepted.{accepted_layout, accepted_chunk}
use Rattle.summary.specs.Private.{Accepted}

-- of the scratch that is lent, the list of the width counts
pub scratch_32 : (W : ℕ) (a b : List ℕ) (n : ℕ) → W ≡ 32 → n ≤ length a → n ≤ length (chosen W a b)
scratch_32 W a b n w h = rw (at_32 W a b w) h

pub scratch_other : (W : ℕ) (a b : List ℕ) (n : ℕ) → (W ≡ 32 → ⊥) → n ≤ length b → n ≤ length (chosen W a b)
scratch_other W a b n w h = rw (at_other W a b w) h

pub count_few : (h : Header) (j : ℕ) → count_of h j ≤ 1024
unfolding count_of
count_few h j = omega arith

module _ (h : Header) (s : List ℕ) (a : Accepted h s) where
  pub layout : Layout (length s) h
  layout = rw a.header (accepted_layout a.level s a.pass)

  pub known : known_width h.width ≡ true
  known = rw a.header (settled (header_of s) (checking a.level s a.pass).0.setting).known

  pub long_enough : 48 ≤ length s
  long_enough = (checking a.level s a.pass).0.long

  pub chunks_few : h.chunks ≤ 1024
  chunks_few = omega (arith, layout.few, layout.chunks)

  module _ (j : ℕ) (below : j < h.chunks) (out : List ℕ) (room : 1024 ≤ length out) (W : ℕ) (w : h.width ≡ W) where
    there : (chunk_read h.width s j (length out) ≡ Some (count_of h j)) × (chunk_out h.width s j out ≡ chunk_values h s j ++ drop (count_of h j) out)
    there =
        subst (λ (x : Header). (chunk_read x.width s j (length out) ≡ Some (count_of x j)) × (chunk_out x.width s j out ≡ chunk_values x s j ++ drop (count_of x j) out)) (sym a.header)
        (accepted_chunk a.level s a.pass j (subst (λ (x : Header). j < x.chunks) a.header below) out (omega (arith, count_few (header_of s) j, room)))

    pub read_there : chunk_read W s j (length out) ≡ Some (count_of h j)
    read_there = ap (λ (x : ℕ). chunk_read x s j (length out)) (sym w) ∙ there.0

    pub read_values : (n : ℕ) → n ≡ count_of h j → take n (chunk_out W s j out) ≡ chunk_values h s j
    read_values n is =
        ap₂ (λ (k x : ℕ). take k (chunk_out x s j out)) is (sym w)
        ∙ ap (take (count_of h j)) there.1
        ∙ take_at (chunk_values h s j) (drop (count_of h j) out) (count_of h j) (length_chunk h s j)

-- ---- what an operation answers behind the check

-- the header that the check has left is an accepted one's
pub accepted_by : (level : ℕ) (s : List ℕ) (h : Header) → answer (first (check_rows level s)) (header_of s) ≡ Ok h → Accepted h s
accepted_by level s h e = let o = open_is (first (check_rows level s)) (header_of s) h e in record { level = level; pass = o.0; header = o.1 }

module _ (level : ℕ) (s : List ℕ) (rest : List Row) where
  -- the check's refusal comes first
  pub behind_stop : (refusal : Refusal) → answer (first (check_rows level s)) (header_of s) ≡ Err refusal → first (check_rows level s ++ rest) ≡ Err refusal
  behind_stop refusal e = shut refusal (check_rows level s) rest (refused_stop (first (check_rows level s)) (header_of s) refusal e)

  -- and where there is none, the rest decides
  pub behind_pass : first (check_rows level s) ≡ Ok tt → first (check_rows level s ++ rest) ≡ first rest
  behind_pass e = opened (check_rows level s) rest e
