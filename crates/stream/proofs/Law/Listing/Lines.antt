-- The lines of a listing, from the numbers that the code has read.
use mathlib.Core.Path.{◌≡◌, refl, sym, ap, ◌∙◌}
use mathlib.Core.Bool.{true, false}
use mathlib.Core.List.{List, ◌++◌}
use Prim.Native.Nat.{ℕ, ◌+◌, ◌-◌, ◌≤◌, ◌<◌}
use native.Mathlib.Numerals.{add-one}
use native.Mathlib.Omega.{arith}
use borrow.Author.Tests.{lt-ltb, le-ltb}
use mir.Facts.{to_z-of_z}
use mir.Syntax.{w32}
use mir.Val.{SFits, to_z, of_z}
use lib.IntN.{ℤ, pos, negsuc, nat_abs}
use lib.ListN.{length, drop}
use lib.Signed.{lt_z}
use Rattle.blocks.specs.Bytes.{Below}
use Rattle.stream.specs.Setting.{group_size}
use Rattle.stream.specs.Chunk.{groups_in}
use Rattle.stream.specs.Header.{header_of, setting_in}
use Rattle.stream.specs.Tables.{start_at, chunk_table_right}
use Rattle.stream.specs.Stream.{joined, count_of}
use Rattle.stream.specs.Relied.{Opened}
use Rattle.stream.specs.Rows.{first}
use Rattle.stream.specs.Operations.{opening_rows, content_rows, check_rows, check_answer}
use Rattle.stream.specs.Setting.{highest_level}
use Rattle.stream.specs.Listing.{most_input, decimal, minus, signed_decimal, newline, labelled, too_long}
use Rattle.stream.specs.Listing.{chunk_word, at_word, bytes_word, groups_word, chunk_line, answer_lines, listing, Appends}
use Rattle.std.specs.Prelude.{Result, Ok}
use Rattle.stream.specs.declared.answers.Refusal.{Refusal}
use Rattle.stream.specs.declared.header.Header.{Header}
use Rattle.stream.proofs.Law.Rows.First.{opened_both, done_pass}
use Rattle.stream.proofs.Law.Rows.Passed.{opened_as, checking}

-- ---- a signed number, from its size and its test against 0

negative_text : (x : ℤ) → lt_z x (pos 0) ≡ true → minus ++ decimal (nat_abs x) ≡ signed_decimal x
unfolding signed_decimal
negative_text (pos n) t = let z : false ≡ true = sym (le-ltb n 0 (omega arith)) ∙ t in cc
negative_text (negsuc n) t = refl

positive_text : (x : ℤ) → lt_z x (pos 0) ≡ false → decimal (nat_abs x) ≡ signed_decimal x
unfolding signed_decimal
positive_text (pos n) t = refl
positive_text (negsuc n) t = let z : true ≡ false = t in cc

module _ (x : ℤ) (f : SFits w32 x) (size : ℕ) (is : size ≡ nat_abs (to_z w32 (of_z w32 x))) where
  size_is : size ≡ nat_abs x
  size_is = is ∙ ap nat_abs (to_z-of_z f)

  pub negative_is : lt_z (to_z w32 (of_z w32 x)) (pos 0) ≡ true → minus ++ decimal size ≡ signed_decimal x
  negative_is t = rw size_is (negative_text x (rw (to_z-of_z f) at t))

  pub positive_is : lt_z (to_z w32 (of_z w32 x)) (pos 0) ≡ false → decimal size ≡ signed_decimal x
  positive_is t = rw size_is (positive_text x (rw (to_z-of_z f) at t))

-- ---- the line of a chunk, and of the chunks

pub chunk_line_is : (h : Header) (s : List ℕ) (j start end groups : ℕ) → start ≡ start_at h s j → end ≡ start_at h s (j + 1) → groups ≡ groups_in (group_size (setting_in h)) (count_of h j)
    → labelled chunk_word j ++ labelled at_word start ++ labelled bytes_word (end - start) ++ labelled groups_word groups ++ newline
    ≡ chunk_line h s j
unfolding chunk_line
chunk_line_is h s j start end groups starts ends counts = rw (starts, ends, counts)

pub one_line_more : (f : ℕ → List ℕ) (j : ℕ) → joined f j ++ f j ≡ joined f (j + 1)
unfolding joined
one_line_more f j = rw add-one

-- ---- the whole text

-- what is relied on of a stream that the check accepts
pub accepted : (level : ℕ) (s : List ℕ) → Below 256 s → (n : ℕ) → check_answer level s ≡ Ok n
    → Opened (length s) (header_of s) × (chunk_table_right (header_of s) s ≡ true)
unfolding check_answer check_rows
accepted level s b n e =
    let pass = (done_pass (first (check_rows level s)) (header_of s).count n e).0 in
    let opening = (opened_both (opening_rows level s) (content_rows (header_of s) s) pass).0 in
    (opened_as level s opening b (header_of s) refl, (checking level s pass).1.chunks)

-- the same through the header h that the code has read
pub as_read : (s : List ℕ) (h : Header) → h ≡ header_of s → Opened (length s) (header_of s) × (chunk_table_right (header_of s) s ≡ true)
    → Opened (length s) h × (chunk_table_right h s ≡ true)
as_read s h e o = rw e o

pub too_long_is : (s : List ℕ) → most_input < length s → too_long ++ newline ≡ listing s
unfolding listing
too_long_is s l = rw (lt-ltb most_input (length s) l)

pub answered_is : (s : List ℕ) → length s ≤ most_input → (found a : Result ℕ Refusal) → found ≡ check_answer highest_level s → found ≡ a
    → answer_lines a s ≡ listing s
unfolding listing
answered_is s l found a e is = rw (le-ltb most_input (length s) l, ← e, is)

-- a piece that is written at the very front
pub whole : {piece : List ℕ} {next : ℕ} {out new : List ℕ} → Appends piece 0 next out new
    → (next ≡ length piece) × (new ≡ piece ++ drop (length piece) out)
whole {piece} {next} {out} p =
    let e : next ≡ length piece = omega (arith, p.next_is) in
    (e, p.is ∙ ap (λ (n : ℕ). piece ++ drop n out) e)
