-- The summary as a side part, and the copy of a stream that has it (`with_summary`).
use mathlib.Core.Path.{◌≡◌, refl, sym, ap, ap₂, ◌∙◌, fun_ext}
use mathlib.Core.Logic.{◌↔◌}
use mathlib.Core.Bool.{true, false}
use mathlib.Core.List.{List, [], ◌∷◌, ◌++◌}
use Prim.Native.Nat.{ℕ, ◌+◌, ◌*◌, ◌/◌, ◌^◌, ◌≤◌}
use native.Mathlib.Nat.{mul-le-mul}
use native.Mathlib.Omega.{arith}
use lib.Dec.{lit<, lit≤}
use lib.ListN.{length}
use Rattle.blocks.specs.Bytes.{Below, digits}
use Rattle.blocks.proofs.Law.Digits.{byte, below_cons, below_append, digits_below}
use Rattle.stream.specs.Setting.{fraction_bits}
use Rattle.stream.specs.Header.{header_of}
use Rattle.stream.specs.Tables.{ids_in, high_id, some_high}
use Rattle.stream.specs.Stream.{joined, chunk_values}
use Rattle.stream.specs.Writing.{Side, entries, parts, ids_of, increasing, WellFormedSides}
use Rattle.stream.specs.Access.{has_id, place_of, side_bytes}
use Rattle.stream.specs.Rows.{first}
use Rattle.stream.specs.Operations.{check_rows}
use Rattle.std.specs.Prelude.{Ok}
use Rattle.stream.specs.declared.header.Header.{Header}
use Rattle.stream.proofs.Law.Plain.Joined.{joined_below}
use Rattle.stream.proofs.Law.Setting.Allowed.{settled}
use Rattle.stream.proofs.Law.Rows.Passed.{checking}
use Rattle.stream.proofs.Law.Accepted.{accepted_layout}
use Rattle.summary.specs.Entry.{entry_length, entry_bytes, nans_in, smallest, largest}
use Rattle.summary.specs.Summary.{summary_id, chunk_entry, summary_in, summary, with_summary, same, summary_true}
use Rattle.summary.proofs.Law.Part.{same_refl, same_equal, length_summary}
use Rattle.summary.proofs.Law.Adding.{length_with}
use Rattle.summary.specs.Theorem.{counted, ReadAs}
use Rattle.summary.proofs.Law.Copy.{header_copied, values_copied, check_copied, read_as}
use Rattle.summary.proofs.Law.Copy.{has_copied, place_copied, part_copied}
use Rattle.summary.proofs.Law.Short.{accepted_short}

-- ---- "byte for byte"

pub same_eq : (xs ys : List ℕ) → (same xs ys ≡ true) ↔ (xs ≡ ys)
same_eq xs ys = (same_equal xs ys, λ e. ap (same xs) (sym e) ∙ same_refl xs)

-- ---- its bytes

pub entry_below : (W m : ℕ) (vs : List ℕ) → Below 256 (entry_bytes W m vs)
unfolding entry_bytes
entry_below W m vs =
    let nans = digits 256 4 (nans_in W m vs) in
    let low = digits 256 (W / 8) (smallest W m vs) in
    let high = digits 256 (W / 8) (largest W m vs) in
    below_append 256 (nans ++ low) high
    (below_append 256 nans low (digits_below 256 byte 4 (nans_in W m vs)) (digits_below 256 byte (W / 8) (smallest W m vs)))
    (digits_below 256 byte (W / 8) (largest W m vs))

module _ (h : Header) (s : List ℕ) where
  pub summary_bytes : Below 256 (summary_in h s)
  unfolding summary_in chunk_entry
  summary_bytes = joined_below (chunk_entry h s) 256 byte (λ j. entry_below h.width (fraction_bits h.width) (chunk_values h s j)) h.chunks

-- ---- how long the copy is

pub length_copy : (s : List ℕ) → 48 ≤ length s → length (with_summary s) ≡ length s + 12 + (header_of s).chunks * entry_length (header_of s).width
unfolding summary
length_copy s long = length_with s long ∙ ap (λ (n : ℕ). length s + 12 + n) (length_summary (header_of s) s)

-- ---- the copy of an accepted stream without side parts

module _ (level : ℕ) (s : List ℕ) (pass : first (check_rows level s) ≡ Ok tt) (bytes : Below 256 s) (none : (header_of s).sides ≡ 0) where
  abbrev h : Header
  h = header_of s

  abbrev part : Side
  part = record { id = summary_id; bytes = summary s }

  abbrev copy : List ℕ
  copy = with_summary s

  -- an entry has at most 20 bytes
  summary_short : length (summary s) ≤ 1024 * 20
  unfolding summary entry_length
  summary_short =
      let laid = accepted_layout level s pass in
      let narrow = (settled h (checking level s pass).0.setting).narrow in
      let few : h.chunks ≤ 1024 = omega (arith, laid) in
      let small : 4 + 2 * (h.width / 8) ≤ 20 = omega (arith, narrow) in
      let most : h.chunks * (4 + 2 * (h.width / 8)) ≤ 1024 * 20 = mul-le-mul few small in
      omega (arith, length_summary h s, most)

  pub summary_well : WellFormedSides (length s + 12 * 1) (part ∷ [])
  unfolding increasing entries parts summary summary_id
  summary_well =
      let place = length s + 12 * 1 in
      record {
        few = lit≤ tt;
        ordered = refl;
        numbers =
            below_cons (2 ^ 32) 1 (place ∷ length (summary s) ∷ []) (lit< tt)
            (below_cons (2 ^ 32) place (length (summary s) ∷ []) (omega (arith, accepted_short level s pass bytes none))
            (below_cons (2 ^ 32) (length (summary s)) [] (omega (arith, summary_short)) (λ i. lit< tt)));
        are_bytes = below_append 256 (summary s) [] (summary_bytes h s) (λ i. byte);
      }

  id_low : some_high (ids_of (part ∷ [])) ≡ false
  unfolding some_high high_id ids_of summary_id
  id_low = refl

  pub copy_header : header_of copy ≡ counted h 1
  unfolding with_summary
  copy_header = header_copied level s pass none (part ∷ []) summary_well id_low

  pub copy_read_as : ReadAs s copy
  unfolding with_summary
  copy_read_as = read_as level s pass none (part ∷ []) summary_well id_low

  -- it is accepted, or not, with the stream
  pub copy_checked : (L : ℕ) → first (check_rows L copy) ≡ first (check_rows L s)
  unfolding with_summary
  copy_checked = check_copied level s pass none (part ∷ []) summary_well id_low

  pub copy_values : (j : ℕ) → chunk_values (header_of copy) copy j ≡ chunk_values h s j
  unfolding with_summary
  copy_values = values_copied level s pass none (part ∷ []) summary_well id_low

  entry_copied : (j : ℕ) → chunk_entry (header_of copy) copy j ≡ chunk_entry h s j
  unfolding chunk_entry
  entry_copied j = ap₂ (λ (W : ℕ) (vs : List ℕ). entry_bytes W (fraction_bits W) vs) (ap (λ (x : Header). x.width) copy_header) (copy_values j)

  pub copy_summary : summary copy ≡ summary s
  unfolding summary summary_in
  copy_summary = ap₂ (λ (f : ℕ → List ℕ) (k : ℕ). joined f k) (fun_ext entry_copied) (ap (λ (x : Header). x.chunks) copy_header)

  -- where the summary lies in it
  pub copy_part : side_bytes (header_of copy) copy summary_id ≡ summary s
  unfolding with_summary
  copy_part = part_copied level s pass none part summary_well id_low

  pub copy_place : place_of (header_of copy) copy summary_id ≡ length s + 12
  unfolding with_summary
  copy_place = place_copied level s pass none part summary_well id_low

  has_summary : has_id summary_id (ids_in (header_of copy) copy) ≡ true
  unfolding with_summary
  has_summary = has_copied level s pass none part summary_well id_low

  pub copy_true : summary_true copy ≡ true
  unfolding summary_true
  copy_true = rw (has_summary, copy_part, copy_summary) (same_refl (summary s))
