-- The rows of the list, against those of the opening and of the check: which is given, or what is left when none is.
use mathlib.Core.Path.{◌≡◌, sym, ap, subst, ◌∙◌}
use mathlib.Core.Bool.{true, false}
use mathlib.Core.List.{List, [], ◌∷◌, ◌++◌, append_assoc}
use Prim.Native.Nat.{ℕ, ◌^◌, ◌≤◌, ◌<◌}
use borrow.Author.Tests.{lt-ltb, le-ltb, eq-eqb, ne_eqb}
use lib.ListN.{length, drop}
use Rattle.stream.specs.Setting.{known_level, fraction_bits}
use Rattle.stream.specs.Header.{header_of}
use Rattle.stream.specs.Rows.{Row, first, answer, after}
use Rattle.stream.specs.Operations.{opening_rows, content_rows, width_row, check_rows}
use Rattle.std.specs.Prelude.{⊤, Result, Ok, Err}
use Rattle.stream.specs.declared.answers.Refusal.{Refusal}
use Rattle.stream.specs.declared.answers.Refusal.TheVariants.{UnknownLevel, NotAllowed, NoRoom, OtherWidth, NoTrueSummary}
use Rattle.stream.specs.declared.header.Header.{Header}
use Rattle.stream.proofs.Law.Rows.First.{opened, opened_both, shut}
use Rattle.summary.specs.Order.{not_a_number}
use Rattle.summary.specs.Summary.{summary_true, chunks_from}
use Rattle.summary.specs.Operations.{summary_row, room_for, x_row, list_rows, list_answer, list_out}
use Rattle.summary.specs.Private.{Comparable, ListOpened}

module _ (x : ℕ) (s : List ℕ) where
  -- 17 4: the last two rows
  abbrev pub last_rows : ℕ → List Row
  last_rows room = summary_row s ∷ room_for room (chunks_from x s) ∷ []

  -- ---- which of them is given, and what the output then holds

  module _ (out : List ℕ) where
    abbrev pub LastSay : Result ℕ Refusal → List ℕ → Type 0
    LastSay r new =
        (r ≡ answer (first (last_rows (length out))) (length (chunks_from x s)))
        × (new ≡ after (first (last_rows (length out))) (chunks_from x s ++ drop (length (chunks_from x s)) out) out)

    pub last_untrue : summary_true s ≡ false → LastSay (Err NoTrueSummary) out
    unfolding summary_row first answer after
    last_untrue e = (rw e, rw e)

    module _ (true-one : summary_true s ≡ true) (n : ℕ) (is : n ≡ length (chunks_from x s)) where
      pub last_short : length out < n → LastSay (Err (NoRoom n)) out
      unfolding summary_row room_for first answer after
      last_short l =
          let t = lt-ltb (length out) (length (chunks_from x s)) (subst (λ (m : ℕ). length out < m) is l) in
          (rw (true-one, t) (ap (λ (m : ℕ). Err (NoRoom m)) is), rw (true-one, t))

      pub last_done : n ≤ length out → (new : List ℕ) → new ≡ chunks_from x s ++ drop (length (chunks_from x s)) out → LastSay (Ok n) new
      unfolding summary_row room_for first answer after
      last_done l new e =
          let t = le-ltb (length out) (length (chunks_from x s)) (subst (λ (m : ℕ). m ≤ length out) is l) in
          (rw (true-one, t) (ap Ok is), rw (true-one, t) e)

-- ---- the answer and the output, from the first row that is given

module _ (W level x : ℕ) (s out : List ℕ) where
  abbrev pub ListSays : Result ℕ Refusal → List ℕ → Type 0
  ListSays r new = (r ≡ list_answer W level x s (length out)) × (new ≡ list_out W level x s out)

  refused : (refusal : Refusal) → first (list_rows W level x s (length out)) ≡ Err refusal → ListSays (Err refusal) out
  unfolding list_answer list_out answer after
  refused refusal stop = (rw stop, rw stop)

  pub level_unknown : known_level level ≡ false → ListSays (Err UnknownLevel) out
  unfolding list_rows first
  level_unknown e = refused UnknownLevel (rw e)

  module _ (known : known_level level ≡ true) where
    pub x_no_number : not_a_number W (fraction_bits W) x ≡ true → ListSays (Err NotAllowed) out
    unfolding list_rows x_row first
    x_no_number e = refused NotAllowed (rw (known, e))

    module _ (number : not_a_number W (fraction_bits W) x ≡ false) where
      -- without row 2, the list begins with the opening's rows
      without_two : first (list_rows W level x s (length out))
          ≡ first (opening_rows level s ++ (width_row W (header_of s) ∷ content_rows (header_of s) s) ++ last_rows x s (length out))
      unfolding list_rows x_row opening_rows first
      without_two = rw (known, number)

      behind_two : first (list_rows W level x s (length out))
          ≡ first (opening_rows level s ++ ((width_row W (header_of s) ∷ content_rows (header_of s) s) ++ last_rows x s (length out)))
      behind_two = without_two ∙ ap first (append_assoc (opening_rows level s) (width_row W (header_of s) ∷ content_rows (header_of s) s) (last_rows x s (length out)))

      pub list_shut : (refusal : Refusal) → first (opening_rows level s) ≡ Err refusal → ListSays (Err refusal) out
      list_shut refusal e =
          refused refusal (behind_two ∙ shut refusal (opening_rows level s) ((width_row W (header_of s) ∷ content_rows (header_of s) s) ++ last_rows x s (length out)) e)

      module _ (pass : first (opening_rows level s) ≡ Ok tt) where
        behind_opening : first (list_rows W level x s (length out)) ≡ first ((width_row W (header_of s) ∷ content_rows (header_of s) s) ++ last_rows x s (length out))
        behind_opening =
            behind_two ∙ opened (opening_rows level s) ((width_row W (header_of s) ∷ content_rows (header_of s) s) ++ last_rows x s (length out)) pass

        module _ (h : Header) (is : h ≡ header_of s) where
          pub list_width : (h.width ≡ W → ⊥) → ListSays (Err OtherWidth) out
          unfolding width_row first
          list_width n = refused OtherWidth (rw (ne_eqb (header_of s).width W (λ e. n (ap (λ (g : Header). g.width) is ∙ e))) at behind_opening)

          pub list_opened : h.width ≡ W → ListOpened W level x s
          list_opened e = record { known = known; number = number; opening = pass; width = ap (λ (g : Header). g.width) (sym is) ∙ e }

  -- the rows in front of the tables' have passed: the check's refusal, or the last two rows
  module _ (o : ListOpened W level x s) where
    behind_width : first (list_rows W level x s (length out)) ≡ first (content_rows (header_of s) s ++ last_rows x s (length out))
    unfolding width_row first
    behind_width = rw (eq-eqb (header_of s).width W o.width) at (behind_opening o.known o.number o.opening)

    pub check_refuses : (refusal : Refusal) → first (check_rows level s) ≡ Err refusal → ListSays (Err refusal) out
    unfolding check_rows
    check_refuses refusal e =
        refused refusal (behind_width
        ∙ shut refusal (content_rows (header_of s) s) (last_rows x s (length out))
        (sym (opened (opening_rows level s) (content_rows (header_of s) s) o.opening) ∙ e))

    pub check_passes : first (check_rows level s) ≡ Ok tt → (r : Result ℕ Refusal) (new : List ℕ) → LastSay x s out r new → ListSays r new
    unfolding check_rows list_answer list_out
    check_passes e r new l =
        let pass = (opened_both (opening_rows level s) (content_rows (header_of s) s) e).1 in
        let rest = sym (behind_width ∙ opened (content_rows (header_of s) s) (last_rows x s (length out)) pass) in (
          l.0 ∙ ap (λ (a : Result ⊤ Refusal). answer a (length (chunks_from x s))) rest,
          l.1 ∙ ap (λ (a : Result ⊤ Refusal). after a (chunks_from x s ++ drop (length (chunks_from x s)) out) out) rest,
        )

-- the bound, in the words of the header that the code has read
pub bound_of : (W level x : ℕ) (s : List ℕ) → ListOpened W level x s → x < 2 ^ W → (h : Header) → h ≡ header_of s → Comparable h x
bound_of W level x s o fits h is =
    let w : W ≡ h.width = sym (ap (λ (g : Header). g.width) is ∙ o.width) in
    record {
      fits = subst (λ (v : ℕ). x < 2 ^ v) w fits;
      number = subst (λ (v : ℕ). not_a_number v (fraction_bits v) x ≡ false) w o.number;
    }
