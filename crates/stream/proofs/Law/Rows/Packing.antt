-- What length and pack answer, from what their steps find. Over the width.
use mathlib.Core.Path.{◌≡◌, sym, ap, ap₂, ◌∙◌}
use mathlib.Core.Bool.{true, ◌||◌, not}
use mathlib.Core.List.{List, [], ◌∷◌, ◌++◌}
use Prim.Native.Nat.{ℕ, ◌+◌, ◌*◌, ◌≤◌, ◌<◌}
use native.Mathlib.Omega.{arith}
use borrow.Author.Tests.{ltb-false, not-false, lt-ltb, le-ltb}
use lib.Dec.{ltb}
use mir.Facts.{to_z-of_z}
use mir.Syntax.{w32}
use mir.Val.{SFits, to_z, of_z}
use lib.IntN.{ℤ}
use lib.ListN.{length, drop, length-append}
use Rattle.stream.specs.Setting.{known_level, allowed_setting, setting_of, setting_at, need}
use Rattle.stream.specs.Header.{chunks_in, too_many}
use Rattle.stream.specs.Rows.{row, first, answer, after}
use Rattle.stream.specs.Writing.{spell, data_of, starts_of, header_numbers, end_of, body, stream}
use Rattle.stream.specs.Packing.{Packable, short_row}
use Rattle.stream.specs.Operations.{length_rows, length_answer, pack_rows, pack_answer, pack_out}
use Rattle.std.specs.Prelude.{⊤, Result, Ok, Err}
use Rattle.stream.specs.declared.answers.Refusal.{Refusal}
use Rattle.stream.specs.declared.answers.Refusal.TheVariants.{UnknownLevel, NotAllowed, TooManyValues, NoRoom}
use Rattle.stream.specs.declared.setting.Setting.{Setting}
use Rattle.stream.proofs.Law.Plain.Truth.{or_false}
use Rattle.stream.proofs.Law.Rows.First.{opened, shut, passed_both, not_given}
use Rattle.stream.proofs.Law.Written.Numbers.{length_spell}
use Rattle.stream.proofs.Law.Written.Pieces.{length_front, end_is}

-- ---- rows 1 2 3

-- a list and a setting that these rows pass
pub record Passed (W level mode : ℕ) (k : ℤ) (size : ℕ) (n : ℕ) : Type 0 where
  pub known : known_level level ≡ true
  pub allowed : allowed_setting W mode k size ≡ true
  pub needs : need (setting_of W mode k size) ≤ level
  pub few : n ≤ 1048576

pub length_passed : (W level mode : ℕ) (k : ℤ) (size : ℕ) (n : ℕ) → first (length_rows W level mode k size n) ≡ Ok tt → Passed W level mode k size n
unfolding length_rows too_many
length_passed W level mode k size n e =
    let one = passed_both (row UnknownLevel (not (known_level level))) (row NotAllowed (not (allowed_setting W mode k size) || ltb level (need (setting_of W mode k size))) ∷ row TooManyValues (ltb 1048576 n) ∷ []) e in
    let two = passed_both (row NotAllowed (not (allowed_setting W mode k size) || ltb level (need (setting_of W mode k size)))) (row TooManyValues (ltb 1048576 n) ∷ []) one.1 in
    let both = or_false (not (allowed_setting W mode k size)) (ltb level (need (setting_of W mode k size))) (not_given NotAllowed (not (allowed_setting W mode k size) || ltb level (need (setting_of W mode k size))) two.0) in
    record {
      known = not-false (known_level level) (not_given UnknownLevel (not (known_level level)) one.0);
      allowed = not-false (allowed_setting W mode k size) both.0;
      needs = ltb-false level (need (setting_of W mode k size)) both.1;
      few = ltb-false 1048576 n (not_given TooManyValues (ltb 1048576 n) two.1);
    }

pub rows_pass : (W level mode : ℕ) (k : ℤ) (size : ℕ) (vs : List ℕ) → known_level level ≡ true → Packable W level mode k size vs → first (length_rows W level mode k size (length vs)) ≡ Ok tt
unfolding length_rows too_many first
rows_pass W level mode k size vs known p = rw (known, p.allowed, le-ltb level (need (setting_of W mode k size)) p.needs, le-ltb 1048576 (length vs) p.few)

-- the same where the exponent comes as a call hands it on, in bits and back
pub asked : (W level mode : ℕ) (k : ℤ) (size : ℕ) (vs : List ℕ) → SFits w32 k → (n : ℕ) → n ≡ length vs → (r : Result ⊤ Refusal)
    → r ≡ first (length_rows W level mode (to_z w32 (of_z w32 k)) size n) → first (length_rows W level mode k size (length vs)) ≡ r
asked W level mode k size vs fits n is r e =
    ap₂ (λ (z : ℤ) (m : ℕ). first (length_rows W level mode z size m)) (sym (to_z-of_z fits)) (sym is) ∙ sym e

-- ---- row 4

module _ (t : Setting) (vs : List ℕ) (room : ℕ) where
  pub room_enough : end_of t vs (chunks_in (length vs)) ≤ room → Ok tt ≡ first (short_row t vs room ∷ [])
  unfolding short_row first
  room_enough h = rw (le-ltb room (end_of t vs (chunks_in (length vs))) h)

  pub room_short : room < end_of t vs (chunks_in (length vs)) → Err (NoRoom (end_of t vs (chunks_in (length vs)))) ≡ first (short_row t vs room ∷ [])
  unfolding short_row first
  room_short h = rw (lt-ltb room (end_of t vs (chunks_in (length vs))) h)

  pub enough_room : first (short_row t vs room ∷ []) ≡ Ok tt → end_of t vs (chunks_in (length vs)) ≤ room
  unfolding short_row
  enough_room e =
      ltb-false room (end_of t vs (chunks_in (length vs)))
      (not_given (NoRoom (end_of t vs (chunks_in (length vs)))) (ltb room (end_of t vs (chunks_in (length vs)))) e)

-- ---- the answers

module _ (level : ℕ) (t : Setting) (vs : List ℕ) where
  pub length_body : (sides : ℕ) → length (body level t vs sides) ≡ end_of t vs (chunks_in (length vs))
  unfolding body
  length_body sides =
      let c = chunks_in (length vs) in
      let header = header_numbers level t (length vs) sides (end_of t vs c) in
      length-append (spell (header ++ starts_of t vs c)) (data_of t vs c)
      ∙ ap (λ (n : ℕ). n + length (data_of t vs c))
      (length_spell (header ++ starts_of t vs c)
      ∙ ap (λ (n : ℕ). 4 * n) (length_front t vs level (length vs) sides (end_of t vs c) c)
      ∙ (let e : 4 * (12 + c) ≡ 48 + 4 * c = omega arith in e))
      ∙ end_is t vs c

  pub length_stream : length (stream level t vs) ≡ end_of t vs (chunks_in (length vs))
  unfolding stream
  length_stream = length_body 0

module _ (W level mode : ℕ) (k : ℤ) (size : ℕ) (vs : List ℕ) where
  pub length_refused : (refusal : Refusal) → first (length_rows W level mode k size (length vs)) ≡ Err refusal → Err refusal ≡ length_answer W level mode k size vs
  unfolding length_answer answer
  length_refused refusal e = rw e

  pub length_done : (n : ℕ) → first (length_rows W level mode k size (length vs)) ≡ Ok tt → n ≡ end_of (setting_at level W mode k size) vs (chunks_in (length vs)) → Ok n ≡ length_answer W level mode k size vs
  unfolding length_answer answer
  length_done n e is = rw e (ap Ok (is ∙ sym (length_stream level (setting_at level W mode k size) vs)))

  module _ (out : List ℕ) where
    rows_refused : (refusal : Refusal) → first (pack_rows W level mode k size vs (length out)) ≡ Err refusal
        → (Err refusal ≡ pack_answer W level mode k size vs (length out)) × (out ≡ pack_out W level mode k size vs out)
    unfolding pack_answer pack_out answer after
    rows_refused refusal e = (rw e, rw e)

    -- 1 2 3
    pub pack_refused : (refusal : Refusal) → first (length_rows W level mode k size (length vs)) ≡ Err refusal
        → (Err refusal ≡ pack_answer W level mode k size vs (length out)) × (out ≡ pack_out W level mode k size vs out)
    unfolding pack_rows
    pack_refused refusal e =
        rows_refused refusal
        (shut refusal (length_rows W level mode k size (length vs))
        (row (NoRoom (length (stream level (setting_at level W mode k size) vs))) (ltb (length out) (length (stream level (setting_at level W mode k size) vs))) ∷ []) e)

    module _ (pass : first (length_rows W level mode k size (length vs)) ≡ Ok tt) where
      fourth : first (pack_rows W level mode k size vs (length out)) ≡ first (short_row (setting_at level W mode k size) vs (length out) ∷ [])
      unfolding pack_rows short_row
      fourth =
          opened (length_rows W level mode k size (length vs)) (row (NoRoom (length (stream level (setting_at level W mode k size) vs))) (ltb (length out) (length (stream level (setting_at level W mode k size) vs))) ∷ []) pass
          ∙ ap (λ (n : ℕ). first (row (NoRoom n) (ltb (length out) n) ∷ [])) (length_stream level (setting_at level W mode k size) vs)

      -- 4
      pub pack_short : (refusal : Refusal) → first (short_row (setting_at level W mode k size) vs (length out) ∷ []) ≡ Err refusal
          → (Err refusal ≡ pack_answer W level mode k size vs (length out)) × (out ≡ pack_out W level mode k size vs out)
      pack_short refusal e = rows_refused refusal (fourth ∙ e)

      pub pack_done : (r : ℕ) (new : List ℕ) → first (short_row (setting_at level W mode k size) vs (length out) ∷ []) ≡ Ok tt → r ≡ length (stream level (setting_at level W mode k size) vs)
          → new ≡ stream level (setting_at level W mode k size) vs ++ drop r out
          → (Ok r ≡ pack_answer W level mode k size vs (length out)) × (new ≡ pack_out W level mode k size vs out)
      unfolding pack_answer pack_out answer after
      pack_done r new e is New-is =
          (rw (fourth ∙ e) (ap Ok is), rw (fourth ∙ e) (New-is ∙ ap (λ (n : ℕ). stream level (setting_at level W mode k size) vs ++ drop n out) is))
