-- The header of a written stream, with any side parts behind its data and any needed minor: read back, its numbers are those that were written, and keep
-- every rule of refusal 8, but for the needed minor's own.
use mathlib.Core.Path.{◌≡◌, refl, ap, ◌∙◌}
use mathlib.Core.Logic.{◌⊎◌, inl, inr}
use mathlib.Core.Bool.{true, false, ◌&&◌}
use mathlib.Core.List.{List, [], ◌∷◌, ◌++◌}
use Prim.Native.Nat.{ℕ, zero, suc, ◌+◌, ◌*◌, ◌^◌, ◌≤◌, ◌<◌}
use native.Mathlib.Nat.{le_trans}
use native.Mathlib.Omega.{arith}
use borrow.Author.Tests.{le-ltb, lt-leb, le-leb, eq-eqb}
use lib.Dec.{leb, lit<}
use lib.ListN.{length, drop, get_or, length-append}
use Rattle.blocks.specs.Bytes.{Below}
use Rattle.stream.specs.Setting.{need, mode_number, k_bits}
use Rattle.stream.specs.Header.{word, header_of, k_of, chunks_in, too_many, need_right, setting_right, layout_right}
use Rattle.stream.specs.Writing.{spell, data_of, starts_of, header_numbers, end_of}
use Rattle.stream.specs.declared.header.Header.{Header}
use Rattle.stream.specs.declared.setting.Setting.{Setting}
use Rattle.blocks.proofs.Law.Digits.{everywhere}
use Rattle.stream.proofs.Law.Setting.Allowed.{Storable, width_most, ruled_need}
use Rattle.stream.proofs.Law.Setting.Widths.{need_least}
use Rattle.stream.proofs.Law.Setting.Exponent.{bits_small, number_small, setting_back, allowed_back}
use Rattle.stream.proofs.Law.Plain.Joined.{length_singles, singles_at}
use Rattle.stream.proofs.Law.Plain.Truth.{and_false}
use Rattle.stream.proofs.Law.Written.Numbers.{word_spelled}
use Rattle.stream.proofs.Law.Written.Pieces.{end_is, end_grows, end_small}

-- the header of a list's stream with a need and so many side parts
abbrev pub header_for : ℕ → ℕ → Setting → List ℕ → ℕ → Header
header_for level needed t vs sides =
    record {
      major = 1;
      written = level;
      needed = needed;
      width = t.width;
      mode = mode_number t;
      exponent = k_bits t;
      count = length vs;
      chunks = chunks_in (length vs);
      table = 48;
      start = 48 + 4 * chunks_in (length vs);
      sides = sides;
      end = end_of t vs (chunks_in (length vs));
    }

-- elements below b, one by one, and then others
abbrev Each : ℕ → List ℕ → Type 0
Each b [] = Unit {0}
Each b (x ∷ xs) = (x < b) × Each b xs

each_below : (b : ℕ) (xs ys : List ℕ) → Each b xs → Below b ys → Below b (xs ++ ys)
each_below b [] ys e h i = h i
each_below b (x ∷ xs) ys e h zero = e.0
each_below b (x ∷ xs) ys e h (suc i) = each_below b xs ys e.1 h i

-- a needed minor and a number of side parts
pub record Front (level needed : ℕ) (t : Setting) (vs : List ℕ) (sides : ℕ) : Type 0 where
  pub list : Storable level t vs
  pub fits : needed < 2 ^ 32
  pub few : sides ≤ 64

module _ (level needed : ℕ) (t : Setting) (vs : List ℕ) where
  abbrev chunks : ℕ
  chunks = chunks_in (length vs)

  abbrev end : ℕ
  end = end_of t vs chunks

  -- the numbers of the header and the chunk table
  abbrev pub front_numbers : ℕ → List ℕ
  front_numbers sides = 1 ∷ level ∷ needed ∷ drop 3 (header_numbers level t (length vs) sides end) ++ starts_of t vs chunks

  pub length_numbers : (sides : ℕ) → length (front_numbers sides) ≡ 12 + chunks
  unfolding header_numbers starts_of
  length_numbers sides =
      length-append (1 ∷ level ∷ needed ∷ drop 3 (header_numbers level t (length vs) sides end)) (starts_of t vs chunks)
      ∙ ap (λ (n : ℕ). 12 + n) (length_singles (λ i. length (data_of t vs i)) chunks)

  module _ (sides : ℕ) (f : Front level needed t vs sides) where
    abbrev p : Storable level t vs
    p = f.list

    end_below : end < 2 ^ 24
    end_below = end_small t vs p.setting.known p.patterns p.few chunks (omega arith)

    starts_below : Below (2 ^ 32) (starts_of t vs chunks)
    unfolding starts_of
    starts_below =
        everywhere (λ (n : ℕ). n < 2 ^ 32) (starts_of t vs chunks) (lit< tt)
        λ j h.
        let l : j < chunks = rw (length_singles (λ i. length (data_of t vs i)) chunks) at h in
        rw (singles_at (λ i. length (data_of t vs i)) chunks j l)
        (omega (arith, end_below, end_is t vs j, end_grows t vs j chunks (omega arith)))

    -- all have 32 bits
    front_below : Below (2 ^ 32) (front_numbers sides)
    unfolding header_numbers chunks_in
    front_below =
        each_below (2 ^ 32) (1 ∷ level ∷ needed ∷ drop 3 (header_numbers level t (length vs) sides end)) (starts_of t vs chunks) (
          lit< tt,
          (
            p.minor,
            (
              f.fits,
              (
                omega (arith, width_most t.width p.setting.known),
                (
                  number_small t p.setting,
                  (
                    bits_small t p.setting,
                    (
                      omega (arith, p.few),
                      (
                        omega (arith, p.few),
                        (
                          lit< tt,
                          (
                            omega (arith, p.few),
                            (omega (arith, f.few), (omega (arith, end_below), tt)),
                          ),
                        ),
                      ),
                    ),
                  ),
                ),
              ),
            ),
          ),
        )
        starts_below

    -- so each is read at its place
    pub front_word : (rest : List ℕ) (j : ℕ) → j < 12 + chunks → word (spell (front_numbers sides) ++ rest) (4 * j) ≡ get_or (front_numbers sides) j 0
    front_word rest j h = word_spelled (front_numbers sides) rest j front_below (rw (length_numbers sides) h)

    pub header_is : (rest : List ℕ) → header_of (spell (front_numbers sides) ++ rest) ≡ header_for level needed t vs sides
    unfolding header_of header_numbers
    header_is rest =
        let at : (j : ℕ) → j < 12 → word (spell (front_numbers sides) ++ rest) (4 * j) ≡ get_or (front_numbers sides) j 0 = λ j h. front_word rest j (omega arith) in
        rw (
          at 0 (lit< tt),
          at 1 (lit< tt),
          at 2 (lit< tt),
          at 3 (lit< tt),
          at 4 (lit< tt),
          at 5 (lit< tt),
          at 6 (lit< tt),
          at 7 (lit< tt),
          at 8 (lit< tt),
          at 9 (lit< tt),
          at 10 (lit< tt),
          at 11 (lit< tt),
        )

    -- the early 8: a needed minor from the setting's need to the written minor passes, and no other
    pub setting_right_lem : need t ≤ needed → needed ≤ level → setting_right (header_for level needed t vs sides) ≡ true
    unfolding setting_right need_right k_of
    setting_right_lem least reached =
        rw (
          p.setting.known,
          setting_back t p.setting,
          ruled_need 0 t,
          le-leb 8 needed (le_trans (need_least t) least),
          le-leb (need t) needed least,
          le-leb needed level reached,
          allowed_back t p.setting,
        )

    pub setting_wrong : (needed < need t) ⊎ (level < needed) → setting_right (header_for level needed t vs sides) ≡ false
    unfolding setting_right need_right k_of
    setting_wrong (inl short) = rw (p.setting.known, setting_back t p.setting, ruled_need 0 t, lt-leb (need t) needed short, and_false (leb 8 needed))
    setting_wrong (inr exceeds) =
        rw (p.setting.known, setting_back t p.setting, ruled_need 0 t, lt-leb needed level exceeds, and_false (leb 8 needed && leb (need t) needed))

    pub layout_right_lem : (size : ℕ) → end ≤ size → layout_right size (header_for level needed t vs sides) ≡ true
    unfolding layout_right too_many
    layout_right_lem size h =
        rw (
          le-ltb 1048576 (length vs) p.few,
          eq-eqb chunks chunks refl,
          eq-eqb (48 + 4 * chunks) (48 + 4 * chunks) refl,
          le-leb sides 64 f.few,
          le-leb (48 + 4 * chunks) end (omega (arith, end_is t vs chunks)),
          le-leb end size h,
        )
