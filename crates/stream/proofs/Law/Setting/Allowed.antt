-- What is known of a setting: its need by cases, its group size, and its bin where it is allowed.
use mathlib.Core.Path.{◌≡◌, refl, sym, subst}
use mathlib.Core.Logic.{◌⊎◌, inl, inr, ⊎_elim}
use mathlib.Core.Bool.{Bool, true, false, ◌&&◌, cond}
use Prim.Native.Nat.{ℕ, suc, ◌+◌, ◌-◌, ◌*◌, ◌/◌, ◌^◌, ◌≤◌, ◌<◌, zero-le, max}
use native.Mathlib.Omega.{arith}
use native.Mathlib.Nat.{lt_of_le_of_lt}
use borrow.Author.Tests.{eqb-true, eq-eqb, ne_eqb, leb-true}
use lib.Dec.{leb, eqb, lit<, lit≤}
use mathlib.Core.List.{List}
use lib.IntN.{ℤ, pos, negsuc}
use lib.ListN.{length}
use Rattle.blocks.specs.Bytes.{Below}
use mir.Syntax.{w32}
use mir.Val.{SFits, of_z}
use Rattle.std.specs.Prelude.{Some, None, is_some, unwrap_or}
use Rattle.bins.specs.Tolerance.{allowed_k, last_bin, bin_of}
use Rattle.numbers.specs.Theorem.{Format}
use Rattle.bins.specs.Answers.{bin_answer}
use Rattle.numbers.proofs.Theorems.{format_32, format_64, an_allowed_k_has_a_bin}
use Rattle.stream.specs.Setting.{highest_level, known_level, known_width, known_size, fraction_bits, lossless_mode, is_zero, allowed_mode, allowed_setting}
use Rattle.stream.specs.Setting.{bin_for, setting_of, ruled, width_need, mode_need, size_need, need, stream_need, group_size, clipped, pattern_at, patterns_after, limit_of}
use Rattle.stream.specs.Chunk.{groups_in}
use Rattle.stream.specs.Header.{k_of, said_mode, said_size, need_right, setting_right}
use Rattle.stream.specs.Relied.{Allowed, Settled}
use Rattle.stream.specs.Packing.{Packable}
use Rattle.stream.specs.declared.header.Header.{Header}
use Rattle.stream.specs.declared.setting.Setting.{Setting}
use Rattle.blocks.proofs.Law.Truth.{le_or_lt}
use Rattle.stream.proofs.Law.Plain.Truth.{and_left, and_right, either}

-- ---- widths

pub width_cases : (W : ℕ) → known_width W ≡ true → (W ≡ 32) ⊎ (W ≡ 64)
unfolding known_width
width_cases W e = ⊎_elim (λ a. inl (eqb-true W 32 a)) (λ a. inr (eqb-true W 64 a)) (either (eqb W 32) (eqb W 64) e)

pub width_other : (W : ℕ) → known_width W ≡ true → (W ≡ 32 → ⊥) → W ≡ 64
width_other W e n = ⊎_elim (λ a. absurd (n a)) (λ a. a) (width_cases W e)

pub width_some : (W : ℕ) → known_width W ≡ true → 0 < W
width_some W e = ⊎_elim (λ a. omega arith) (λ a. omega arith) (width_cases W e)

pub width_format : (W : ℕ) → known_width W ≡ true → Format W (fraction_bits W)
unfolding fraction_bits
width_format W e =
    ⊎_elim (λ a. subst (λ (w : ℕ). Format w (cond (eqb w 32) 23 52)) (sym a) format_32) (λ a. subst (λ (w : ℕ). Format w (cond (eqb w 32) 23 52)) (sym a) format_64) (width_cases W e)

pub width_most : (W : ℕ) → known_width W ≡ true → W ≤ 64
width_most W e = ⊎_elim (λ a. omega arith) (λ a. omega arith) (width_cases W e)

-- ---- group sizes

pub size_cases : (size : ℕ) → known_size size ≡ true → (size ≡ 32) ⊎ (size ≡ 128)
unfolding known_size
size_cases size e = ⊎_elim (λ a. inl (eqb-true size 32 a)) (λ a. inr (eqb-true size 128 a)) (either (eqb size 32) (eqb size 128) e)

pub known_most : (size : ℕ) → known_size size ≡ true → size ≤ 128
known_most size e = ⊎_elim (λ a. omega arith) (λ a. omega arith) (size_cases size e)

-- ---- needs

-- no width and no mode needs more than 13, and each by itself less
mode_need_small : (b : Bool) → cond b 9 8 ≤ 9
mode_need_small true = lit≤ tt
mode_need_small false = lit≤ tt

width_need_small : (b : Bool) → cond b 10 8 ≤ 10
width_need_small true = lit≤ tt
width_need_small false = lit≤ tt

pub other_need_small : (a b c : Bool) → max (cond a 10 8) (cond b 9 (cond c 11 8)) ≤ 13
other_need_small true true c = lit≤ tt
other_need_small true false true = lit≤ tt
other_need_small true false false = lit≤ tt
other_need_small false true c = lit≤ tt
other_need_small false false true = lit≤ tt
other_need_small false false false = lit≤ tt

module _ (t : Setting) where
  pub need_128 : t.size ≡ 128 → 13 ≡ need t
  unfolding need width_need mode_need size_need
  need_128 e = rw e (omega (arith, other_need_small (eqb t.width 64) (eqb t.mode 1) (eqb t.mode 2)))

  -- and where the size is another
  module _ (short : t.size ≡ 128 → ⊥) where
    pub need_mode_2 : t.mode ≡ 2 → 11 ≡ need t
    unfolding need width_need mode_need size_need
    need_mode_2 e = rw (e, ne_eqb t.size 128 short) (omega (arith, width_need_small (eqb t.width 64)))

    -- and where the mode is another
    module _ (other : t.mode ≡ 2 → ⊥) where
      pub need_64 : t.width ≡ 64 → 10 ≡ need t
      unfolding need width_need mode_need size_need
      need_64 e =
          rw (eq-eqb t.width 64 e, ne_eqb t.mode 2 other, ne_eqb t.size 128 short) (omega (arith, mode_need_small (eqb t.mode 1)))

      pub need_mode_1 : (t.width ≡ 64 → ⊥) → t.mode ≡ 1 → 9 ≡ need t
      unfolding need width_need mode_need size_need
      need_mode_1 n e = rw (ne_eqb t.width 64 n, eq-eqb t.mode 1 e, ne_eqb t.size 128 short)

      pub need_mode_0 : (t.width ≡ 64 → ⊥) → (t.mode ≡ 1 → ⊥) → 8 ≡ need t
      unfolding need width_need mode_need size_need
      need_mode_0 n m = rw (ne_eqb t.width 64 n, ne_eqb t.mode 1 m, ne_eqb t.mode 2 other, ne_eqb t.size 128 short)

-- a level has few bits
pub level_small : (level : ℕ) → known_level level ≡ true → level < 2 ^ 32
unfolding known_level highest_level
level_small level known = lt_of_le_of_lt (leb-true level highest_level (and_right (leb 8 level) (leb level highest_level) known)) (lit< tt)

-- ---- groups: a size is some, and a chunk is a whole number of groups

pub record Dividing (size : ℕ) : Type 0 where
  pub some : 0 < size
  pub parts : ℕ
  pub whole : size * parts ≡ 1024

pub dividing : (t : Setting) → Dividing (group_size t)
unfolding group_size
dividing t = go (eqb t.size 128)
  where
    go : (b : Bool) → Dividing (cond b 128 32)
    go true = record { some = lit< tt; parts = 8; whole = refl }
    go false = record { some = lit< tt; parts = 32; whole = refl }

-- by cases: four blocks of 32 codes, or one
pub four_blocks : (t : Setting) → t.size ≡ 128 → group_size t ≡ 128
unfolding group_size
four_blocks t e = rw (eq-eqb t.size 128 e)

pub size_some : (t : Setting) → 0 < group_size t
size_some t = (dividing t).some

pub one_block : (t : Setting) → (t.size ≡ 128 → ⊥) → group_size t ≡ 32
unfolding group_size
one_block t n = rw (ne_eqb t.size 128 n)

pub group_size_is : (t : Setting) → known_size t.size ≡ true → group_size t ≡ t.size
unfolding group_size
group_size_is t e = go (size_cases t.size e)
  where
    go : (t.size ≡ 32) ⊎ (t.size ≡ 128) → cond (eqb t.size 128) 128 32 ≡ t.size
    go (inl a) = rw a
    go (inr a) = rw a

-- a chunk has at most 32 groups
pub groups_most : (t : Setting) (n : ℕ) → n ≤ 1024 → groups_in (group_size t) n ≤ 32
unfolding groups_in group_size
groups_most t n few = go (eqb t.size 128)
  where
    go : (b : Bool) → (n + (cond b 128 32 - 1)) / cond b 128 32 ≤ 32
    go true = omega arith
    go false = omega arith

-- ---- k

-- a test of k's bits against 0
pub zero_test : (k : ℤ) → SFits w32 k → eqb (of_z w32 k) 0 ≡ is_zero k
unfolding is_zero
zero_test (pos n) f = refl
zero_test (negsuc n) f = let h : n < 2 ^ 31 = f.sfits in ne_eqb (2 ^ 32 - suc n) 0 (λ e. omega arith)

-- whether a k is allowed, by its bin
pub bin_some : (W m : ℕ) (k : ℤ) → is_some (bin_answer W m k) ≡ allowed_k W m k
unfolding bin_answer
bin_some W m k = go (allowed_k W m k)
  where
    go : (b : Bool) → is_some (cond b (Some (bin_of W m k)) None) ≡ b
    go true = refl
    go false = refl

-- the k of an allowed setting of mode 1, and its bin
k_allowed : (W mode : ℕ) (k : ℤ) → allowed_mode W mode k ≡ true → mode ≡ 1 → allowed_k W (fraction_bits W) k ≡ true
unfolding allowed_mode
k_allowed W mode k allowed lossy = rw (eq-eqb mode 1 lossy) at allowed

pub setting_bin : (W mode : ℕ) (k : ℤ) → allowed_mode W mode k ≡ true → mode ≡ 1 → unwrap_or (bin_answer W (fraction_bits W) k) 0 ≡ bin_for W mode k
unfolding bin_for bin_answer
setting_bin W mode k allowed lossy = rw (eq-eqb mode 1 lossy, k_allowed W mode k allowed lossy) refl

-- ---- the modes

pub lossless_small : (mode : ℕ) → lossless_mode mode ≡ true → mode ≤ 2
unfolding lossless_mode
lossless_small mode e =
    ⊎_elim (λ a. let q = eqb-true mode 0 a in omega arith) (λ a. let q = eqb-true mode 2 a in omega arith) (either (eqb mode 0) (eqb mode 2) e)

-- there is no other mode than these
pub no_other_mode : (mode : ℕ) → mode ≤ 2 → (mode ≡ 0 → ⊥) → (mode ≡ 1 → ⊥) → (mode ≡ 2 → ⊥) → ⊥
no_other_mode mode h zero one two = go (le_or_lt mode 0) (le_or_lt 2 mode)
  where
    go : (mode ≤ 0) ⊎ (0 < mode) → (2 ≤ mode) ⊎ (mode < 2) → ⊥
    go (inl z) b = zero (omega arith)
    go (inr s) (inl b) = two (omega arith)
    go (inr s) (inr b) = one (omega arith)

-- a mode is 1, or loses nothing
pub mode_cases : (mode : ℕ) → mode ≤ 2 → (mode ≡ 1) ⊎ ((mode ≡ 1 → ⊥) × (lossless_mode mode ≡ true))
unfolding lossless_mode
mode_cases mode h = go (le_or_lt mode 0) (le_or_lt 2 mode)
  where
    go : (mode ≤ 0) ⊎ (0 < mode) → (2 ≤ mode) ⊎ (mode < 2) → (mode ≡ 1) ⊎ ((mode ≡ 1 → ⊥) × (lossless_mode mode ≡ true))
    go (inl z) b = inr (λ o. omega arith, rw (let e : mode ≡ 0 = omega arith in e))
    go (inr s) (inl b) = inr (λ o. omega arith, rw (let e : mode ≡ 2 = omega arith in e))
    go (inr s) (inr b) = inl (omega arith)

-- ---- the setting of a header that is right

-- an allowed setting has an allowed mode and a size
module _ (W mode : ℕ) (k : ℤ) (size : ℕ) (allowed : allowed_setting W mode k size ≡ true) where
  pub mode_allowed : allowed_mode W mode k ≡ true
  unfolding allowed_setting
  mode_allowed = and_left (allowed_mode W mode k) (known_size size) allowed

  pub size_known : known_size size ≡ true
  unfolding allowed_setting
  size_known = and_right (allowed_mode W mode k) (known_size size) allowed

pub mode_small : (W mode : ℕ) (k : ℤ) → allowed_mode W mode k ≡ true → mode ≤ 2
unfolding allowed_mode
mode_small W mode k = go (eqb mode 1) refl
  where
    go : (b : Bool) → eqb mode 1 ≡ b → cond b (allowed_k W (fraction_bits W) k) (lossless_mode mode && is_zero k) ≡ true → mode ≤ 2
    go true e a = let q = eqb-true mode 1 e in omega arith
    go false e a = lossless_small mode (and_left (lossless_mode mode) (is_zero k) a)

pub settled : (h : Header) → setting_right h ≡ true → Settled h
unfolding setting_right
settled h e =
    let set = allowed_setting h.width (said_mode h.mode) (k_of h) (said_size h.mode) in
    let known = and_left (known_width h.width) (need_right h) (and_left (known_width h.width && need_right h) set e) in
    record {
      known = known;
      narrow = width_most h.width known;
      allowed = and_right (known_width h.width && need_right h) set e;
    }

-- ---- the setting that is made

module _ (W mode : ℕ) (k : ℤ) (size : ℕ) (known : known_width W ≡ true) (allowed : allowed_setting W mode k size ≡ true) where
  pub made_allowed : Allowed (setting_of W mode k size)
  unfolding bin_for
  made_allowed =
      record {
        known = known;
        mode = mode_small W mode k (mode_allowed W mode k size allowed);
        bin = go (eqb mode 1) refl;
        none = λ n. rw (ne_eqb mode 1 n);
        size = size_known W mode k size allowed;
      }
    where
      go : (b : Bool) → eqb mode 1 ≡ b → bin_for W mode k ≤ last_bin W (fraction_bits W)
      go true e =
          rw e (an_allowed_k_has_a_bin W (fraction_bits W) (width_format W known) k
          (k_allowed W mode k (mode_allowed W mode k size allowed) (eqb-true mode 1 e)))
      go false e = rw e zero-le

-- ---- the rule for halves: nothing but coding asks it

module _ (rule : ℕ) (t : Setting) where
  pub ruled_allowed : Allowed t → Allowed (ruled rule t)
  ruled_allowed a = record { known = a.known; mode = a.mode; bin = a.bin; none = a.none; size = a.size }

  pub ruled_need : need (ruled rule t) ≡ need t
  unfolding need
  ruled_need = refl

  pub ruled_stream_need : (high : Bool) → stream_need (ruled rule t) high ≡ stream_need t high
  unfolding need stream_need
  ruled_stream_need high = refl

  pub ruled_size : group_size (ruled rule t) ≡ group_size t
  unfolding group_size
  ruled_size = refl

  pub ruled_limit : limit_of (ruled rule t) ≡ limit_of t
  unfolding limit_of clipped
  ruled_limit = refl

  pub ruled_patterns : (before : ℕ) (cs : List ℕ) → patterns_after (ruled rule t) before cs ≡ patterns_after t before cs
  unfolding patterns_after pattern_at clipped
  ruled_patterns before cs = refl

-- A list that a stream of a setting may hold, with its written minor.
pub record Storable (level : ℕ) (t : Setting) (vs : List ℕ) : Type 0 where
  pub setting : Allowed t
  pub minor : level < 2 ^ 32
  pub needs : need t ≤ level
  pub few : length vs ≤ 1048576
  pub patterns : Below (2 ^ t.width) vs

pub storable : (rule W level mode : ℕ) (k : ℤ) (size : ℕ) (vs : List ℕ) → Packable W level mode k size vs → Storable level (ruled rule (setting_of W mode k size)) vs
storable rule W level mode k size vs p =
    let t = setting_of W mode k size in
    record {
      setting = ruled_allowed rule t (made_allowed W mode k size p.width p.allowed);
      minor = p.minor;
      needs = rw (ruled_need rule t) p.needs;
      few = p.few;
      patterns = p.patterns;
    }
