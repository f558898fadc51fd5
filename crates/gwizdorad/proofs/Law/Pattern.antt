-- What probe leaves of a pattern, once over the format: the pattern itself. IEEE 754's value tells each pattern but a not-a-number's, and of
-- that probe has the pattern.
use mathlib.Core.Path.{◌≡◌, refl, sym, ap, ◌∙◌}
use mathlib.Core.Bool.{true, false, not}
use Prim.Native.Nat.{ℕ, ◌*◌, ◌<◌}
use lib.Dec.{T}
use lib.Ieee.{Float, nan, inf, fin, Format, binary32, binary64, top, is_nan, of_bits, to_bits}
use lib.Ieee.Bits.{to_bits-of_bits}
use Rattle.std.specs.Prelude.{Ok}
use Rattle.stream.specs.Probe.{told}
use Rattle.gwizdorad.specs.Result.{infinity32, probe_out32, infinity64, probe_out64}

-- the pattern that is left of the pattern p, read as a value
abbrev left : Format → ℕ → Float → ℕ
left f p nan = p
left f p (inf s) = to_bits f (inf s)
left f p (fin s m e) = to_bits f (fin s m e)

left_is : (f : Format) (p : ℕ) → p < 2 * top f → left f p (of_bits f p) ≡ p
unfolding is_nan
left_is f p small = go (of_bits f p) refl
  where
    go : (v : Float) → of_bits f p ≡ v → left f p v ≡ p
    go nan e = refl
    go (inf s) e = let number : T (not (is_nan (of_bits f p))) = rw e tt in sym (ap (to_bits f) e) ∙ to_bits-of_bits f p small number
    go (fin s m x) e = let number : T (not (is_nan (of_bits f p))) = rw e tt in sym (ap (to_bits f) e) ∙ to_bits-of_bits f p small number

-- a width's own spelling of it
told_left32 : (p : ℕ) (v : Float) (old : ℕ) → probe_out32 (Ok (told p v)) old ≡ left binary32 p v
unfolding probe_out32 told infinity32 to_bits
told_left32 p nan old = refl
told_left32 p (inf true) old = refl
told_left32 p (inf false) old = refl
told_left32 p (fin s m e) old = refl

told_left64 : (p : ℕ) (v : Float) (old : ℕ) → probe_out64 (Ok (told p v)) old ≡ left binary64 p v
unfolding probe_out64 told infinity64 to_bits
told_left64 p nan old = refl
told_left64 p (inf true) old = refl
told_left64 p (inf false) old = refl
told_left64 p (fin s m e) old = refl

pub pattern_left32 : (p old : ℕ) → p < 2 * top binary32 → probe_out32 (Ok (told p (of_bits binary32 p))) old ≡ p
pattern_left32 p old small = told_left32 p (of_bits binary32 p) old ∙ left_is binary32 p small

pub pattern_left64 : (p old : ℕ) → p < 2 * top binary64 → probe_out64 (Ok (told p (of_bits binary64 p))) old ≡ p
pattern_left64 p old small = told_left64 p (of_bits binary64 p) old ∙ left_is binary64 p small
