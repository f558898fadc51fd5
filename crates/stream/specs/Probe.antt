-- Document 01: "Probe tells apart a finite number as a float, an infinity with its sign, and a not-a-number with its pattern." What a
-- pattern means is IEEE 754's to say, here `lib.Ieee`; the promise is about the pattern, so 0 and -0 are told apart. A negative
-- infinity is `Infinity true`.
use Rattle.std.specs.Prelude.{ℕ, Float}
use Rattle.std.specs.Float.{nan, inf, fin, binary32, binary64}
use Rattle.std.specs.Float.Ieee.{of_bits}
use Rattle.stream.specs.declared.answers.Shown.{Shown}
use Rattle.stream.specs.declared.answers.Shown.TheVariants.{Finite, Infinity, NotANumber}

-- what is shown of the pattern p, which IEEE 754 reads as a value
unfoldable pub told : ℕ → Float → Shown Float ℕ
told p nan = NotANumber p
told p (inf negative) = Infinity negative
told p (fin negative m e) = Finite (fin negative m e)

unfoldable pub shown32 : ℕ → Shown Float ℕ
shown32 p = told p (of_bits binary32 p)

unfoldable pub shown64 : ℕ → Shown Float ℕ
shown64 p = told p (of_bits binary64 p)
