-- What stands in the first bytes of a stream is read from them: two lists with the same front have the same numbers there.
use mathlib.Core.Path.{◌≡◌, refl, sym, ap, ◌∙◌}
use mathlib.Core.List.{List, [], ◌∷◌}
use Prim.Native.Nat.{ℕ, zero, suc, ◌+◌, ◌≤◌}
use native.Mathlib.Omega.{arith}
use lib.ListN.{take, drop}
use lib.Seq.{take-take}
use Rattle.blocks.specs.Bytes.{number}
use Rattle.stream.specs.Header.{word, header_of}

-- bytes of a front, read from the front
window : (p k n : ℕ) (l : List ℕ) → p + k ≤ n → take k (drop p (take n l)) ≡ take k (drop p l)
window zero k n l h = take-take k n l (omega arith)
window (suc p) k zero l h = absurd (omega arith)
window (suc p) k (suc n) [] h = refl
window (suc p) k (suc n) (x ∷ l) h = window p k n l (omega arith)

module _ (s t : List ℕ) (n : ℕ) (e : take n s ≡ take n t) where
  pub word_front : (p : ℕ) → p + 4 ≤ n → word s p ≡ word t p
  unfolding word
  word_front p h = ap (number 256) (sym (window p 4 n s h) ∙ ap (λ (l : List ℕ). take 4 (drop p l)) e ∙ window p 4 n t h)

  pub header_front : 48 ≤ n → header_of s ≡ header_of t
  unfolding header_of
  header_front long =
      λ i.
      record {
        major = word_front 0 (omega arith) i;
        written = word_front 4 (omega arith) i;
        needed = word_front 8 (omega arith) i;
        width = word_front 12 (omega arith) i;
        mode = word_front 16 (omega arith) i;
        exponent = word_front 20 (omega arith) i;
        count = word_front 24 (omega arith) i;
        chunks = word_front 28 (omega arith) i;
        table = word_front 32 (omega arith) i;
        start = word_front 36 (omega arith) i;
        sides = word_front 40 (omega arith) i;
        end = word_front 44 (omega arith) i;
      }
