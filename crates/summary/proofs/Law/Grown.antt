-- Bytes that grow behind what is written already, over what lay there.
use mathlib.Core.Path.{◌≡◌, sym, ap, ap₂, ◌∙◌}
use mathlib.Core.List.{List, ◌++◌}
use Prim.Native.Nat.{ℕ, ◌+◌}
use lib.ListN.{length, take, drop}
use lib.Seq.{take_at, drop_at, drop-drop}

-- d goes right behind xs
pub grown : (xs d base out now : List ℕ) (n k : ℕ) → length xs ≡ n → out ≡ xs ++ drop n base → now ≡ take n out ++ d ++ drop (n + k) out → now ≡ (xs ++ d) ++ drop (n + k) base
grown xs d base out now n k long is-out is-now =
    is-now
    ∙ ap₂ (λ (a b : List ℕ). (a ++ d) ++ b)
    (ap (take n) is-out ∙ take_at xs (drop n base) n long)
    (sym (drop-drop k n out) ∙ ap (drop k) (ap (drop n) is-out ∙ drop_at xs (drop n base) n long) ∙ drop-drop k n base)
