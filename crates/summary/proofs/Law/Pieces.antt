-- Pieces of bytes that are written side by side: those of an entry.
use mathlib.Core.Path.{◌≡◌, sym, ap, ap₂, ◌∙◌}
use mathlib.Core.List.{List, ◌++◌, append_assoc}
use Prim.Native.Nat.{ℕ, ◌+◌, ◌*◌, ◌≤◌}
use native.Mathlib.Omega.{arith}
use lib.ListN.{length, take, drop, length-append}
use lib.Seq.{take_at, drop_at, drop-drop, length-take-le}

-- y goes right behind x, which was written from `at` on
piece_more : (at n p m : ℕ) (out next last x y : List ℕ) → at ≤ length out → length x ≡ n → at + n ≡ p
    → next ≡ take at out ++ x ++ drop p out → last ≡ take p next ++ y ++ drop (p + m) next
    → last ≡ take at out ++ (x ++ y) ++ drop (p + m) out
piece_more at n p m out next last x y h l e is-next is_last =
    let head = take at out ++ x in
    let long : length head ≡ p = length-append (take at out) x ∙ ap₂ ◌+◌ (length-take-le at out h) l ∙ e in
    let front : take p next ≡ head = ap (take p) is-next ∙ take_at head (drop p out) p long in
    let back : drop p next ≡ drop p out = ap (drop p) is-next ∙ drop_at head (drop p out) p long in
    is_last
    ∙ ap₂ (λ (a b : List ℕ). a ++ y ++ b) front (sym (drop-drop m p next) ∙ ap (drop m) back ∙ drop-drop m p out)
    ∙ ap (λ (a : List ℕ). a ++ drop (p + m) out) (append_assoc (take at out) x y)

-- three pieces, of which two have the same length
pub three_pieces : (at n k : ℕ) (out one two three x y z : List ℕ) → at ≤ length out → length x ≡ n → length y ≡ k
    → one ≡ take at out ++ x ++ drop (at + n) out
    → two ≡ take (at + n) one ++ y ++ drop (at + n + k) one
    → three ≡ take (at + n + k) two ++ z ++ drop (at + n + k + k) two
    → three ≡ take at out ++ (x ++ y ++ z) ++ drop (at + (n + 2 * k)) out
three_pieces at n k out one two three x y z h lx ly is_one is-two is-three =
    piece_more at (n + k) (at + n + k) k out two three (x ++ y) z h (length-append x y ∙ ap₂ ◌+◌ lx ly) (omega arith)
    (piece_more at n (at + n) k out one two x y h lx (omega arith) is_one is-two) is-three
    ∙ ap (λ (j : ℕ). take at out ++ (x ++ y ++ z) ++ drop j out) (let q : at + n + k + k ≡ at + (n + 2 * k) = omega arith in q)
