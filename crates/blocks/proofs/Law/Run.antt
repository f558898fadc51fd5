-- Codes whose bytes are whole go out eight at a time, into the part of the output behind those that stand.
-- Assumes nothing.
use mathlib.Core.Path.{◌≡◌, sym, ap, ap₂, ◌∙◌}
use mathlib.Core.List.{List, [], ◌++◌, append_assoc, append-nil}
use Prim.Native.Nat.{ℕ, ◌+◌, ◌-◌, ◌*◌, ◌/◌, ◌%◌, ◌^◌, ◌≤◌}
use native.Mathlib.Nat.{mul_comm, mul_assoc}
use native.Mathlib.Omega.{arith}
use borrow.Rule.Slice.PartMut.{put_mid}
use lib.ListN.{length, take, drop, length-take, length-drop, drop_of_length-le}
use lib.Pow.{pow_pos}
use lib.Seq.{drop-drop, take_all}
use Rattle.blocks.specs.Bytes.{Below, number, digits}
use Rattle.blocks.proofs.Law.Digits.{byte, digits_mod, number_part}
use Rattle.blocks.proofs.Law.Words.{pow_pow}
use Rattle.blocks.proofs.Law.Put.{piece_stands, stands_length}

-- eight codes of w bits are w bytes
eight_whole : (w : ℕ) → (2 ^ w) ^ 8 ≡ 256 ^ w
eight_whole w = pow_pow 2 w 8 ∙ ap (λ (k : ℕ). 2 ^ k) (mul_comm w 8) ∙ sym (pow_pow 2 8 w)

-- and so their bytes are bytes of all the codes
eight_bytes : (w i : ℕ) (c : List ℕ) → Below (2 ^ w) c
    → digits 256 w (number (2 ^ w) (take 8 (drop (8 * i) c))) ≡ digits 256 w (number (2 ^ w) c / 2 ^ (8 * (i * w)))
eight_bytes w i c below =
    let n = number (2 ^ w) c in
    let place : (2 ^ w) ^ (8 * i) ≡ 2 ^ (8 * (i * w)) = pow_pow 2 w (8 * i) ∙ ap (λ (k : ℕ). 2 ^ k) (mul_comm w (8 * i) ∙ mul_assoc 8 i w) in
    ap (digits 256 w) (number_part (2 ^ w) (pow_pos w) (8 * i) 8 c below ∙ ap₂ (λ (p q : ℕ). n / p % q) place (eight_whole w))
    ∙ digits_mod 256 byte w (n / 2 ^ (8 * (i * w)))

-- eight codes more behind 8i whose bytes stand
pub run_stands : (w i p e : ℕ) (c base out next : List ℕ) → Below (2 ^ w) c → p ≡ i * w → e ≡ p + w → out ≡ digits 256 p (number (2 ^ w) c) ++ drop p base
    → next ≡ take p out ++ digits 256 w (number (2 ^ w) (take 8 (drop (8 * i) c))) ++ drop e out
    → next ≡ digits 256 e (number (2 ^ w) c) ++ drop e base
run_stands w i p e c base out next below place end s is =
    let n = number (2 ^ w) c in
    let bytes = eight_bytes w i c below ∙ ap (λ (k : ℕ). digits 256 w (n / 2 ^ (8 * k))) (sym place) in
    piece_stands n p p w base out next (omega arith) (omega arith) s (is ∙ ap₂ (λ (d : List ℕ) (k : ℕ). take p out ++ d ++ drop k out) bytes end)
    ∙ ap (λ (k : ℕ). digits 256 k n ++ drop k base) (sym end)

-- new elements, written into the part from `at` on
pub part_back : (at r e : ℕ) (new out ys : List ℕ) → e ≡ at + r → ys ≡ new ++ drop r (take (length out - at) (drop at out))
    → put_mid at (length out - at) out ys ≡ take at out ++ new ++ drop e out
part_back at r e new out ys end is =
    let behind : drop r (take (length out - at) (drop at out)) ≡ drop e out =
    ap (drop r) (take_all (length out - at) (drop at out) (rw (length-drop at out) (omega arith))) ∙ drop-drop r at out ∙ ap (λ (k : ℕ). drop k out) (sym end) in
    let last : drop (length out - at) (drop at out) ≡ [] = drop_of_length-le (drop at out) {i = length out - at} (rw (length-drop at out) (omega arith)) in
    ap (λ (t : List ℕ). take at out ++ t) (ap₂ ◌++◌ (is ∙ ap (λ (t : List ℕ). new ++ t) behind) last ∙ append-nil (new ++ drop e out))
    ∙ sym (append_assoc (take at out) new (drop e out))

-- the same where they are written into the part behind
pub part_stands : (w i p e : ℕ) (c base out ys : List ℕ) → Below (2 ^ w) c → p ≡ i * w → e ≡ p + w → out ≡ digits 256 p (number (2 ^ w) c) ++ drop p base
    → ys ≡ digits 256 w (number (2 ^ w) (take 8 (drop (8 * i) c))) ++ drop w (take (length out - p) (drop p out))
    → put_mid p (length out - p) out ys ≡ digits 256 e (number (2 ^ w) c) ++ drop e base
part_stands w i p e c base out ys below place end s is =
    run_stands w i p e c base out (put_mid p (length out - p) out ys) below place end s
    (part_back p w e (digits 256 w (number (2 ^ w) (take 8 (drop (8 * i) c)))) out ys end is)

-- and the part has the room
pub part_room : (p r n : ℕ) (base out : List ℕ) → p + r ≤ length base → out ≡ digits 256 p n ++ drop p base → r ≤ length (take (length out - p) (drop p out))
part_room p r n base out h s = rw (length-take, length-drop) (omega (arith, stands_length p n base out (omega arith) s))
