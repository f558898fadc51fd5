-- `stream::pack::number_at` meets its contract.
use Rattle.std.proofs.Common.{Bor, Option, Some, None, unwrap_or, is_some, IfSome}
use Rattle.std.proofs.lemmas.Grind.{get_or_default_zero}
use Rattle.std.proofs.lemmas.List.{get_or_past}
use Rattle.std.specs.Option.{option_copied}
use mathlib.Core.List.{List}
use mathlib.Core.Path.{◌≡◌, sym, ap, ◌∙◌}
use Prim.Native.Nat.{ℕ}
use borrow.Author.Tests.{ltb-true, ltb-false}
use lib.Dec.{ltb}
use lib.ListN.{length, get_or}
use Rattle.stream.proofs.pack.number_at.Goals as goal

-- what the library's look-up gives, or 0 behind the list
looked_up : (r : Option (Bor ℕ)) (xs : List ℕ) (i : ℕ) → is_some r ≡ ltb i (length xs) → IfSome r (λ x. x.now ≡ get_or xs i x.now)
    → unwrap_or (option_copied r) 0 ≡ get_or xs i 0
looked_up None xs i there is = sym (get_or_past xs i 0 (ltb-false i (length xs) (sym there)))
looked_up (Some x) xs i there is = is ∙ get_or_default_zero xs i x.now (ltb-true i (length xs) (sym there))

pub returns : goal.returns
returns c =
    c.unwrap_or.ensures ∙ ap (λ (r : Option ℕ). unwrap_or r 0) c.copied.ensures
    ∙ looked_up c.get.result c.args.numbers.now c.args.i c.get.ensures.lookup.0 c.get.ensures.lookup.1
