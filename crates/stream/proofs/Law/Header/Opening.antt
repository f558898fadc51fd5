-- What an opening says of the rows that it was made of.
use mathlib.Core.Path.{◌≡◌, sym}
use Rattle.std.specs.Prelude.{⊤, Result, Ok}
use Rattle.stream.specs.Rows.{answer}
use Rattle.stream.specs.declared.answers.Refusal.{Refusal}
use Rattle.stream.specs.declared.header.Header.{Header}
use Rattle.stream.proofs.Law.Rows.First.{done_pass}

pub open_is : (x : Result ⊤ Refusal) (g h : Header) → answer x g ≡ Ok h → (x ≡ Ok tt) × (h ≡ g)
open_is x g h e = let d = done_pass x g h e in (d.0, sym d.1)
