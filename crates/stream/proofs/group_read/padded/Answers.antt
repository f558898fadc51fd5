use Rattle.std.proofs.Common.{◌≡◌, ℕ, List, ◌-◌, ◌++◌, length, replicate, drop, ap, ◌∙◌, arith}
use Rattle.blocks.specs.Bytes.{number}
use Rattle.blocks.proofs.Law.Digits.{byte, number_padded}
use Rattle.std.proofs.lemmas.List.{drop-replicate}
use Rattle.stream.proofs.group_read.padded.Goals as goal

pub returns : goal.returns
returns c =
    let s : List ℕ = c.args.s.now in
    ap (λ (r : List ℕ). number 256 (r ++ drop (length s) (replicate 272 0))) c.copy_from_slice.ensures.after
    ∙ ap (λ (r : List ℕ). number 256 (s ++ r)) (drop-replicate (length s) 272 0) ∙ number_padded 256 byte s (272 - length s)
