use Rattle.stream.proofs.listing.+put_number.Given as goal

-- the measure is the number
abbrev pub decreases-put_number : goal.decreases-put_number
decreases-put_number l = l.n
