-- The limits that document 01 states in numbers, as those of each width: what the impls of `Kernel` show.
use Rattle.std.specs.Prelude.{◌≡◌, ◌-◌, refl}
use Rattle.bins.specs.Tolerance.{k_offset, last_bin}

pub offset32 : 150 ≡ k_offset 32 23
unfolding k_offset
offset32 = refl

pub offset64 : 1075 ≡ k_offset 64 52
unfolding k_offset
offset64 = refl

pub last32 : 253 ≡ last_bin 32 23
unfolding last_bin
last32 = refl

pub last64 : 2045 ≡ last_bin 64 52
unfolding last_bin
last64 = refl

pub lift32 : 925 ≡ k_offset 64 52 - k_offset 32 23
unfolding k_offset
lift32 = refl

pub lift64 : 0 ≡ k_offset 64 52 - k_offset 64 52
unfolding k_offset
lift64 = refl
