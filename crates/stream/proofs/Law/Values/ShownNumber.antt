-- What probe shows as a float is a number.
use mathlib.Core.Path.{◌≡◌}
use mathlib.Core.Bool.{false, not}
use mathlib.Core.List.{List}
use Prim.Native.Nat.{ℕ}
use lib.Dec.{T}
use lib.IntN.{pos}
use lib.Ieee.{Float, nan, inf, fin, is_nan, binary32, binary64, of_bits}
use Rattle.std.specs.Prelude.{Ok}
use Rattle.stream.specs.Rows.{first}
use Rattle.stream.specs.Probe.{told, shown32, shown64}
use Rattle.stream.specs.Stream.{value_at}
use Rattle.stream.specs.Operations.{probe_rows, probe_answer32, probe_answer64}
use Rattle.stream.specs.declared.answers.Shown.TheVariants.{Finite}
use Rattle.stream.proofs.Law.Rows.First.{done_pass}

told_number : (p : ℕ) (v x : Float) → told p v ≡ Finite x → T (not (is_nan x))
unfolding told is_nan
told_number p nan x e = let z : x ≡ fin false 0 (pos 0) = cc in rw z tt
told_number p (inf n) x e = let z : x ≡ fin false 0 (pos 0) = cc in rw z tt
told_number p (fin n m d) x e = let z : x ≡ fin n m d = cc in rw z tt

pub finite_is_a_number32 : (level : ℕ) (s : List ℕ) (i : ℕ) (x : Float) → probe_answer32 level s i ≡ Ok (Finite x) → T (not (is_nan x))
unfolding probe_answer32 shown32
finite_is_a_number32 level s i x e =
    told_number (value_at s i) (of_bits binary32 (value_at s i)) x (done_pass (first (probe_rows 32 level s i)) (shown32 (value_at s i)) (Finite x) e).1

pub finite_is_a_number64 : (level : ℕ) (s : List ℕ) (i : ℕ) (x : Float) → probe_answer64 level s i ≡ Ok (Finite x) → T (not (is_nan x))
unfolding probe_answer64 shown64
finite_is_a_number64 level s i x e =
    told_number (value_at s i) (of_bits binary64 (value_at s i)) x (done_pass (first (probe_rows 64 level s i)) (shown64 (value_at s i)) (Finite x) e).1
