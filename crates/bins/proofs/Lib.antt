-- The laws of the definitions in specs/, apart from the functions' own proofs.
pub mod Law
pub mod Known
