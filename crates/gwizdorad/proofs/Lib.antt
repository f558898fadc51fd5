-- The laws that the functions' own proofs cite, and the theorems about what they return.
pub mod Law
pub mod Theorems
pub mod Demands
pub mod Settled
