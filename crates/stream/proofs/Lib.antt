-- The laws of the definitions in specs/, apart from the functions' own proofs.
pub mod Law
pub mod Theorems
pub mod Known
pub mod KnownStream
pub mod KnownGroups
pub mod Readers
pub mod Access
pub mod Place
pub mod Cut
pub mod Understood
pub mod Written
pub mod Settled
pub mod Fitting
