-- What a reader must believe of the number rules for C: how an answer is spelled.
pub mod Result
pub mod Theorem
