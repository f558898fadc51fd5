-- What a reader must believe of the operations on streams for C: how an answer is spelled.
pub mod Result
pub mod Theorem
pub mod Demands
