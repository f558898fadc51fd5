-- The rows of the refusal table.
--   First: the first row that is given decides
--   Passed: what is known of a stream that rows have passed
--   Given: the rows behind the opening, one by one
--   Ids: the rows of the side table's ids
--   Chunks: the rows of the tables and the chunks
--   Understood: the id that refusal 15 names
--   Place: the chunk and the group that refusal 10 names
--   Packing: what length and pack answer
--   Small: numbers, details and answers have 32 bits
pub mod First
pub mod Passed
pub mod Given
pub mod Ids
pub mod Chunks
pub mod Understood
pub mod Place
pub mod Packing
pub mod Small
