-- What a reader must believe of the stream layout: document 01, "The stream", "Levels" and "Refusal numbers", in its own words, and what document 02
-- has changed since (R-1, R-2, R-4, R-6, R-7); Access serves the libraries above (R-5). Every definition is executable and total. A list of bytes, of codes or of values is a list of natural numbers; what
-- digits and the number they spell are is said in the specs of `blocks`. Partway, Block, Relied, Lent, `short_row` of Packing, `unfinished` of Writing
-- and `Appends` of Listing serve private functions alone.
pub mod Group
pub mod Partway
pub mod Block
pub mod Setting
pub mod Chunk
pub mod Rows
pub mod Header
pub mod Tables
pub mod Stream
pub mod Writing
pub mod Packing
pub mod Probe
pub mod Operations
pub mod Access
pub mod Listing
pub mod Relied
pub mod Theorem
pub mod Lent
