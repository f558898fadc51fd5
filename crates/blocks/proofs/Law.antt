-- The laws of digits, words and blocks. Nothing here fixes a width.
pub mod Digits
pub mod Words
pub mod Truth
pub mod Reading
pub mod Storing
pub mod Block
pub mod Word
pub mod Put
pub mod Run
