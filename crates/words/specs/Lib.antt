-- What the trait of words takes from the numbers.
pub mod Order
pub mod Lists
