-- Theorems about the definitions of specs/, each once over the width W and the fraction bits m.
pub mod Number
pub mod Machine
pub mod Nearest
pub mod Tolerance
pub mod Working
pub mod Straight
pub mod Exponent
pub mod Answers
pub mod Ieee
pub mod Float
pub mod Round
pub mod Even
pub mod Near
pub mod Far
