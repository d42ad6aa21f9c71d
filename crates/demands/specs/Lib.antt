-- The definitions of `demands`, by file. Assumes nothing.
pub mod Refusing
pub mod Definite
pub mod Published
pub mod Demand1
pub mod Demand2
pub mod Demand3
pub mod Combinings
pub mod Stored
pub mod Twelve
