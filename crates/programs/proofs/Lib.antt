-- The proofs of `programs`, by file. Assumes nothing.
pub mod Standing
pub mod Decimals
pub mod Putting
pub mod Words
