-- The definitions of `front`, by file. Assumes nothing.
pub mod Printing
pub mod Inner
