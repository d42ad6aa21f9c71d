-- The definitions of `programs`, by file. Assumes nothing.
pub mod Standing
pub mod Area
pub mod Printing
