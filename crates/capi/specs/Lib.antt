-- The definitions of `capi`, by file. Assumes nothing.
pub mod Packed
pub mod Inner
