-- The proofs of `capi`, by file. Assumes nothing.
pub mod Told
pub mod Fitting
pub mod Parts
pub mod Determined
