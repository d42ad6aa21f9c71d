-- The proofs of `view`, by file. Assumes nothing.
pub mod Writing
pub mod Remembering
pub mod Passes
pub mod Keeping
pub mod Above
pub mod Seeing
pub mod Belongs
pub mod Places
pub mod Few
pub mod Replied
pub mod Unique
pub mod Taken
pub mod Again
