-- The proofs of `demands`, by file. Assumes nothing.
pub mod Requests
pub mod WalkStep
pub mod Determined
pub mod One
pub mod Combining
pub mod Decisions
pub mod AnyMarks
pub mod Two
pub mod Verdicts
pub mod Three
pub mod Combinings
pub mod Stored
pub mod Twelve
