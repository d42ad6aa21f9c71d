-- The proofs of `front`, by file. Assumes nothing.
pub mod RuleLines
pub mod Replies
pub mod Program
