-- The definitions of `view`, by file. Assumes nothing.
pub mod View
pub mod Inner
pub mod Again
