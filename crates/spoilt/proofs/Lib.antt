-- The laws of this crate, for those that stand on it.
pub mod Counts
pub mod Walk
pub mod Places
pub mod Apart
pub mod Sets
pub mod Rules
pub mod Spelling
pub mod Clauses
pub mod Passing
pub mod Decided
pub mod Before
