-- The laws of this crate, for those that stand on it.
pub mod Changes
pub mod Turns
pub mod Rows
pub mod Owners
pub mod Promises
