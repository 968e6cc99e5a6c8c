-- The laws of this crate, for those that stand on it.
pub mod Making
pub mod Promises
pub mod Calling
