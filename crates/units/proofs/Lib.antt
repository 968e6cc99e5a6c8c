-- The laws of this crate, for those that stand on it.
pub mod Starts
pub mod Classes
pub mod Credits
pub mod Examples
