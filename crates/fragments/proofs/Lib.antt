-- The laws of this crate, for those that stand on it.
pub mod Kept
pub mod Reading
pub mod Feeding
pub mod Readers
