-- The laws of this crate, for those that stand on it.
pub mod Codes
pub mod Shown
pub mod Feeding
pub mod Closing
