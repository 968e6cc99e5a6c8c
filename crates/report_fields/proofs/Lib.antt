-- The laws of this crate, for those that stand on it.
pub mod Steps
pub mod Fields
