-- The laws of this crate, for those that stand on it.
pub mod Numbers
pub mod Fields
pub mod Tags
pub mod Stages
pub mod Wholes
pub mod Readings
pub mod First
pub mod Spellings
pub mod Worked
