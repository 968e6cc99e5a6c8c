-- The laws of this crate, for those that stand on it.
pub mod Texts
pub mod Digits
pub mod Fitting
pub mod Reading
pub mod Worked
