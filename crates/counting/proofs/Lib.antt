-- The laws of this crate, for those that stand on it.
pub mod Accounts
pub mod Counting
pub mod Fitting
