-- The laws of this crate, for those that stand on it.
mod Calls
