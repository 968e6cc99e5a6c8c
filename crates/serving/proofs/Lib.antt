-- The laws of this crate, for those that stand on it.
pub mod Cases
pub mod Sending
pub mod Serves
pub mod Within
pub mod Known
