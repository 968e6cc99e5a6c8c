-- The laws of this crate, for those that stand on it.
pub mod Cases
pub mod Sets
pub mod Clock
pub mod Choosing
pub mod Beginning
