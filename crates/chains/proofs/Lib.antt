-- The laws and the theorems of this crate; no other crate stands on it.
pub mod Values
pub mod Refusals
pub mod Chains
pub mod Rows
pub mod Slots
pub mod Demands
pub mod Passages
pub mod Codes
pub mod Limits
pub mod Accounts
pub mod Examples
