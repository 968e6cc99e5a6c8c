pub mod Chains
pub mod Demands
pub mod Codes
pub mod Limits
pub mod Accounts
