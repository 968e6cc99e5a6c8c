pub mod Accounts
pub mod Promises
