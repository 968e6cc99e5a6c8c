pub mod Promises
pub mod Contract
