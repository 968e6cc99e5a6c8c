pub mod Told
pub mod Feeding
