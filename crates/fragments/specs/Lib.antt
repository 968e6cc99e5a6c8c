pub mod Kept
pub mod Reading
pub mod Feeding
pub mod Readers
