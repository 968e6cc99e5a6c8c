pub mod Counting
pub mod Steps
