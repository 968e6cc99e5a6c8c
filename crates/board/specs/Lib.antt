pub mod Memory
pub mod Reading
pub mod Leaving
pub mod Laws
