pub mod Tags
pub mod Format
pub mod Rows
pub mod Spelling
pub mod Laws
pub mod Worked
