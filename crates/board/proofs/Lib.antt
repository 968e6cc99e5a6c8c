-- The laws of this crate, for those that stand on it.
pub mod Lists
pub mod Rings
pub mod Walks
pub mod Parts
pub mod Same
pub mod Reading
pub mod Moves
pub mod Sound
pub mod ClassSets
pub mod Fields
pub mod Agrees
pub mod Tables
pub mod Bounds
pub mod Fresh
pub mod Next
