-- The laws of this crate, for those that stand on it.
pub mod Decides
pub mod Loops
pub mod Numbers
pub mod Sums
pub mod Tests
pub mod Iterations
