pub mod Board
pub mod Choice
pub mod Blocks
pub mod Burst
pub mod Spoilt
pub mod Calls
pub mod Runs
pub mod Promises
