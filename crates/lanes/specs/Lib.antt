pub mod Lanes
pub mod Laws
