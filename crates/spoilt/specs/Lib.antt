pub mod Test
pub mod Early
