pub mod Classes
pub mod Credit
pub mod Laws
pub mod Examples
