pub mod Mending
pub mod Laws
