pub mod Plane
pub mod Ranges
