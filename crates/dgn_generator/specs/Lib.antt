pub mod Generator
pub mod Fronts
