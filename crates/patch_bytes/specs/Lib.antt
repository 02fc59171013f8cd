pub mod Fronts
pub mod Laws
pub mod PatchView
pub mod Puts
