pub mod Linkages
pub mod Links
pub mod Laws
