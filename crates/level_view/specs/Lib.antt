pub mod Back
pub mod Laws
pub mod Numbers
