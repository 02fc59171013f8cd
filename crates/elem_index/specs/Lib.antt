pub mod Offsets
pub mod Opened
pub mod Kinds
pub mod Design
pub mod Answers
pub mod Laws
