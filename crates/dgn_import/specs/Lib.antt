pub mod Seconds
pub mod Gathering
pub mod Answers
pub mod Laws
