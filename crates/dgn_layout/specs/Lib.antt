pub mod Classes
pub mod Spots
pub mod SpotsLeft
pub mod Tables
pub mod Ends
pub mod Laws
