pub mod PointsLeft
pub mod SpotsRise
pub mod PointsHeld
