pub mod Readings
pub mod Signs
pub mod Axes
pub mod CommonPoints
pub mod TestOfTouch
pub mod BoxesBeside
pub mod OutsidePolygons
