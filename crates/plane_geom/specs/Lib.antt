pub mod Points
pub mod Turns
pub mod Segments
pub mod Tests
pub mod Touches
pub mod Boxes
pub mod Polygons
pub mod Laws
