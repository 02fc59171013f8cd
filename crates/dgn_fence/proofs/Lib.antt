pub mod Segments
pub mod BoundsHold
pub mod FenceMisses
pub mod Outlines
pub mod ElementOutlines
pub mod Rectangles
