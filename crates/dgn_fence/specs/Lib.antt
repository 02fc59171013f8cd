pub mod Segments
pub mod Taken
pub mod Selected
pub mod Limits
pub mod Ends
pub mod Outlines
