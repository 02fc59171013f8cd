pub mod TreeBytes
pub mod DrawingGrows
pub mod GeneratedFile
