pub mod Writes
pub mod Rows
pub mod NumberBytes
