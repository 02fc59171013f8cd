pub mod Texts
pub mod Imports
pub mod Remaining
pub mod Answer
pub mod Commands
pub mod Steps
pub mod Logs
