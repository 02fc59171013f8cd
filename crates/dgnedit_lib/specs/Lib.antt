pub mod Handing
pub mod Missing
pub mod Words
pub mod Writing
