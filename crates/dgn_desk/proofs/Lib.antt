pub mod FileMaps
pub mod Numbered
mod LentFiles
pub mod Gathering
pub mod InTurn
pub mod Telling
pub mod Moving
