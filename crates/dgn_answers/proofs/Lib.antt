mod Links
mod UndoRefusals
pub mod LogSteps
pub mod Stepping
mod TallySteps
pub mod Counting
