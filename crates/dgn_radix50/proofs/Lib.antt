pub mod SignTable
pub mod SignsAndWords
