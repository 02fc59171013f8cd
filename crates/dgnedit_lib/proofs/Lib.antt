pub mod FilesWritten
pub mod Forms
pub mod HandedOut
pub mod MissingFiles
pub mod TextWords
