pub mod Revisions
pub mod Revising
pub mod Stretches
pub mod RevisionPuts
pub mod Laws
