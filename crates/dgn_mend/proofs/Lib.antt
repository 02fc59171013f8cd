mod WorkedMending
pub mod HeadersPut
pub mod ElementsMended
pub mod DrawingsMended
pub mod SoundTrees
pub mod MembersTaken
pub mod TreesReached
pub mod MembersKept
