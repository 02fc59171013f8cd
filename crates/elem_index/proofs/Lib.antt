pub mod OpeningAnswers
pub mod KindLists
pub mod Places
pub mod KindBytes
pub mod FileWalk
pub mod KeptRows
pub mod DesignGrowth
pub mod WrittenDesigns
