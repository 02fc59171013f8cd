pub mod Fronts
pub mod Loops
pub mod PutsLaid
pub mod PatchEquality
pub mod RisingPuts
pub mod WriteBackSteps
