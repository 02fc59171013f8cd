pub mod RootTreesAlone
pub mod TakenTrees
pub mod TreesGathered
pub mod GatheredBytes
pub mod GatheredTrees
pub mod DrawnElements
pub mod ImportRefusals
pub mod SpelledBodies
