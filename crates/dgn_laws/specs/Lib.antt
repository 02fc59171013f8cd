pub mod FitLaws
pub mod ImportLaws
pub mod PatchLaws
pub mod PackedRuns
