mod FitFindings
mod ImportedTrees
mod PatchesApplied
mod EntriesInOrder
mod PackedAgain
mod SameFile
mod FieldCounts
mod PackedRuns
