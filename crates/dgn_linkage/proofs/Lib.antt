pub mod FirstLinkage
pub mod LinkageSteps
