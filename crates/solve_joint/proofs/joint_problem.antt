pub mod EdgeSizes
pub mod SameProblem
pub mod FewEntries
