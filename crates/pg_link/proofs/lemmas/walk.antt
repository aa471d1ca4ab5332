pub mod LeadLaws
pub mod OrderLaws
pub mod PathLaws
pub mod PostOrderLaws
pub mod ReadLaws
pub mod WalkLaws
