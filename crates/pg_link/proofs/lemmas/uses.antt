pub mod FoundScopeLaws
pub mod TargetLaws
pub mod UseFaultLaws
pub mod UseLaws
