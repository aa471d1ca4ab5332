pub mod FoundValues
pub mod LeastByName
pub mod LeastNumberLaws
pub mod NameLaws
pub mod NamedViews
