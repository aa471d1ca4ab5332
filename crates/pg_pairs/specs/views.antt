pub mod EnumView
pub mod LeastNumbers
pub mod NamedView
pub mod ViewLaws
