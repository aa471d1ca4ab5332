pub mod ByComparands
pub mod ByField
pub mod SelfSame
pub mod ViewNames
pub mod Whole
