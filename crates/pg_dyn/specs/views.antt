pub mod Breaking
pub mod Comparison
pub mod ViewNames
