pub mod ChildSteps
pub mod EdgeCosts
pub mod EdgeLaws
pub mod FirstSeen
pub mod Grown
pub mod NearPrices
pub mod Reaching
