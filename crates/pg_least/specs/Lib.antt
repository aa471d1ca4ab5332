pub mod Beside
pub mod Least
pub mod From
pub mod Loss
pub mod Searched
pub mod inner
pub mod laws
