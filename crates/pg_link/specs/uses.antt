pub mod Targets
pub mod Unresolved
pub mod UseFaults
pub mod Uses
