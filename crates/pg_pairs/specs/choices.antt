pub mod Causes
pub mod Choices
pub mod Costs
pub mod Held
pub mod NewOneof
pub mod Told
pub mod Ways
