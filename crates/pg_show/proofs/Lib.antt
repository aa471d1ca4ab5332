pub mod Worked
pub mod Weights
pub mod ByContent
pub mod ByIndex
pub mod Words
