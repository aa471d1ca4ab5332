pub mod LentTexts
pub mod Names
pub mod Checks
pub mod Sets
pub mod Steps
