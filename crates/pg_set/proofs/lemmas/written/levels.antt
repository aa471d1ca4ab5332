pub mod Levels
pub mod WrittenDepth
pub mod WrittenLevels
pub mod WrittenNesting
