pub mod Gaps
pub mod Likeness
pub mod TrueGaps
