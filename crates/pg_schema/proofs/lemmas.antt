pub mod rules
pub mod schema
pub mod JsonNames
pub mod Texts
pub mod ScalarLetters
