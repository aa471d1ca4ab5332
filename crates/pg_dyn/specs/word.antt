pub mod Coding
pub mod Integers
pub mod NumberLists
pub mod WordOf
