pub mod Codings
pub mod Leaves
pub mod NumberLaws
