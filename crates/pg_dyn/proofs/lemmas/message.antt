pub mod FieldListLaws
pub mod KeptParts
pub mod KeyLaws
pub mod Plain
pub mod Plainness
pub mod ReplacingLaws
pub mod TakenApart
