pub mod Refused
pub mod ErrorCodes
pub mod BadReferences
