pub mod ErrorCodes
pub mod Refused
pub mod SetErrors
