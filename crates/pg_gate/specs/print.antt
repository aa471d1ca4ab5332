pub mod Codes
pub mod Refusals
pub mod Lines
pub mod Printed
