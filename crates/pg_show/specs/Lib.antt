pub mod Hex
pub mod Lines
pub mod Shown
pub mod Contents
pub mod Worked
pub mod Codes
