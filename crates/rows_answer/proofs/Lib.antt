pub mod Chosen
pub mod Told
