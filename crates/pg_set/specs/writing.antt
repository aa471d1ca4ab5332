pub mod Entries
pub mod Fields
pub mod Items
pub mod Messages
pub mod Places
pub mod Set
pub mod Synthetic
pub mod Written
