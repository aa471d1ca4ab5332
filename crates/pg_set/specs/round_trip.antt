pub mod Readable
pub mod SetOrder
