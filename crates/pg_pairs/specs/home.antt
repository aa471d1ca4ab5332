pub mod Home
pub mod Returns
