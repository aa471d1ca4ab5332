pub mod Firsts
pub mod Going
pub mod Places
pub mod Reach
