pub mod Encoding
pub mod Growing
pub mod Lending
pub mod Unshared
pub mod Writing
pub mod Written
