pub mod Declarations
pub mod Lent
pub mod Rows
pub mod reading
pub mod writing
