pub mod NoneStated
pub mod Steps
pub mod Types
pub mod Oneofs
pub mod Fields
pub mod Declarations
pub mod Order
pub mod BadReferences
