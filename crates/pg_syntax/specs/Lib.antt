pub mod Tree
pub mod Grammar
pub mod inner
pub mod Proto3
pub mod Views
pub mod Due
pub mod Refusals
pub mod Codes
