pub mod MayWrite
pub mod Sees
pub mod Examples
pub mod Laws
