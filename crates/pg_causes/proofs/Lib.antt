pub mod Explained
pub mod Going
pub mod Naming
pub mod Overviews
pub mod Reasoned
pub mod Told
