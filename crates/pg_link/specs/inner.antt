pub mod FoundScope
pub mod Index
pub mod Indexed
pub mod Made
pub mod Refusals
pub mod Settled
pub mod VisibleFiles
pub mod Walking
