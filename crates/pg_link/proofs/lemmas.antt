pub mod SmallFiles
pub mod walk
pub mod names
pub mod uses
