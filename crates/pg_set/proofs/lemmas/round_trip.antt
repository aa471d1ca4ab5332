pub mod Deeper
pub mod ListedFiles
pub mod StatedPlaces
pub mod StatedSets
