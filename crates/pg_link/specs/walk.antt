pub mod FolderPath
pub mod PostOrder
pub mod Reads
pub mod Walk
