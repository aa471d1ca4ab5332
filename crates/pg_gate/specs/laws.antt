pub mod Agreement
pub mod InFolders
