pub mod Entries
pub mod EntryPlaces
pub mod LastOfKeys
pub mod NormalizedEntries
