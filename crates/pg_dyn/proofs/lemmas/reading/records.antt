pub mod FieldRecords
pub mod Joining
pub mod ReadSplits
pub mod Readable
pub mod ReadsOn
pub mod RecordFronts
pub mod RecordsRead
pub mod Splitting
