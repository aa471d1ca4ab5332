pub mod Ahead
pub mod EntryFaults
pub mod FaultSteps
pub mod Faulty
pub mod RowFaults
pub mod ShallowRecords
pub mod StopSteps
pub mod TooDeepLaws
