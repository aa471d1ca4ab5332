pub mod CountedRecords
pub mod Gathered
pub mod GatheredReading
pub mod GatheringSteps
pub mod GoodRecords
