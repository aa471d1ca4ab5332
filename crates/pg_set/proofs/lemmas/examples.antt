pub mod Examples
pub mod ReadExamples
pub mod PlaceExamples
pub mod CauseExamples
