pub mod ReadAgain
pub mod SourceOrder
