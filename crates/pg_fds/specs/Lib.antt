pub mod inner
pub mod refusals
pub mod round_trip
