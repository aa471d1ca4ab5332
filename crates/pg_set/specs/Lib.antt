pub mod round_trip
pub mod descriptor
pub mod examples
pub mod inner
pub mod refusals
pub mod stated
pub mod writing
