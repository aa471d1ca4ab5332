pub mod Text
pub mod Notes
pub mod Line
pub mod Sentences
pub mod Json
pub mod Sink
pub mod laws
