pub mod Again
pub mod Bodies
pub mod Examples
pub mod FaultExamples
pub mod Flat
pub mod Order
pub mod Shorter
