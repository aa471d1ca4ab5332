pub mod bounds
pub mod choices
pub mod gaps
pub mod graph
pub mod home
pub mod views
pub mod witness
