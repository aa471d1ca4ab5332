pub mod ReadAgain
pub mod Rules
