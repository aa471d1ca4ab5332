pub mod Places
pub mod Imports
pub mod Nesting
pub mod InOrder
pub mod StandingParts
pub mod Visits
