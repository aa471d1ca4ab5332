pub mod Paths
pub mod CommandLine
pub mod Call
pub mod Matches
pub mod inner
pub mod laws
