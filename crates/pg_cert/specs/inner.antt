pub mod Checked
pub mod Entries
pub mod Reading
pub mod Lines
pub mod WitnessRead
