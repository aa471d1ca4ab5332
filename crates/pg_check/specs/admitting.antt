pub mod DeclaredParts
pub mod KeepsParts
pub mod SoundParts
pub mod PartErrors
pub mod BrokenParts
