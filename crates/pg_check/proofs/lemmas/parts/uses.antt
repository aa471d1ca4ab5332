pub mod NamedUses
pub mod ResolvedTypes
pub mod ResolvedUses
pub mod UsesRise
