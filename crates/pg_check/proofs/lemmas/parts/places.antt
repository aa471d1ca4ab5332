pub mod DeclaredPlaces
pub mod EnumPlaces
pub mod PartPlaces
pub mod PlacedParts
pub mod Placing
pub mod Regrouped
pub mod ScopedEnums
pub mod ScopesOnce
