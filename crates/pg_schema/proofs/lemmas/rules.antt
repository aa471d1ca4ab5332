pub mod MessageLemmas
pub mod PackageLemmas
pub mod PairLemmas
pub mod SoundNames
pub mod SoundShapes
pub mod TextSetLemmas
pub mod UseLemmas
pub mod WordLemmas
