pub mod BodiesByFields
pub mod ByFields
pub mod ChildrenByFields
pub mod EntriesByFields
pub mod EntryByParts
pub mod HeldFields
pub mod MapsByFields
pub mod PlainFields
