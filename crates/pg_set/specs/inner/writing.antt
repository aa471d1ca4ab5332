pub mod DraftCode
pub mod Drafts
pub mod HeldFields
pub mod MadeNames
pub mod PutParts
pub mod Small
pub mod Writable
