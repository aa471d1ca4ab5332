pub mod EnumNotes
pub mod FieldNotes
pub mod Named
pub mod Notes
pub mod ServiceNotes
pub mod inner
pub mod laws
