pub mod FieldSearch
pub mod NameTables
pub mod TypeSearch
