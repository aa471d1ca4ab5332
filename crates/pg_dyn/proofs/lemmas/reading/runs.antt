pub mod FieldRuns
pub mod NumberOrder
pub mod NumberRuns
pub mod OneofRunLaws
pub mod ScalarRuns
pub mod SliceRuns
