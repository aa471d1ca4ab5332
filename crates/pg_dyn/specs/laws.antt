pub mod Bodies
pub mod ByComparands
pub mod Examples
pub mod FaultExamples
pub mod FieldLaws
pub mod Laws
pub mod OwnParts
