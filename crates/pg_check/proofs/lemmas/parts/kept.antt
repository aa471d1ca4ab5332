pub mod KeptEnums
pub mod KeptFields
pub mod KeptFiles
pub mod KeptMessages
pub mod KeptOneofs
pub mod KeptOptions
pub mod KeptParts
