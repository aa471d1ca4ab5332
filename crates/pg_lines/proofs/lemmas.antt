pub mod Escapes
pub mod WorkedJson
