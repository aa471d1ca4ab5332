pub mod WorkedJson
