pub mod WorkedRules
