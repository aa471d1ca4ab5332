pub mod WorkedCalls
