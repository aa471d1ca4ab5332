pub mod BorrowedDepth
pub mod Copies
pub mod Depth
pub mod FaultSteps
pub mod PartsDepth
pub mod Reported
