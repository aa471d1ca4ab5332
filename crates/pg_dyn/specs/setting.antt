pub mod ContentFaults
pub mod Setting
