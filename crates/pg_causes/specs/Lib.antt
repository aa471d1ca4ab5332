pub mod Names
pub mod Reasons
pub mod Why
pub mod Causes
pub mod TypeLines
pub mod Overview
