pub mod Declares
pub mod Files
pub mod Names
pub mod Outline
pub mod Resolves
pub mod Standing
