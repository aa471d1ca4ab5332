pub mod LossLaws
pub mod Tables
