pub mod rules
pub mod parts
pub mod standing
pub mod admitting
pub mod RuleCodes
