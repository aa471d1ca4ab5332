pub mod Carried
pub mod CarriedChoices
